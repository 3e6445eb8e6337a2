-- "Sound means", the clauses of the lists, over the columns that the code reads: destination orders, and the lists of jobs.
use Rattle.std.specs.Prelude.{ℕ, ◌+◌, ◌*◌, ◌≤◌, ◌<◌, ◌≡◌, Bool, true, false, ◌&&◌, List, length, get_or, eqb, leb}
use Rattle.laws.specs.Range.{all_to, table_to}
use Rattle.laws.specs.Sequence.{holds, times_in, every_in, holds_each_once}
use Rattle.rules.specs.declared.JobList.{JobList}
use Rattle.rules.specs.State.{at, zero_list, list_of}
use Rattle.rules.specs.Sound.{implies}

-- Destination orders.

-- the first n places of a job's order
unfoldable pub order_list : List ℕ → ℕ → ℕ → List ℕ
order_list order j n = table_to (λ k. at order (32 * j + k)) n

-- no number stands twice
unfoldable pub distinct : List ℕ → Bool
distinct l = every_in (λ d. eqb (times_in d l) 1) l

unfoldable pub order_test : List ℕ → ℕ → ℕ → Bool
order_test order j n = leb n 32 && distinct (order_list order j n)

-- the list's numbers are marked in the table, from base on, unless one stands twice
pub record Marked (l : List ℕ) (base : ℕ) (before after : List Bool) (r : Bool) : Type 0 where
  pub right : r ≡ distinct l
  pub size : length after ≡ 8192
  pub marks : r ≡ true → (d : ℕ) → d < 256 → get_or after (base + d) false ≡ holds d l
  pub below : (k : ℕ) → k < base → get_or after k false ≡ get_or before k false
  pub above : (k : ℕ) → base + 256 ≤ k → get_or after k false ≡ get_or before k false

-- each present job's order is, from 256 times the job's number on
pub record OrdersMarked (present : List Bool) (places order : List ℕ) (after : List Bool) (r : Bool) : Type 0 where
  pub right : r ≡ all_to (λ j. implies (get_or present j false) (order_test order j (at places j))) 32
  pub marks : r ≡ true → (j : ℕ) → j < 32 → get_or present j false ≡ true → (d : ℕ) → d < 256
      → get_or after (256 * j + d) false ≡ holds d (order_list order j (at places j))

-- Lists.

unfoldable pub queue_test : List JobList → List Bool → List ℕ → ℕ → Bool
queue_test queues present transport t =
    leb (get_or queues t zero_list).count 32
    && holds_each_once (λ j. get_or present j false && eqb (at transport j) t) 32 (list_of (get_or queues t zero_list))
