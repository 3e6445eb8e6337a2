-- Turns, over columns: of the transports and their lists, and of the places of a job's destination order.
use Rattle.std.specs.Prelude.{ℕ, ◌+◌, ◌*◌, ◌%◌, ◌≤◌, ◌<◌, ◌≡◌, Bool, false, List, length, get_or, ltb}
use Rattle.laws.specs.Sequence.{first_of, up_to, count_in}
use Rattle.rules.specs.declared.JobList.{JobList}
use Rattle.rules.specs.State.{at, zero_list, list_of}
use Rattle.rules.specs.Picking.{steps_to}
use Rattle.eligibility.specs.Eligibility.{open_place}

-- the first job of a list that is ready, and 32 where none is
unfoldable pub front_of : List Bool → List ℕ → ℕ
front_of ready l = first_of (λ j. get_or ready j false) l 32

-- how many jobs of a list before job y have a waiting entry
unfoldable pub ahead_of : List ℕ → List ℕ → ℕ → ℕ
ahead_of waits l y = count_in (λ j. ltb 0 (at waits j)) (up_to y l)

-- some job of the transport's list is ready
unfoldable pub has_front : List Bool → List JobList → ℕ → Bool
has_front ready queues t = ltb (front_of ready (list_of (get_or queues t zero_list))) 32

-- how far from `start` on the first such transport is
unfoldable pub front_steps : List Bool → List JobList → ℕ → ℕ → ℕ
front_steps ready queues n start = steps_to (has_front ready queues) n start

-- each list of the first n has its length, and its count is within it
abbrev pub Lists : List JobList → ℕ → Type 0
Lists queues n = (t : ℕ) → t < n → ((get_or queues t zero_list).count ≤ 32) × (length (get_or queues t zero_list).jobs ≡ 32)

-- a turn of transports, where one has it: which it is, its current job, how many that passed over
pub record Turned (queues : List JobList) (n start : ℕ) (waits : List ℕ) (ready : List Bool) (transport job passed : ℕ) : Type 0 where
  pub finds : front_steps ready queues n start < n
  pub on : transport ≡ (start + front_steps ready queues n start) % n
  pub current : job ≡ front_of ready (list_of (get_or queues transport zero_list))
  pub ahead : passed ≡ ahead_of waits (list_of (get_or queues transport zero_list)) job

-- a turn of the places of an order, where there is such a place
pub record Placed (order pairs : List ℕ) (room : List Bool) (j n start place destination : ℕ) : Type 0 where
  pub finds : steps_to (open_place order pairs room j) n start < n
  pub turn : place ≡ (start + steps_to (open_place order pairs room j) n start) % n
  pub taken : destination ≡ at order (32 * j + place)
