-- What the tables of the pass over the entries count, in the words of a state.
use Prim.Native.Nat.{ℕ, ◌+◌, ◌≤◌, ◌<◌}
use mathlib.Core.Bool.{Bool, ◌&&◌}
use mathlib.Core.Path.{◌≡◌}
use mathlib.Core.List.{List}
use native.Mathlib.Omega.{arith}
use lib.Dec.{eqb}
use Rattle.laws.specs.Range.{count_to}
use Rattle.rules.specs.declared.State.{State}
use Rattle.rules.specs.State.{at, is_waiting, destination_of, waits_of, busy_of, waiting_of}
use Rattle.rules.specs.Sound.{busy_on, busy_to}
use Rattle.counting.specs.declared.EntryCounts.{EntryCounts}
use Rattle.counting.specs.Counting.{Columns, columns, counts_to, Tables}

-- the columns that the pass over the entries reads
abbrev pub columns_of : State → List Bool → Columns
columns_of s table =
    columns s.entries.kind s.entries.job s.entries.destination s.jobs.present s.jobs.transport s.setup.home
    s.setup.destinations
    table

module _ (s : State) (table : List Bool) (r : EntryCounts) (tables : Tables (columns_of s table) 512 r.waiting r.busy r.held r.to r.on) where
  pub waiting_is : (j : ℕ) → j < 32 → at r.waiting j ≡ waiting_of s j
  unfolding counts_to waiting_of waits_of
  waiting_is j l = tables.waiting.counts j l

  pub busy_is : (j : ℕ) → j < 32 → at r.busy j ≡ count_to (busy_of s j) 512
  unfolding counts_to busy_of
  busy_is j l = tables.busy.counts j l

  pub held_is : (d : ℕ) → d < 32 → at r.held d ≡ count_to (λ e. is_waiting s e && eqb (destination_of s e) d) 512
  unfolding counts_to
  held_is d l = tables.held.counts d l

  pub to_is : (d : ℕ) → d < 32 → at r.to d ≡ count_to (busy_to s d) 512
  unfolding counts_to busy_to
  to_is d l = tables.to.counts d l

  pub on_is : (t : ℕ) → t < 4 → at r.on t ≡ count_to (busy_on s t) 512
  unfolding counts_to busy_on
  on_is t l = tables.on.counts t l

-- the two sizes that a comparison of tables asks for, and a sum of two counts, over plain numbers

pub few : {n a b size : ℕ} → n ≤ size → a ≡ size → b ≡ size → (n ≤ a) × (n ≤ b)
few l p q = (omega arith, omega arith)

pub sum_small : {a b : ℕ} → a ≤ 512 → b ≤ 512 → a + b < 65536
sum_small p q = omega arith
