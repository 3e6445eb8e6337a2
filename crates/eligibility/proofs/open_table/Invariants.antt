-- `eligibility::open_table` meets its contract. Invariant: below d, the table holds `is_open`. Assumes nothing.
use Prim.Native.Nat.{ℕ, ◌<◌}
use mathlib.Core.Path.{◌≡◌}
use mathlib.Core.Bool.{false}
use lib.ListN.{length, get_or}
use Rattle.eligibility.specs.Eligibility.{is_open}
use Rattle.eligibility.proofs.open_table.Given as goal

abbrev pub invariant-loop-d : goal.invariant-loop-d
invariant-loop-d l =
    (length l.table ≡ 256) × ((k : ℕ) → k < l.d → get_or l.table k false ≡ is_open l.ds l.busy l.setup k)
