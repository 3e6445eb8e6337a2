-- `counting::column_sums` meets its contract. Invariant: the sums of the rows passed.
use Prim.Native.Nat.{ℕ, ◌+◌, ◌*◌, ◌<◌}
use mathlib.Core.Path.{◌≡◌}
use lib.ListN.{length}
use Rattle.rules.specs.State.{at}
use Rattle.laws.specs.Range.{sum_to}
use Rattle.counting.proofs.column_sums.Given as goal

abbrev pub invariant-loop-j : goal.invariant-loop-j
invariant-loop-j l = (length l.sums ≡ 32) × ((d : ℕ) → d < 32 → at l.sums d ≡ sum_to (λ i. at l.table (32 * i + d)) l.j)
