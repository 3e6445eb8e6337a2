-- `counting::row_sums` meets its contract. Invariant: the places passed hold the sum of their row.
use Prim.Native.Nat.{ℕ, ◌+◌, ◌*◌, ◌<◌}
use mathlib.Core.Path.{◌≡◌}
use lib.ListN.{length}
use Rattle.rules.specs.State.{at}
use Rattle.laws.specs.Range.{sum_to}
use Rattle.counting.proofs.row_sums.Given as goal

abbrev pub invariant-loop-j : goal.invariant-loop-j
invariant-loop-j l = (length l.sums ≡ 32) × ((i : ℕ) → i < l.j → at l.sums i ≡ sum_to (λ d. at l.table (32 * i + d)) 32)
