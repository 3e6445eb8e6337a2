-- The measure is what is left of the cases. Assumes nothing.
use Prim.Native.Nat.{◌-◌, ◌≤◌}
use mathlib.Core.Path.{◌≡◌}
use lib.ListN.{length}
use Rattle.boundaries.proofs.run.Given as goal

abbrev pub invariant-loop-at : goal.invariant-loop-at
invariant-loop-at g l =
    (length l.words ≡ length l.initial.words) × (length l.list ≡ length l.initial.list) × (length l.written ≡ length l.initial.written) × (length l.out ≡ length l.initial.out) × (l.n ≤ length l.cases)

abbrev pub decreases-loop-at : goal.decreases-loop-at
decreases-loop-at g l = l.n - l.at
