-- Those below d are in their first state, the others zeros. Assumes nothing.
use Prim.Native.Nat.{◌≤◌}
use mathlib.Core.Path.{◌≡◌}
use Rattle.startup.proofs.FirstLaws.{first_to}
use Rattle.startup.proofs.first_destinations.Given as goal

abbrev pub invariant-loop-d : goal.invariant-loop-d
invariant-loop-d l = (l.ds ≡ first_to l.u l.d) × (l.d ≤ l.count) × (l.count ≤ 32)
