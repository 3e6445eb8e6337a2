-- The result is the test over the entries passed. Assumes nothing.
use mathlib.Core.Path.{◌≡◌}
use Rattle.laws.specs.Range.{any_to}
use Rattle.leaving.specs.Leaving.{used_at}
use Rattle.leaving.proofs.has_entry.Given as goal

abbrev pub invariant-loop-e : goal.invariant-loop-e
invariant-loop-e l = l.any ≡ any_to (used_at l.kind l.job l.j) l.e
