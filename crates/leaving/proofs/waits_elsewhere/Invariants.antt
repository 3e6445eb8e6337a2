-- The result is the test over the destinations passed. Assumes nothing.
use mathlib.Core.Path.{◌≡◌}
use Rattle.laws.specs.Range.{any_to}
use Rattle.leaving.specs.Leaving.{elsewhere}
use Rattle.leaving.proofs.waits_elsewhere.Given as goal

abbrev pub invariant-loop-x : goal.invariant-loop-x
invariant-loop-x l = l.any ≡ any_to (elsewhere l.pairs l.d l.j) l.x
