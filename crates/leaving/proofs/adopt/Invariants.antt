-- The places below j are adopted, the others as they were. Assumes nothing.
use mathlib.Core.Path.{◌≡◌}
use mathlib.Core.List.{◌++◌}
use lib.ListN.{drop}
use Rattle.laws.specs.Range.{table_to}
use Rattle.leaving.specs.Leaving.{adopted_at}
use Rattle.leaving.proofs.adopt.Given as goal

abbrev pub invariant-loop-j : goal.invariant-loop-j
invariant-loop-j l = l.next ≡ table_to (adopted_at l.stays l.parent) l.j ++ drop l.j l.parent
