-- Below j it is said who stays; from j on stands who was present. Assumes nothing.
use mathlib.Core.List.{◌++◌}
use mathlib.Core.Path.{◌≡◌}
use lib.ListN.{length, drop}
use Rattle.laws.specs.Range.{table_to}
use Rattle.leaving.specs.Leaving.{stays_at}
use Rattle.leaving.proofs.left_with_some.Given as goal

abbrev pub invariant-loop-j : goal.invariant-loop-j
invariant-loop-j l = (l.stays ≡ table_to (stays_at l.kind l.job l.present 512) l.j ++ drop l.j l.present) × (length l.present ≡ 32)
