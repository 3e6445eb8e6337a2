-- The table of the first d, and what the array had behind them. Assumes nothing.
use Prim.Native.Nat.{◌≤◌}
use mathlib.Core.List.{◌++◌}
use mathlib.Core.Path.{◌≡◌}
use lib.ListN.{length, drop}
use Rattle.laws.specs.Range.{table_to}
use Rattle.admission.specs.Admission.{dead_on}
use Rattle.admission.proofs.dead_table.Given as goal

abbrev pub invariant-loop-d : goal.invariant-loop-d
invariant-loop-d l = (l.dead ≡ table_to (dead_on l.ds) l.d ++ drop l.d l.initial.dead) × (l.d ≤ 32) × (length l.initial.dead ≡ 32)
