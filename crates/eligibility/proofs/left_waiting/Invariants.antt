-- `eligibility::left_waiting` meets its contract. Invariant: the table of zeros is filled below j. Assumes nothing.
use mathlib.Core.Path.{◌≡◌}
use mathlib.Core.List.{◌++◌}
use lib.ListN.{drop, replicate}
use Rattle.laws.specs.Range.{table_to}
use Rattle.eligibility.specs.Eligibility.{left_in}
use Rattle.eligibility.proofs.left_waiting.Given as goal

abbrev pub invariant-loop-j : goal.invariant-loop-j
invariant-loop-j l = l.waits ≡ table_to (left_in l.jobs.present l.jobs.n l.jobs.picked l.jobs.dropped) l.j ++ drop l.j (replicate 256 0)
