-- The measure is what is left of the cases. Assumes nothing.
use Rattle.std.proofs.Common.{◌-◌}
use Rattle.runs.proofs.read_lines.Given as goal

abbrev pub decreases-loop-at : goal.decreases-loop-at
decreases-loop-at g l = l.n - l.at
