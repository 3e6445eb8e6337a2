-- A round counts one at most. Assumes nothing.
use Rattle.std.proofs.Common.{◌≤◌}
use Rattle.reads.proofs.reads.Given as goal

abbrev pub invariant-loop : goal.invariant-loop
invariant-loop l = l.good ≤ l.counter
