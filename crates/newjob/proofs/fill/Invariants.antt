-- The places so far are filled. Assumes nothing.
use Rattle.std.proofs.Common.{◌≡◌, length}
use Rattle.rules.specs.State.{at}
use Rattle.rules.specs.Taking.{filled}
use Rattle.newjob.proofs.fill.Given as goal

abbrev pub invariant-loop-e : goal.invariant-loop-e
invariant-loop-e l = l.column ≡ filled l.places (at l.values) (length l.yielded) l.initial.column
