-- The order of those so far, and which they are. Assumes nothing.
use Rattle.newjob.proofs.Ordering.{Seen}
use Rattle.newjob.proofs.firsts.Given as goal

abbrev pub invariant-loop-d : goal.invariant-loop-d
invariant-loop-d l = Seen l.kept l.seen l.places l.m l.d-index
