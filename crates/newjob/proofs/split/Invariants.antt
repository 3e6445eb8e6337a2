-- Parted up to i. Assumes nothing.
use Rattle.newjob.proofs.Parting.{Parting}
use Rattle.newjob.proofs.split.Given as goal

abbrev pub invariant-loop-i : goal.invariant-loop-i
invariant-loop-i l = Parting l.dead l.dests l.initial.list l.list l.kept l.n l.m l.i
