-- After i entries: `PutTo` of PutOffLaws. Assumes nothing.
use Rattle.settling.proofs.PutOffLaws.{PutTo}
use Rattle.settling.proofs.put_off.Given as goal

abbrev pub invariant-loop-i : goal.invariant-loop-i
invariant-loop-i l = PutTo l.d l.initial.kind l.job l.destination l.initial.dropped l.initial.list l.i l.kind l.dropped l.list l.m
