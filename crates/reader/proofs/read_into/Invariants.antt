-- Field by field, then a destination a turn. Assumes nothing.
use Rattle.reader.proofs.JobLaws.{Listed}
use Rattle.reader.proofs.read_into.Given as goal

abbrev pub invariant-loop-i : goal.invariant-loop-i
invariant-loop-i l = Listed l.journal l.from l.clock.value l.transport.value l.count.value l.list l.next l.i
