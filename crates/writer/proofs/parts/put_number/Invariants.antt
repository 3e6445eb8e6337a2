-- What is left of the number is the measure. Assumes nothing.
use Rattle.writer.proofs.StoredLaws.{Left}
use Rattle.writer.proofs.parts.put_number.Given as goal

abbrev pub invariant-loop-y : goal.invariant-loop-y
invariant-loop-y l = Left l.x l.initial.buffer l.at l.buffer l.p l.y

abbrev pub decreases-loop-y : goal.decreases-loop-y
decreases-loop-y l = l.y
