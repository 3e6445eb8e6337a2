-- What was read is the value of the digits so far. Assumes nothing.
use Rattle.lines.proofs.NumberLaws.{Valued}
use Rattle.lines.proofs.text.read_number.Given as goal

abbrev pub invariant-loop-b : goal.invariant-loop-b
invariant-loop-b l = Valued l.word l.x l.b-index
