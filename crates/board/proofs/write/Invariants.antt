-- The clock's line, then a line a turn, each lent the rest of the buffer. Assumes nothing.
use Rattle.board.proofs.TextLaws.{Going}
use Rattle.board.proofs.write.Given as goal

abbrev pub invariant-loop-d : goal.invariant-loop-d
invariant-loop-d l = Going l.clock l.count l.ds l.busy l.initial.buf l.buf l.at l.d
