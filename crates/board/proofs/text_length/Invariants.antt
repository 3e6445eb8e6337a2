-- The first line, then a line a turn. Assumes nothing.
use Rattle.board.proofs.TextLaws.{Counted}
use Rattle.board.proofs.text_length.Given as goal

abbrev pub invariant-loop-d : goal.invariant-loop-d
invariant-loop-d l = Counted l.clock l.count l.ds l.busy l.total l.d
