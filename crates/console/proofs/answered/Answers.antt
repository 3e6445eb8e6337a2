-- The state is the line's, or as it was. Assumes nothing.
use Rattle.std.proofs.Common.{refl}
use Rattle.console.specs.Lines.{after_line}
use Rattle.console.proofs.answered.Goals as goal

pub returns-in-Whole : goal.returns-in-Whole
unfolding after_line
returns-in-Whole c = rw c.in-Whole.is c.answer_line.ensures.state

pub returns-in-TooLong : goal.returns-in-TooLong
unfolding after_line
returns-in-TooLong c = rw c.in-TooLong.is refl

pub returns-in-TooLongComment : goal.returns-in-TooLongComment
unfolding after_line
returns-in-TooLongComment c = rw c.in-TooLongComment.is refl
