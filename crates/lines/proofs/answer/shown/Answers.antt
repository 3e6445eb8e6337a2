-- Byte 10 is shown as another. Assumes nothing.
use Rattle.lines.proofs.PutLaws.{shown_end, shown_other}
use Rattle.lines.proofs.answer.shown.Goals as goal

pub returns-then-b-eq10 : goal.returns-then-b-eq10
returns-then-b-eq10 c = shown_end _ c.if-b-eq10.true

pub returns-else-b-eq10 : goal.returns-else-b-eq10
returns-else-b-eq10 c = shown_other _ c.if-b-eq10.false
