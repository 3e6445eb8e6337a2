-- A byte at its place, or none where there is no place. Assumes nothing.
use Rattle.lines.proofs.PutLaws.{put_in, put_out}
use Rattle.lines.proofs.answer.put_byte.Goals as goal

pub returns-then-at-out : goal.returns-then-at-out
returns-then-at-out c = put_in _ _ _ c.if-at-out.true

pub returns : goal.returns
returns c = put_out _ _ _ c.if-at-out.false
