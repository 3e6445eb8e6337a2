-- One text behind the other. Assumes nothing.
use Rattle.lines.proofs.PutLaws.{put_more}
use Rattle.lines.proofs.answer.numbered.Goals as goal

pub returns : goal.returns
returns c = put_more (put_more c.put-at.ensures c.put_number-at.ensures) c.put_byte.ensures
