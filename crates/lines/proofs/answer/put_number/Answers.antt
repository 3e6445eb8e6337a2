-- A blank, then the decimal. Assumes nothing.
use Rattle.lines.proofs.PutLaws.{put_more}
use Rattle.lines.proofs.answer.put_number.Goals as goal

pub returns : goal.returns
returns c = put_more c.put_byte-p.ensures c.put_decimal.ensures
