-- One text behind the other. Assumes nothing.
use Rattle.lines.proofs.PutLaws.{put_more}
use Rattle.playing.proofs.printing.put_line.Goals as goal

pub returns : goal.returns
returns c = put_more c.put_decimal-p.ensures c.put_byte.ensures
