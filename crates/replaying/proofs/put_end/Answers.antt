-- One text behind the other: the board is granted, and stands whole in its buffer. Assumes nothing.
use Rattle.std.proofs.Common.{refl}
use Rattle.lines.proofs.PutLaws.{put_more, put_as}
use Rattle.replaying.specs.Replay.{end_text}
use Rattle.replaying.proofs.BoardLaws.{not_refused, wholly_written}
use Rattle.replaying.proofs.put_end.Goals as goal

pub returns-in-Err : goal.returns-in-Err
returns-in-Err c = absurd (not_refused _ c.requires _ refl c.board.ensures c.in-Err.is)

pub returns-in-Ok : goal.returns-in-Ok
unfolding end_text
returns-in-Ok c = put_more c.put_line-p.ensures (put_as (wholly_written _ c.requires _ refl c.board.ensures c.in-Ok.is c.at_most.ensures) c.put.ensures)
