-- One text behind the other. Assumes nothing.
use Rattle.std.proofs.Common.{sym}
use Rattle.rules.specs.Board.{numbered}
use Rattle.lines.proofs.PutLaws.{put_case, put_more}
use Rattle.lines.proofs.answer.picked.Goals as goal

pub returns : goal.returns
returns c =
    let a = put_more c.put-at.ensures (put_case numbered (sym c.from.ensures) c.put_number-at.ensures) in
    let b = put_more a (put_case numbered (sym c.from-2.ensures) c.put_number-at-2.ensures) in
    let d = put_more b (put_case numbered (sym c.from-3.ensures) c.put_number-at-3.ensures) in
    put_more (put_more d (put_case numbered (sym c.from-4.ensures) c.put_number-at-4.ensures)) c.put_byte.ensures
