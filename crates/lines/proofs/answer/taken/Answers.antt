-- One text behind the other. Assumes nothing.
use Rattle.std.proofs.Common.{sym}
use Rattle.rules.specs.Board.{numbered}
use Rattle.lines.proofs.PutLaws.{put_case, put_more}
use Rattle.lines.proofs.answer.taken.Goals as goal

pub returns : goal.returns
returns c =
    let a = put_more c.put-at.ensures (put_case numbered (sym c.from.ensures) c.put_number-at.ensures) in
    let b = put_more a c.put_list-at.ensures in
    put_more b c.put_byte.ensures
