-- The part that is lent is as long as asked, or whole. Assumes nothing.
use Rattle.std.proofs.Common.{refl}
use Rattle.calling.proofs.LineLaws.{board_malformed, board_made}
use Rattle.calling.proofs.ReplyLaws.{as_line, malformed_said, board_said}
use Rattle.calling.proofs.board.Goals as goal

pub returns-then-words-ne1 : goal.returns-then-words-ne1
returns-then-words-ne1 c =
    let r = as_line _ (board_malformed _ _ c.if-words-ne1.true) (malformed_said _ (c.malformed.ensures.state, c.malformed.ensures.text)) in
    record { state = r.0; text = r.1 }

pub returns : goal.returns
returns c =
    let r = as_line _ (board_made _ _ _ c.if-words-ne1.false c.at_most-lent.ensures) (board_said _ _ _ _ _ c.board-a.ensures c.board.ensures (refl, refl)) in
    record { state = r.0; text = r.1 }
