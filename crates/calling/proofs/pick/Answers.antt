-- State and text are those of the reply. Assumes nothing.
use Rattle.std.proofs.Common.{refl}
use Rattle.calling.proofs.LineLaws.{pick_malformed, pick_made}
use Rattle.calling.proofs.ReplyLaws.{as_line, malformed_said, pick_said}
use Rattle.calling.proofs.pick.Goals as goal

pub returns-then-words-ne1 : goal.returns-then-words-ne1
returns-then-words-ne1 c =
    let r = as_line _ (pick_malformed _ c.if-words-ne1.true) (malformed_said _ (c.malformed.ensures.state, c.malformed.ensures.text)) in
    record { state = r.0; text = r.1 }

pub returns : goal.returns
returns c =
    let r = as_line _ (pick_made _ c.if-words-ne1.false) (pick_said _ _ _ c.pick-r.ensures.reply c.pick.ensures (refl, refl)) in
    record { state = r.0; text = r.1 }
