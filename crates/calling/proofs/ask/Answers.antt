-- Asking leaves the state as it is, which is the reply's; so is the text. Assumes nothing.
use Rattle.std.proofs.Common.{refl}
use Rattle.calling.proofs.LineLaws.{ask_malformed, ask_made}
use Rattle.calling.proofs.ReplyLaws.{as_line, malformed_said, ask_said}
use Rattle.calling.proofs.ask.Goals as goal

pub returns-then-words-ne1 : goal.returns-then-words-ne1
returns-then-words-ne1 c =
    let r = as_line _ (ask_malformed _ c.if-words-ne1.true) (malformed_said _ (c.malformed.ensures.state, c.malformed.ensures.text)) in
    record { state = r.0; text = r.1 }

pub returns : goal.returns
returns c =
    let r = as_line _ (ask_made _ c.if-words-ne1.false) (ask_said _ _ _ c.ask.ensures c.ask-2.ensures (refl, refl)) in
    record { state = r.0; text = r.1 }
