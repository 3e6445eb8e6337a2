-- The numbers are those of a set-up where it has a place of D. Assumes nothing.
use Rattle.calling.proofs.LineLaws.{setup_malformed, setup_made}
use Rattle.calling.proofs.ReplyLaws.{as_line, malformed_said, setup_said}
use Rattle.calling.proofs.set_up.Goals as goal

pub returns-in-Some : goal.returns-in-Some
returns-in-Some c =
    let r = as_line _ (setup_made _ c.in-Some.ensures.place c.setup_of.ensures) (setup_said _ _ (c.start.ensures.state, c.start.ensures.text)) in
    record { state = r.0; text = r.1 }

pub returns-in-None : goal.returns-in-None
returns-in-None c =
    let r = as_line _ (setup_malformed _ c.in-None.ensures.place) (malformed_said _ (c.malformed.ensures.state, c.malformed.ensures.text)) in
    record { state = r.0; text = r.1 }
