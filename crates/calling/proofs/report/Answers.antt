-- The part that is lent is as long as asked, or whole. Assumes nothing.
use Rattle.std.proofs.Common.{refl}
use Rattle.calling.proofs.LineLaws.{report_malformed, report_other, report_made, outcome_told}
use Rattle.calling.proofs.ReplyLaws.{as_line, malformed_said, report_said}
use Rattle.calling.proofs.report.Goals as goal

pub returns-then-words-ne5 : goal.returns-then-words-ne5
returns-then-words-ne5 c =
    let r = as_line _ (report_malformed _ _ c.if-words-ne5.true) (malformed_said _ (c.malformed.ensures.state, c.malformed.ensures.text)) in
    record { state = r.0; text = r.1 }

pub returns-in_default : goal.returns-in_default
returns-in_default c =
    let r = as_line _ (report_other _ _ c.if-words-ne5.false c.in_default.ensures.0) (malformed_said _ (c.malformed-in_default.ensures.state, c.malformed-in_default.ensures.text)) in
    record { state = r.0; text = r.1 }

pub returns : goal.returns
returns c =
    let o = outcome_told c.in-Ok.outcome c.in-Ok.ensures in
    let r = as_line _ (report_made _ _ _ _ c.if-words-ne5.false o.0 o.1 c.at_most-lent.ensures) (report_said _ _ _ _ _ _ _ _ _ c.report-r.ensures c.report.ensures (refl, refl)) in
    record { state = r.0; text = r.1 }
