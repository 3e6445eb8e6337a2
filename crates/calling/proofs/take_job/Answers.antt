-- The part that is lent is as long as asked, or whole. Assumes nothing.
use Rattle.std.proofs.Common.{refl}
use Rattle.calling.proofs.LineLaws.{job_short, job_other, job_made}
use Rattle.calling.proofs.ReplyLaws.{as_line, malformed_said, job_said}
use Rattle.calling.proofs.take_job.Goals as goal

pub returns-in_default : goal.returns-in_default
returns-in_default c =
    let r = as_line _ (job_short _ _ c.in_default.len_below) (malformed_said _ (c.malformed.ensures.state, c.malformed.ensures.text)) in
    record { state = r.0; text = r.1 }

pub returns-then-count-destinations : goal.returns-then-count-destinations
returns-then-count-destinations c =
    let r = as_line _ (job_other _ _ c.in-len4-up.len_at_least c.if-count-destinations.true)
    (malformed_said _ (c.malformed-then-count-destinations.ensures.state, c.malformed-then-count-destinations.ensures.text)) in
    record { state = r.0; text = r.1 }

pub returns : goal.returns
returns c =
    let r = as_line _ (job_made _ _ _ c.in-len4-up.len_at_least c.if-count-destinations.false c.at_most-lent.ensures)
    (job_said _ _ _ _ _ _ _ _ c.take_job-r.ensures c.job.ensures (refl, refl)) in
    record { state = r.0; text = r.1 }
