-- The record is the one that the numbers say. Assumes nothing.
use Rattle.std.proofs.lemmas.Result.{err_from_is_err_and}
use Rattle.record.proofs.LineLaws.{job_short, job_other, job_said}
use Rattle.record.proofs.DoneLaws.{none_done, says_done, says_refused}
use Rattle.record.proofs.write_job.Goals as goal

pub returns-in_default : goal.returns-in_default
returns-in_default c = none_done (job_short _ c.in_default.len_below)

pub returns-then-count-destinations : goal.returns-then-count-destinations
returns-then-count-destinations c = none_done (job_other _ c.in-len3-up.len_at_least c.if-count-destinations.true)

pub returns-in_err-write_job : goal.returns-in_err-write_job
returns-in_err-write_job c =
    let p = err_from_is_err_and c.from_residual.result c.from_residual.ensures.1 in
    rw p.1 (says_refused _ _ (job_said _ c.in-len3-up.len_at_least c.if-count-destinations.false) c.requires c.write_job.ensures.bytes c.in_err-write_job.ensures.answer p.2)

pub returns : goal.returns
returns c = says_done _ _ (job_said _ c.in-len3-up.len_at_least c.if-count-destinations.false) c.requires c.write_job.ensures.bytes c.in_ok-write_job.ensures.answer
