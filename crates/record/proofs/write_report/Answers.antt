-- The record is the one that the numbers say. Assumes nothing.
use Rattle.std.proofs.Common.{arith}
use Rattle.std.proofs.lemmas.Result.{err_from_is_err_and}
use Rattle.record.proofs.LineLaws.{report_none, report_said}
use Rattle.record.proofs.DoneLaws.{none_done, says_done, says_refused}
use Rattle.record.proofs.write_report.Goals as goal

pub returns-in_default : goal.returns-in_default
returns-in_default c = none_done (report_none _ (λ q. omega (arith, q, c.in_default.len_below)))

pub returns-in_default-2 : goal.returns-in_default-2
returns-in_default-2 c = none_done (report_none _ (λ q. omega (arith, q, c.in_default.len_at_least)))

pub returns-in_err-write_report : goal.returns-in_err-write_report
returns-in_err-write_report c =
    let p = err_from_is_err_and c.from_residual.result c.from_residual.ensures.1 in
    rw p.1 (says_refused _ _ (report_said _ (omega (arith, c.in-len4.len_at_least, c.in-len4.len_below))) c.requires c.write_report.ensures.bytes c.in_err-write_report.ensures.answer p.2)

pub returns : goal.returns
returns c = says_done _ _ (report_said _ (omega (arith, c.in-len4.len_at_least, c.in-len4.len_below))) c.requires c.write_report.ensures.bytes c.in_ok-write_report.ensures.answer
