-- Field by field. Assumes nothing.
use Rattle.std.proofs.Common.{sym, refl, arith}
use Rattle.std.proofs.lemmas.Result.{err_from_is_err_and}
use Rattle.rules.specs.Setup.{within}
use Rattle.rules.proofs.RangeFacts.{within_facts}
use Rattle.journal.specs.Told.{record_of, answer_of}
use Rattle.reader.proofs.RecordLaws.{stops, in_range, outcome_told, report_clock, report_entry, report_ticket, report_outcome_lem, report_whole}
use Rattle.reader.proofs.read_report.Goals as goal

pub returns-in_err-clock : goal.returns-in_err-clock
returns-in_err-clock c = λ start.
    let p = err_from_is_err_and c.from_residual.result c.from_residual.ensures.1 in
    rw (p.1, p.2) (stops (report_clock _ start _ (sym c.in_err-clock.ensures)))

pub returns-in_err-entry : goal.returns-in_err-entry
returns-in_err-entry c = λ start.
    let p = err_from_is_err_and c.from_residual-in_err-entry.result c.from_residual-in_err-entry.ensures.1 in
    rw (p.1, p.2) (stops (report_entry _ start _ (sym c.in_ok-clock.ensures) (sym c.in_err-entry.ensures)))

pub returns-in_err-ticket : goal.returns-in_err-ticket
returns-in_err-ticket c = λ start.
    let p = err_from_is_err_and c.from_residual-in_err-ticket.result c.from_residual-in_err-ticket.ensures.1 in
    rw (p.1, p.2) (stops (report_ticket _ start _ (sym c.in_ok-clock.ensures) (sym c.in_ok-entry.ensures) (sym c.in_err-ticket.ensures)))

pub returns-in_err-outcome : goal.returns-in_err-outcome
returns-in_err-outcome c = λ start.
    let p = err_from_is_err_and c.from_residual-in_err-outcome.result c.from_residual-in_err-outcome.ensures.1 in
    rw (p.1, p.2) (stops (report_outcome_lem _ start _ (sym c.in_ok-clock.ensures) (sym c.in_ok-entry.ensures) (sym c.in_ok-ticket.ensures)
    (sym c.in_err-outcome.ensures)))

pub returns-in_err-try_from : goal.returns-in_err-try_from
returns-in_err-try_from c =
    let low = within_facts {low = 0} {high = 1} (in_range (within 0 1) _ (sym c.in_ok-outcome.ensures)) in
    absurd (omega (arith, c.in_err-try_from.ensures.0, low.1))

pub returns : goal.returns
unfolding record_of answer_of
returns c = λ start.
    rw (
      report_whole _ start _ (sym c.in_ok-clock.ensures) (sym c.in_ok-entry.ensures) (sym c.in_ok-ticket.ensures) (sym c.in_ok-outcome.ensures),
      outcome_told _ c.in_ok-try_from.ensures,
    ) refl
