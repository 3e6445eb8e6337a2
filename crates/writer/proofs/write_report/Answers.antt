-- Once the fields are in their ranges and there is room: number by number. Assumes nothing.
use Rattle.std.proofs.Common.{[], ◌∷◌, arith}
use Rattle.journal.specs.Records.{report}
use Rattle.writer.proofs.PartLaws.{passed, failed, stopped, Parts, full, numbers_fit, whole, no_tail}
use Rattle.writer.proofs.RecordLaws.{report_clock, report_entry, report_ticket, report_outcome_lem, report_parts}
use Rattle.writer.proofs.write_report.Goals as goal
use Rattle.writer.proofs.write_report.Goals.{After-fits}

parts : (c : After-fits) → let a = c.args in Parts (report a.clock a.entry a.ticket a.outcome) (3 ∷ a.clock ∷ a.entry ∷ a.ticket ∷ a.outcome ∷ []) []
parts c = report_parts (passed _ _ c.in_ok-small.ensures) (passed _ _ c.in_ok-small-2.ensures) (passed _ _ c.in_ok-small-3.ensures) (passed _ _ c.in_ok-in_range.ensures)

pub returns-in_err-small : goal.returns-in_err-small
returns-in_err-small c =
    let f = failed _ c.in_err-small.ensures in
    let w = stopped c.from_residual.result c.from_residual.ensures.1 f.1 (report_clock _ _ _ _ _ _ f.0) in
    record { answer = w.answer; bytes = w.bytes }

pub returns-in_err-small-2 : goal.returns-in_err-small-2
returns-in_err-small-2 c =
    let f = failed _ c.in_err-small-2.ensures in
    let w = stopped c.from_residual-in_err-small-2.result c.from_residual-in_err-small-2.ensures.1 f.1 (report_entry _ _ _ _ _ _ f.0) in
    record { answer = w.answer; bytes = w.bytes }

pub returns-in_err-small-3 : goal.returns-in_err-small-3
returns-in_err-small-3 c =
    let f = failed _ c.in_err-small-3.ensures in
    let w = stopped c.from_residual-in_err-small-3.result c.from_residual-in_err-small-3.ensures.1 f.1 (report_ticket _ _ _ _ _ _ f.0) in
    record { answer = w.answer; bytes = w.bytes }

pub returns-in_err-in_range : goal.returns-in_err-in_range
returns-in_err-in_range c =
    let f = failed _ c.in_err-in_range.ensures in
    let w = stopped c.from_residual-in_err-in_range.result c.from_residual-in_err-in_range.ensures.1 f.1 (report_outcome_lem _ _ _ _ _ _ f.0) in
    record { answer = w.answer; bytes = w.bytes }

pub returns-in_err-fits : goal.returns-in_err-fits
returns-in_err-fits c =
    let f = failed _ c.in_err-fits.ensures in
    let w = stopped c.from_residual-in_err-fits.result c.from_residual-in_err-fits.ensures.1 f.1 (full _ _ _ (parts (goal.at.returns-in_err-fits c).After-fits) (omega (arith, c.size_of_all.ensures.0)) f.0) in
    record { answer = w.answer; bytes = w.bytes }

pub put_numbers-requires : goal.put_numbers-requires
put_numbers-requires c =
    let o = parts (goal.at.put_numbers-requires c).After-fits in
    (o.smalls, numbers_fit _ _ _ o (omega (arith, c.size_of_all.ensures.0)) (passed _ _ c.in_ok-fits.ensures))

pub returns : goal.returns
returns c =
    let w = whole _ _ _ (parts (goal.at.returns c).After-fits) (omega (arith, c.size_of_all.ensures.0)) (passed _ _ c.in_ok-fits.ensures) c.put_numbers.ensures no_tail in
    record { answer = w.answer; bytes = w.bytes }
