-- Once the fields are in their ranges and there is room: the numbers of the head, and then the destinations. Assumes nothing.
use Rattle.std.proofs.Common.{[], ◌∷◌, length, arith}
use Rattle.rules.proofs.RangeFacts.{within_facts}
use Rattle.journal.specs.Records.{job}
use Rattle.journal.specs.Writes.{numbers_bytes}
use Rattle.writer.proofs.PartLaws.{passed, failed, stopped, Parts, full, numbers_fit, tail_fits, whole}
use Rattle.writer.proofs.RecordLaws.{job_clock, job_transport, job_count_lem, job_large, job_parts}
use Rattle.writer.proofs.write_job.Goals as goal
use Rattle.writer.proofs.write_job.Goals.{After-fits}

parts : (c : After-fits) → let a = c.args in Parts (job a.clock a.transport a.destinations.now) (1 ∷ a.clock ∷ a.transport ∷ length a.destinations.now ∷ []) (numbers_bytes a.destinations.now)
parts c = job_parts (passed _ _ c.in_ok-small.ensures) (passed _ _ c.in_ok-small-2.ensures) (passed _ _ c.in_ok-in_range.ensures) (passed _ _ c.in_ok-all_small.ensures)

pub returns-in_err-small : goal.returns-in_err-small
returns-in_err-small c =
    let f = failed _ c.in_err-small.ensures in
    let w = stopped c.from_residual.result c.from_residual.ensures.1 f.1 (job_clock _ _ _ _ _ f.0) in
    record { answer = w.answer; bytes = w.bytes }

pub returns-in_err-small-2 : goal.returns-in_err-small-2
returns-in_err-small-2 c =
    let f = failed _ c.in_err-small-2.ensures in
    let w = stopped c.from_residual-in_err-small-2.result c.from_residual-in_err-small-2.ensures.1 f.1 (job_transport _ _ _ _ _ f.0) in
    record { answer = w.answer; bytes = w.bytes }

pub returns-in_err-in_range : goal.returns-in_err-in_range
returns-in_err-in_range c =
    let f = failed _ c.in_err-in_range.ensures in
    let w = stopped c.from_residual-in_err-in_range.result c.from_residual-in_err-in_range.ensures.1 f.1 (job_count_lem _ _ _ _ _ f.0) in
    record { answer = w.answer; bytes = w.bytes }

pub returns-in_err-all_small : goal.returns-in_err-all_small
returns-in_err-all_small c =
    let f = failed _ c.in_err-all_small.ensures in
    let w = stopped c.from_residual-in_err-all_small.result c.from_residual-in_err-all_small.ensures.1 f.1 (job_large _ _ _ _ _ f.0) in
    record { answer = w.answer; bytes = w.bytes }

pub size_of_all-requires-2 : goal.size_of_all-requires-2
size_of_all-requires-2 c = (within_facts {low = 1} {high = 256} {x = length c.args.destinations.now} (passed _ _ c.in_ok-in_range.ensures)).1

pub returns-in_err-fits : goal.returns-in_err-fits
returns-in_err-fits c =
    let f = failed _ c.in_err-fits.ensures in
    let w = stopped c.from_residual-in_err-fits.result c.from_residual-in_err-fits.ensures.1 f.1 (full _ _ _ (parts (goal.at.returns-in_err-fits c).After-fits) (omega (arith, c.size_of_all.ensures.0, c.size_of_all-2.ensures.0)) f.0) in
    record { answer = w.answer; bytes = w.bytes }

pub put_numbers-at-requires : goal.put_numbers-at-requires
put_numbers-at-requires c =
    let o = parts (goal.at.put_numbers-at-requires c).After-fits in
    (o.smalls, numbers_fit _ _ _ o (omega (arith, c.size_of_all.ensures.0, c.size_of_all-2.ensures.0)) (passed _ _ c.in_ok-fits.ensures))

pub put_numbers-requires : goal.put_numbers-requires
put_numbers-requires c =
    let o = parts (goal.at.put_numbers-requires c).After-fits in
    (passed _ _ c.in_ok-all_small.ensures, tail_fits _ _ _ o (omega (arith, c.size_of_all.ensures.0, c.size_of_all-2.ensures.0)) (passed _ _ c.in_ok-fits.ensures) c.put_numbers-at.ensures)

pub returns : goal.returns
returns c =
    let w = whole _ _ _ (parts (goal.at.returns c).After-fits) (omega (arith, c.size_of_all.ensures.0, c.size_of_all-2.ensures.0)) (passed _ _ c.in_ok-fits.ensures) c.put_numbers-at.ensures c.put_numbers.ensures in
    record { answer = w.answer; bytes = w.bytes }
