-- One word after the other. Assumes nothing.
use Rattle.lines.proofs.WordLaws.{same_is}
use Rattle.record.proofs.LineLaws.{numbers_job, numbers_pick, numbers_report, numbers_none}
use Rattle.record.proofs.DoneLaws.{done_as, none_done}
use Rattle.record.proofs.write_numbers.Goals as goal

pub returns-then-eq : goal.returns-then-eq
returns-then-eq c = done_as (numbers_job _ _ (same_is _ c.eq.ensures c.as_slice.ensures c.if-eq.true)) c.write_job.ensures

pub returns-then-eq-2 : goal.returns-then-eq-2
returns-then-eq-2 c =
    let a = same_is _ c.eq.ensures c.as_slice.ensures c.if-eq.false in
    done_as (numbers_pick _ _ a (same_is _ c.eq-2.ensures c.as_slice-2.ensures c.if-eq-2.true)) c.write_pick.ensures

pub returns-then-eq-3 : goal.returns-then-eq-3
returns-then-eq-3 c =
    let a = same_is _ c.eq.ensures c.as_slice.ensures c.if-eq.false in
    let b = same_is _ c.eq-2.ensures c.as_slice-2.ensures c.if-eq-2.false in
    done_as (numbers_report _ _ a b (same_is _ c.eq-3.ensures c.as_slice-3.ensures c.if-eq-3.true)) c.write_report.ensures

pub returns : goal.returns
returns c =
    let a = same_is _ c.eq.ensures c.as_slice.ensures c.if-eq.false in
    let b = same_is _ c.eq-2.ensures c.as_slice-2.ensures c.if-eq-2.false in
    none_done (numbers_none _ _ a b (same_is _ c.eq-3.ensures c.as_slice-3.ensures c.if-eq-3.false))
