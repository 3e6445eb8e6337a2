-- The kind is read, then its fields; a refusal has the record's offset. Assumes nothing.
use Rattle.std.proofs.Common.{◌∙◌, refl, sym, arith}
use Rattle.journal.specs.Told.{answer_of, destinations_of}
use Rattle.journal.proofs.Extents.{read_past}
use Rattle.reader.proofs.RecordLaws.{reads_faulty, reads_name, reads_job, reads_pick, reads_report}
use Rattle.reader.proofs.ReadingLaws.{alone_told, name_alone, pick_alone, report_alone}
use Rattle.reader.proofs.read_at.Goals as goal

pub returns-then-journal-offset : goal.returns-then-journal-offset
unfolding answer_of destinations_of
returns-then-journal-offset c = alone_told c.alone.ensures (read_past _ _ c.if-journal-offset.true) refl refl

pub returns-in-Err : goal.returns-in-Err
unfolding answer_of destinations_of
returns-in-Err c = alone_told c.alone-in-Err.ensures (reads_faulty _ _ c.if-journal-offset.false (sym c.in-Err.ensures)) c.told_at.ensures refl

pub returns-in-0 : goal.returns-in-0
returns-in-0 c =
    alone_told c.alone-in-0.ensures (reads_name _ _ c.if-journal-offset.false (sym c.in-Ok.ensures) c.in-0.is) (c.told_at-in-0.ensures ∙ c.read_name.ensures c.args.offset)
    (name_alone _ _ _)

pub returns-in-1 : goal.returns-in-1
returns-in-1 c = rw (reads_job _ _ c.if-journal-offset.false (sym c.in-Ok.ensures) c.in-1.is) c.read_job.ensures

pub returns-in-2 : goal.returns-in-2
returns-in-2 c =
    alone_told c.alone-in-2.ensures (reads_pick _ _ c.if-journal-offset.false (sym c.in-Ok.ensures) c.in-2.is) (c.told_at-in-2.ensures ∙ c.read_pick.ensures c.args.offset)
    (pick_alone _ _ _)

pub returns : goal.returns
returns c =
    let other = c.in_default in
    alone_told c.alone-2.ensures
    (reads_report _ _ c.if-journal-offset.false (sym c.in-Ok.ensures) (λ h. omega (arith, other, h)) (λ h. omega (arith, other, h)) (λ h. omega (arith, other, h)))
    (c.told_at-2.ensures ∙ c.read_report.ensures c.args.offset) (report_alone _ _ _)
