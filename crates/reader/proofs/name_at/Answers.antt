-- A name stands just before its record's end. Assumes nothing.
use Rattle.std.proofs.Common.{◌≡◌, ◌-◌, ◌∙◌, ap, Ok, Some, arith}
use Rattle.std.specs.Option.{option_flatten}
use Rattle.journal.specs.Records.{read_at}
use Rattle.journal.specs.Told.{answer_of}
use Rattle.reader.proofs.ReadingLaws.{NamePart, name_told, told_none, told_some, told_other}
use Rattle.reader.proofs.name_at.Goals as goal
use Rattle.reader.proofs.name_at.Goals.{In-Some, In-Name}

pub returns-in_default : goal.returns-in_default
returns-in_default c =
    let r = told_none _ c.read_at.result.answer c.read_at.ensures.answer (c.in_default.ensures ∙ ap option_flatten c.ok.ensures.value) c.args.journal.ref_ptr in
    record { bytes = r.0; place = r.1 }

told : (c : In-Some) → let a = c.args in Ok (Some c.in-Some.found) ≡ answer_of (read_at a.journal.now a.offset)
told c = told_some _ c.read_at.result.answer c.read_at.ensures.answer (c.in-Some.ensures ∙ ap option_flatten c.ok.ensures.value)

pub returns-in_default-what : goal.returns-in_default-what
returns-in_default-what c =
    let r = told_other _ (told (goal.at.returns-in_default-what c).In-Some) c.in_default-what.not-Name c.args.journal.ref_ptr in
    record { bytes = r.0; place = r.1 }

part : (c : In-Name) → let a = c.args in NamePart a.journal.now (read_at a.journal.now a.offset) c.in-Name.length c.in-Some.found.next
part c = name_told _ _ (told (goal.at.In-Name c).In-Some) c.in-Name.is

pub overflow_sub-result : goal.overflow_sub-result
overflow_sub-result c = (part (goal.at.overflow_sub-result c).In-Name).before

pub slice_bounds-result-end-in-Name : goal.slice_bounds-result-end-in-Name
slice_bounds-result-end-in-Name c = (part (goal.at.slice_bounds-result-end-in-Name c).In-Name).within

pub returns-in-Name : goal.returns-in-Name
returns-in-Name c =
    let p = part (goal.at.returns-in-Name c).In-Name in
    let whole : c.in-Some.found.next - (c.in-Some.found.next - c.in-Name.length) ≡ c.in-Name.length = omega (arith, p.before) in
    record { bytes = rw whole p.is; place = ap (λ k. (c.args.journal.ref_ptr.0, k)) (omega (arith, p.start)) }
