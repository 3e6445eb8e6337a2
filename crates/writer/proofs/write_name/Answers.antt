-- Once the number and the length are in their ranges and there is room: the numbers of the head, and then the word. Assumes nothing.
use Rattle.std.proofs.Common.{[], ◌∷◌, length, arith}
use Rattle.journal.specs.Records.{name}
use Rattle.writer.proofs.PartLaws.{passed, failed, stopped, Parts, full, numbers_fit, tail_fits, whole}
use Rattle.writer.proofs.RecordLaws.{name_number_lem, name_size, name_parts}
use Rattle.writer.proofs.write_name.Goals as goal
use Rattle.writer.proofs.write_name.Goals.{After-fits}

parts : (c : After-fits) → let a = c.args in Parts (name a.destination a.word.now) (0 ∷ a.destination ∷ length a.word.now ∷ []) a.word.now
parts c = name_parts (passed _ _ c.in_ok-in_range.ensures) (passed _ _ c.in_ok-in_range-2.ensures)

pub returns-in_err-in_range : goal.returns-in_err-in_range
returns-in_err-in_range c =
    let f = failed _ c.in_err-in_range.ensures in
    let w = stopped c.from_residual.result c.from_residual.ensures.1 f.1 (name_number_lem _ _ _ _ f.0) in
    record { answer = w.answer; bytes = w.bytes }

pub returns-in_err-in_range-2 : goal.returns-in_err-in_range-2
returns-in_err-in_range-2 c =
    let f = failed _ c.in_err-in_range-2.ensures in
    let w = stopped c.from_residual-in_err-in_range-2.result c.from_residual-in_err-in_range-2.ensures.1 f.1 (name_size _ _ _ _ f.0) in
    record { answer = w.answer; bytes = w.bytes }

pub returns-in_err-fits : goal.returns-in_err-fits
returns-in_err-fits c =
    let f = failed _ c.in_err-fits.ensures in
    let w = stopped c.from_residual-in_err-fits.result c.from_residual-in_err-fits.ensures.1 f.1 (full _ _ _ (parts (goal.at.returns-in_err-fits c).After-fits) (omega (arith, c.size_of_all.ensures.0)) f.0) in
    record { answer = w.answer; bytes = w.bytes }

pub put_numbers-at-requires : goal.put_numbers-at-requires
put_numbers-at-requires c =
    let o = parts (goal.at.put_numbers-at-requires c).After-fits in
    (o.smalls, numbers_fit _ _ _ o (omega (arith, c.size_of_all.ensures.0)) (passed _ _ c.in_ok-fits.ensures))

pub put_word-requires : goal.put_word-requires
put_word-requires c = tail_fits _ _ _ (parts (goal.at.put_word-requires c).After-fits) (omega (arith, c.size_of_all.ensures.0)) (passed _ _ c.in_ok-fits.ensures) c.put_numbers-at.ensures

pub returns : goal.returns
returns c =
    let w = whole _ _ _ (parts (goal.at.returns c).After-fits) (omega (arith, c.size_of_all.ensures.0)) (passed _ _ c.in_ok-fits.ensures) c.put_numbers-at.ensures c.put_word.ensures in
    record { answer = w.answer; bytes = w.bytes }
