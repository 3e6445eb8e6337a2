-- The line is nothing, no record, a name, or the record of its numbers. Assumes nothing.
use Rattle.std.proofs.Common.{true, drop, refl, ap}
use Rattle.std.specs.Option.{is_some}
use Rattle.lines.specs.Words.{words_of, Read}
use Rattle.record.specs.Lines.{line_of, Done, of_record}
use Rattle.std.proofs.lemmas.Result.{err_from_is_err_and}
use Rattle.lines.proofs.WordLaws.{same_is}
use Rattle.record.proofs.FrontLaws.{FirstWord, found_word}
use Rattle.record.proofs.LineLaws.{line_comment, line_empty, line_name, line_none, line_numbers}
use Rattle.record.proofs.DoneLaws.{done_as, nothing_done, none_done, ok_or_none, ok_or_some}
use Rattle.record.proofs.whole.Goals as goal
use Rattle.record.proofs.whole.Goals.{After-find-end, After-write_numbers}

word : (c : After-find-end) → FirstWord c.args.line.now c.skip_blanks-at.result c.find-end.result
word c = found_word _ _ _ c.skip_blanks-at.ensures c.find-end.ensures

pub returns-then-line-at : goal.returns-then-line-at
returns-then-line-at c = nothing_done (line_empty _ _ c.skip_blanks-at.ensures c.if-line-at.true)

pub returns-then-line-eq35 : goal.returns-then-line-eq35
returns-then-line-eq35 c = nothing_done (line_comment _ c.if-line-eq35.true)

pub returns-in_err-write_name : goal.returns-in_err-write_name
returns-in_err-write_name c =
    let p = err_from_is_err_and c.from_residual.result c.from_residual.ensures.1 in
    rw (p.1, p.2) (done_as (line_name _ _ _ (word (goal.at.returns-in_err-write_name c).After-find-end) c.if-line-at.false c.if-line-eq35.false (same_is _ c.eq.ensures c.as_slice.ensures c.if-eq.true))
    c.in_err-write_name.ensures)

pub returns-then-eq : goal.returns-then-eq
returns-then-eq c =
    done_as (line_name _ _ _ (word (goal.at.returns-then-eq c).After-find-end) c.if-line-at.false c.if-line-eq35.false (same_is _ c.eq.ensures c.as_slice.ensures c.if-eq.true))
    c.in_ok-write_name.ensures

pub returns-in_err-k : goal.returns-in_err-k
returns-in_err-k c =
    let p = err_from_is_err_and c.from_residual-in_err-k.result c.from_residual-in_err-k.ensures.1 in
    let n = ok_or_none _ c.in_err-k.ensures.value in
    rw (p.1, p.2, n.1) (none_done (line_none _ _ _ (word (goal.at.returns-in_err-k c).After-find-end) c.if-line-at.false c.if-line-eq35.false (same_is _ c.eq.ensures c.as_slice.ensures c.if-eq.false)
    _ _ _ c.read_numbers.ensures (ap is_some n.0)))

-- the words behind the first are numbers
numbers : (c : After-write_numbers) → Done (line_of c.args.line.now) (of_record c.write_numbers.result) c.write_numbers.new.out
numbers c =
    let n = ok_or_some _ _ c.in_ok-k.ensures.value in
    let r : Read (words_of (drop c.find-end.result c.args.line.now)) true c.in_ok-k.k c.read_numbers.new.out = rw n at c.read_numbers.ensures in
    done_as (line_numbers _ _ _ (word (goal.at.After-write_numbers c).After-find-end) c.if-line-at.false c.if-line-eq35.false (same_is _ c.eq.ensures c.as_slice.ensures c.if-eq.false)
    true c.in_ok-k.k c.read_numbers.new.out r refl) c.write_numbers.ensures

pub returns-in_err-write_numbers : goal.returns-in_err-write_numbers
returns-in_err-write_numbers c =
    let p = err_from_is_err_and c.from_residual-in_err-write_numbers.result c.from_residual-in_err-write_numbers.ensures.1 in
    let d = numbers (goal.at.returns-in_err-write_numbers c).After-write_numbers in
    rw (p.1, p.2) (rw c.in_err-write_numbers.was at d)

pub returns : goal.returns
returns c = let d = numbers (goal.at.returns c).After-write_numbers in rw c.in_ok-write_numbers.was at d
