-- The number ends at the first blank, and the name stands behind it. Assumes nothing.
use Rattle.std.proofs.Common.{◌≡◌, ◌+◌, ◌-◌, length, take, drop, sym, ◌∙◌}
use Rattle.std.proofs.lemmas.Result.{err_from_is_err_and}
use Rattle.journal.specs.Records.{name}
use Rattle.record.specs.Lines.{says, unblanked, name_line}
use Rattle.record.proofs.FrontLaws.{FirstWord, found_word}
use Rattle.record.proofs.LineLaws.{name_empty, name_ends, name_not, name_said}
use Rattle.record.proofs.DoneLaws.{none_done, ok_or_none, ok_or_some, says_done, says_refused}
use Rattle.record.proofs.write_name.Goals as goal
use Rattle.record.proofs.write_name.Goals.{After-find-end, In_ok-d}

-- the number, from where its end is found
word : (c : After-find-end) → FirstWord c.args.line.now c.skip_blanks-at.result c.find-end.result
word c = found_word _ _ _ c.skip_blanks-at.ensures c.find-end.ensures

pub returns-then-end-at : goal.returns-then-end-at
returns-then-end-at c = none_done (name_empty _ _ _ (word (goal.at.returns-then-end-at c).After-find-end) c.if-end-at.true)

pub returns-then-n-end : goal.returns-then-n-end
returns-then-n-end c = none_done (name_ends _ _ _ (word (goal.at.returns-then-n-end c).After-find-end) c.if-n-end.true)

pub returns-in_err-d : goal.returns-in_err-d
returns-in_err-d c =
    let p = err_from_is_err_and c.from_residual.result c.from_residual.ensures.1 in
    let n = ok_or_none _ c.in_err-d.ensures.value in
    rw (p.1, p.2, n.1) (none_done (name_not _ _ _ (word (goal.at.returns-in_err-d c).After-find-end) (sym c.read_number.ensures ∙ n.0)))

said : (c : In_ok-d) → let line = c.args.line.now in name_line (unblanked line) ≡ says (name c.in_ok-d.d (take (length line - (c.find-end.result + 1)) (drop (c.find-end.result + 1) line)))
said c = name_said _ _ _ (word (goal.at.In_ok-d c).After-find-end) _ c.if-end-at.false c.if-n-end.false (sym c.read_number.ensures ∙ ok_or_some _ _ c.in_ok-d.ensures.value)

pub returns-in_err-write_name : goal.returns-in_err-write_name
returns-in_err-write_name c =
    let p = err_from_is_err_and c.from_residual-in_err-write_name.result c.from_residual-in_err-write_name.ensures.1 in
    rw p.1 (says_refused _ _ (said (goal.at.returns-in_err-write_name c).In_ok-d) c.requires c.write_name.ensures.bytes c.in_err-write_name.ensures.answer p.2)

pub returns : goal.returns
returns c = says_done _ _ (said (goal.at.returns c).In_ok-d) c.requires c.write_name.ensures.bytes c.in_ok-write_name.ensures.answer
