-- The line is nothing, malformed, or the call of its words. Assumes nothing.
use Rattle.std.proofs.Common.{refl, true, drop, refl, ap}
use Rattle.std.specs.Option.{is_some}
use Rattle.lines.specs.Words.{words_of, Read}
use Rattle.calling.proofs.AnswerLaws.{is_empty, is_comment, is_malformed, is_call}
use Rattle.calling.proofs.ReplyLaws.{as_line, nothing_said, malformed_said}
use Rattle.calling.proofs.answer_line.Goals as goal
use Rattle.calling.proofs.answer_line.Goals.{then-line-at-via-then-line-at, then-line-at-via-else-line-at+then-line-eq35}

pub returns-then-line-at : goal.returns-then-line-at
returns-then-line-at c = elim c.then-line-at.branch [
  | then-line-at-via-then-line-at w ↦
      let r = as_line _ (is_empty _ _ _ _ c.skip_blanks-at.ensures w.if-line-at.true) (nothing_said _ (refl, refl)) in
      record { state = r.0; text = r.1 }
  | then-line-at-via-else-line-at+then-line-eq35 w ↦
      let r = as_line _ (is_comment _ _ _ w.if-line-eq35.true) (nothing_said _ (refl, refl)) in
      record { state = r.0; text = r.1 }
]

pub returns-in_default : goal.returns-in_default
returns-in_default c =
    let r = as_line _
    (is_malformed _ _ _ _ _ c.skip_blanks-at.ensures c.if-line-at.false c.if-line-eq35.false c.find-end.ensures _ _ _ c.read_numbers.ensures (ap is_some c.in_default.is))
    (malformed_said _ (c.malformed.ensures.state, c.malformed.ensures.text)) in
    record { state = r.0; text = r.1 }

pub returns : goal.returns
returns c =
    let numbers : Read (words_of (drop c.find-end.result c.args.line.now)) true c.in-Some.k c.read_numbers.new.out = rw c.in-Some.is at c.read_numbers.ensures in
    let r = as_line _
    (is_call _ _ _ _ _ c.skip_blanks-at.ensures c.if-line-at.false c.if-line-eq35.false c.find-end.ensures true c.in-Some.k c.read_numbers.new.out numbers refl)
    (c.call.ensures.state, c.call.ensures.text) in
    record { state = r.0; text = r.1 }
