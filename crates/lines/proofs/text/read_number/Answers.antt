use Rattle.std.proofs.Common.{◌≡◌, ◌+◌, ◌*◌, ◌-◌, get_or, sym, ◌∙◌, arith}
use Rattle.lines.proofs.NumberLaws.{valued_start, valued_end, not_digit, too_large, valued_more}
use Rattle.lines.proofs.text.read_number.Goals as goal

pub loop-b-init : goal.loop-b-init
loop-b-init c = valued_start _

pub returns-then-not-is_ascii_digit : goal.returns-then-not-is_ascii_digit
returns-then-not-is_ascii_digit c = not_digit _ _ _ c.loop-b.invariant c.loop-b-test.true (sym c.if-not-is_ascii_digit.ensures.value)

pub returns-in_err-checked_mul : goal.returns-in_err-checked_mul
returns-in_err-checked_mul c = c.from_residual.ensures ∙ too_large _ _ _ c.loop-b.invariant c.loop-b-test.true (omega (arith, c.in_err-checked_mul.ensures))

pub returns-in_err-x : goal.returns-in_err-x
returns-in_err-x c = c.from_residual-in_err-x.ensures ∙ too_large _ _ _ c.loop-b.invariant c.loop-b-test.true (omega (arith, c.in_err-x.ensures, c.in_ok-checked_mul.ensures.1, c.from.ensures))

pub loop-b-preserved : goal.loop-b-preserved
loop-b-preserved c =
    let digit = c.if-not-is_ascii_digit.ensures.cases in
    let next : c.in_ok-x.x ≡ c.loop-b.x * 10 + (get_or c.args.word.now c.loop-b.b-index 0 - 48) = omega (arith, c.in_ok-x.ensures.1, c.in_ok-checked_mul.ensures.1, c.from.ensures) in
    rw next (valued_more _ _ _ c.loop-b.invariant c.loop-b-test.true digit.0 digit.1 (omega (arith, next, c.in_ok-x.ensures.0, c.in_ok-x.ensures.1)))

pub returns : goal.returns
returns c = valued_end _ _ _ c.loop-b.invariant c.loop-b-test.false
