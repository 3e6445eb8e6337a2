use Rattle.std.proofs.Common.{◌+◌, ◌-◌, ◌≡◌, refl, arith}
use Rattle.fields.proofs.GroupLaws.{first_cut, first_last, first_more, none_left, then_cut, place_small, then_more, last_zero, last_large, last_is}
use Rattle.fields.proofs.FieldLaws.{told_any}
use Rattle.fields.proofs.number.Goals as goal
use Rattle.fields.proofs.number.Goals.{then-b-eq0-via-then-b-eq0, then-b-eq0-via-else-b-eq0+then-value-gt4294967295}

pub returns-then-n-offset : goal.returns-then-n-offset
returns-then-n-offset c = told_any (first_cut _ _ c.if-n-offset.true) refl

pub returns-then-first-lt128 : goal.returns-then-first-lt128
returns-then-first-lt128 c = told_any (first_last _ _ c.if-n-offset.false c.from-first.ensures c.if-first-lt128.true) refl

pub loop-at-init : goal.loop-at-init
loop-at-init c =
    let four : c.args.offset + 5 - (c.args.offset + 1) ≡ 4 = omega arith in
    rw four (first_more _ _ c.if-n-offset.false c.from-first.ensures c.if-first-lt128.false (omega (arith, c.type_inv.journal c.args.offset)))

pub returns-then-n-at : goal.returns-then-n-at
returns-then-n-at c = told_any (then_cut _ _ c.loop-at.invariant (omega arith) c.if-n-at.true) refl

pub returns-then-b-eq0 : goal.returns-then-b-eq0
returns-then-b-eq0 c = elim c.then-b-eq0.branch [
  | then-b-eq0-via-then-b-eq0 w ↦ told_any (last_zero _ _ c.loop-at.invariant (omega arith) c.if-n-at.false c.from-b.ensures c.if-b-lt128.true w.if-b-eq0.true) refl
  | then-b-eq0-via-else-b-eq0+then-value-gt4294967295 w ↦
      told_any (last_large _ _ c.loop-at.invariant (omega arith) c.if-n-at.false c.from-b.ensures c.if-b-lt128.true w.if-b-eq0.false w.if-value-gt4294967295.true) refl
]

pub returns-then-b-lt128 : goal.returns-then-b-lt128
returns-then-b-lt128 c = told_any (last_is _ _ c.loop-at.invariant (omega arith) c.if-n-at.false c.from-b.ensures c.if-b-lt128.true c.if-b-eq0.false c.if-value-gt4294967295.false) refl

pub overflow_mul-place : goal.overflow_mul-place
overflow_mul-place c = omega (arith, place_small _ _ c.loop-at.invariant (omega arith))

pub loop-at-preserved : goal.loop-at-preserved
loop-at-preserved c =
    let less : c.args.offset + 5 - c.loop-at.at - 1 ≡ c.args.offset + 5 - (c.loop-at.at + 1) = omega arith in
    rw less at (then_more _ _ c.loop-at.invariant (omega arith) c.if-n-at.false c.from-b.ensures c.if-b-lt128.false (omega (arith, c.type_inv.journal c.loop-at.at)))

pub returns : goal.returns
returns c = told_any (none_left _ _ c.loop-at.invariant (omega arith)) refl
