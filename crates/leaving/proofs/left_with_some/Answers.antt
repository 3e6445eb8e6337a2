use Rattle.std.proofs.Common.{◌≡◌, ◌<◌, ◌∙◌, ◌++◌, sym, ap, length, drop, rules, arith}
use Rattle.laws.specs.Range.{table_to}
use Rattle.laws.proofs.Fill.{fill_none, fill_more, fill_all}
use Rattle.leaving.specs.Leaving.{stays_at, emptied}
use Rattle.leaving.proofs.Marks.{stay_kept, stays_both, stays_absent}
use Rattle.leaving.proofs.left_with_some.Goals as goal
use Rattle.leaving.proofs.left_with_some.Goals.{then-may_be_empty, then-present-j, else-present-j, else-may_be_empty}

pub loop-j-init : goal.loop-j-init
loop-j-init c = (fill_none _ _, search rules)

pub loop-j-preserved : goal.loop-j-preserved
loop-j-preserved c =
    let stay = stays_at c.args.kind.now c.args.job.now c.args.present 512 in
    let l : c.loop-j.j < length c.args.present = omega (arith, c.loop-j.invariant.1) in (
      elim c.if-may_be_empty.branch [
        | then-may_be_empty w ↦ w.stays-is ∙ fill_more stay c.args.present c.loop-j.j l c.loop-j.invariant.0
            (elim w.if-present-j.branch [
              | then-present-j v ↦ v.stays-is ∙ stays_both c.args.kind.now c.args.job.now c.args.present c.loop-j.j v.if-present-j.true v.has_entry.ensures
              | else-present-j v ↦ v.stays-is ∙ v.if-present-j.false ∙ stays_absent c.args.kind.now c.args.job.now c.args.present c.loop-j.j v.if-present-j.false
            ])
        | else-may_be_empty w ↦ w.stays-is ∙ c.loop-j.invariant.0
            ∙ stay_kept c.args.kind.now c.args.job.now c.args.present
            (emptied c.args.pairs.now c.args.d c.args.of) c.requires.1
            c.loop-j.j c.loop-j-test.true l (sym c.may_be_empty.ensures ∙ w.if-may_be_empty.false)
      ],
      c.loop-j.invariant.1,
    )

pub returns : goal.returns
returns c =
    let e : c.loop-j.j ≡ 32 = omega arith in
    fill_all (stays_at c.args.kind.now c.args.job.now c.args.present 512) c.args.present 32 c.loop-j.invariant.1
    (c.loop-j.invariant.0 ∙ ap (λ j. table_to (stays_at c.args.kind.now c.args.job.now c.args.present 512) j ++ drop j c.args.present) e)
