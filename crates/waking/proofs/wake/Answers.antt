use Rattle.std.proofs.Common.{◌<◌, sym, ap, ◌∙◌, length, arith, rules}
use Rattle.laws.specs.Range.{table_to}
use Rattle.waking.specs.Waking.{setup_of}
use Rattle.waking.proofs.WakingLaws.{woken_none, woken_kept, woken_written, woken_all}
use Rattle.waking.proofs.wake.Goals as goal
use Rattle.waking.proofs.wake.Goals.{else-is_due, then-is_due}

pub loop-d-init : goal.loop-d-init
loop-d-init c = (woken_none _ _ _, search rules)

pub loop-d-preserved : goal.loop-d-preserved
loop-d-preserved c =
    let l : c.loop-d.d < length c.args.ds = omega (arith, c.loop-d.invariant.1, c.requires.0) in (
      elim c.if-is_due.branch [
        | then-is_due w ↦
            w.next-is ∙ woken_written _ (setup_of c.args.home.now c.args.settings c.args.count) _ _ _ c.loop-d.invariant.0 c.loop-d-test.true l _ (sym c.is_due.ensures ∙ w.if-is_due.true) w.first_state.ensures
        | else-is_due w ↦ w.next-is ∙ woken_kept _ (setup_of c.args.home.now c.args.settings c.args.count) _ _ _ c.loop-d.invariant.0 c.loop-d-test.true l (sym c.is_due.ensures ∙ w.if-is_due.false)
      ],
      c.loop-d.invariant.1,
    )

pub returns : goal.returns
returns c =
    c.loop-d.invariant.0 ∙ woken_all _ (setup_of c.args.home.now c.args.settings c.args.count) _ _ (omega arith) (omega (arith, c.loop-d.invariant.1, c.requires.0)) ∙ ap (table_to _) c.loop-d.invariant.1
