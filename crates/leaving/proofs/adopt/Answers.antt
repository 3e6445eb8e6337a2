use Rattle.std.proofs.Common.{◌≡◌, ◌<◌, ◌∙◌, sym, length, rules, arith, add-one}
use Rattle.laws.proofs.Bools.{if_true, if_false}
use Rattle.laws.proofs.Fill.{fill_none, fill_more, fill_all, table_keep}
use Rattle.leaving.specs.Leaving.{adopted_at}
use Rattle.leaving.proofs.adopt.Goals as goal
use Rattle.leaving.proofs.adopt.Goals.{else-stays-j, then-stays-j}

pub loop-j-init : goal.loop-j-init
loop-j-init c = fill_none (adopted_at c.args.stays.now c.args.parent.now) c.args.parent.now

pub loop-j-preserved : goal.loop-j-preserved
loop-j-preserved c =
    let f = adopted_at c.args.stays.now c.args.parent.now in
    let l : c.loop-j.j < length c.args.parent.now = omega arith in
    elim c.if-stays-j.branch [
      | then-stays-j w ↦ w.next-is ∙ fill_more f c.args.parent.now c.loop-j.j l c.loop-j.invariant (w.nearest.ensures ∙ sym (if_true _ _ w.if-stays-j.true))
      | else-stays-j w ↦ w.next-is ∙ c.loop-j.invariant ∙ rw add-one (table_keep f 0 c.args.parent.now c.loop-j.j l (if_false _ _ w.if-stays-j.false))
    ]

pub returns : goal.returns
returns c = let e : c.loop-j.j ≡ 32 = omega arith in fill_all (adopted_at c.args.stays.now c.args.parent.now) c.args.parent.now 32 (search rules) (rw e at c.loop-j.invariant)
