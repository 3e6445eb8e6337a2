use Rattle.std.proofs.Common.{◌≡◌, length, arith}
use Rattle.laws.specs.Sequence.{padded}
use Rattle.laws.proofs.Firsts.{firsts_length}
use Rattle.rules.specs.Taking.{new_order}
use Rattle.newjob.proofs.Ordering.{seen_none, seen_room, seen_new, seen_again}
use Rattle.newjob.proofs.firsts.Goals as goal
use Rattle.newjob.proofs.firsts.Goals.{else-not-seen-d, then-not-seen-d}

pub loop-d-init : goal.loop-d-init
unfolding padded
loop-d-init c = seen_none c.args.kept.now

pub bounds-places-m : goal.bounds-places-m
bounds-places-m c = seen_room c.loop-d.invariant (λ k h. c.requires k (omega arith)) c.if-not-seen-d.true

pub overflow_add-m : goal.overflow_add-m
overflow_add-m c = omega (arith, seen_room c.loop-d.invariant (λ k h. c.requires k (omega arith)) c.if-not-seen-d.true)

pub loop-d-preserved : goal.loop-d-preserved
loop-d-preserved c =
    elim c.if-not-seen-d.branch [
      | then-not-seen-d w ↦ seen_new c.loop-d.invariant (λ k h. c.requires k (omega arith)) w.if-not-seen-d.true w.seen-is w.places-is w.m-is
      | else-not-seen-d w ↦ seen_again c.loop-d.invariant (λ k h. c.requires k (omega arith)) w.if-not-seen-d.false w.seen-is w.places-is w.m-is
    ]

pub overflow_cast-result : goal.overflow_cast-result
overflow_cast-result c =
    omega (arith, firsts_length c.args.kept.now c.loop-d.d-index 32 (λ k h. c.requires k (omega arith)), c.loop-d.invariant.count)

pub returns : goal.returns
unfolding new_order
returns c =
    let all : c.loop-d.d-index ≡ length c.args.kept.now = omega arith in
    (rw all at c.loop-d.invariant.built, rw all at c.loop-d.invariant.count)
