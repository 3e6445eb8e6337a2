use Rattle.std.proofs.Common.{◌≡◌, ◌+◌, ◌<◌, length, refl, sym, ◌∙◌, arith}
use lib.Seq.{take-length, length-take-le}
use Rattle.laws.specs.Sequence.{padded}
use Rattle.laws.proofs.Sequence.{holds_of_times}
use Rattle.laws.proofs.Move.{length_move}
use Rattle.rules.specs.State.{list_of}
use Rattle.lists.proofs.Listed.{listed_is, few_numbers, once_numbers}
use Rattle.lists.proofs.Moving.{moved, moved_is, Ready, room_here, ready_here, ready_other, ready_put, skip_put}
use Rattle.lists.proofs.move_before.Goals as goal
use Rattle.lists.proofs.move_before.Goals.{At-loop-z, Then-z-x, Then-z-y, Joined-z-y, else-z-y, then-z-y, else-z-x, then-z-x}

module _ (c : Then-z-y) where
  -- where the job to stand behind is met, there is room for two
  room : c.loop-z.m + 1 < 32
  room =
      let few = few_numbers c.args.q _ c.numbers-z-items.ensures c.requires.count_bound in
      let once = once_numbers c.args.q _ c.args.x c.args.y c.numbers-z-items.ensures c.requires.q_value in
      room_here c.args.x c.args.y _ c.requires.fact once few c.loop-z.z-index c.loop-z-test.true _ _ c.loop-z.invariant.0 c.loop-z.invariant.1 c.if-z-x.true c.if-z-y.true

ready : (c : Joined-z-y) → Ready c.args.x c.args.y c.numbers-z-items.result.now c.loop-z.z-index c.if-z-y.jobs c.if-z-y.m
ready c =
    let few = few_numbers c.args.q _ c.numbers-z-items.ensures c.requires.count_bound in
    let once = once_numbers c.args.q _ c.args.x c.args.y c.numbers-z-items.ensures c.requires.q_value in
    elim c.if-z-y.branch [
      | then-z-y w ↦ ready_here c.args.x c.args.y _ c.requires.fact once few c.loop-z.z-index c.loop-z-test.true _ _
          c.loop-z.invariant.0 c.loop-z.invariant.1 c.if-z-x.true w.if-z-y.true _ _ w.jobs-is w.m-is
      | else-z-y w ↦ ready_other c.args.x c.args.y _ c.requires.fact once few c.loop-z.z-index c.loop-z-test.true _ _
          c.loop-z.invariant.0 c.loop-z.invariant.1 c.if-z-x.true w.if-z-y.false _ _ w.jobs-is w.m-is
    ]

pub loop-z-init : goal.loop-z-init
unfolding padded moved
loop-z-init c = (refl, refl)

pub bounds-jobs-m : goal.bounds-jobs-m
bounds-jobs-m c = omega (arith, room c)

pub overflow_add-m : goal.overflow_add-m
overflow_add-m c = omega (arith, room c)

pub bounds-jobs-m-then-z-x : goal.bounds-jobs-m-then-z-x
bounds-jobs-m-then-z-x c = (ready c).room

pub overflow_add-m-then-z-x : goal.overflow_add-m-then-z-x
overflow_add-m-then-z-x c = omega (arith, (ready (goal.at.overflow_add-m-then-z-x c).Joined-z-y).room)

pub loop-z-preserved : goal.loop-z-preserved
loop-z-preserved c =
    let few = few_numbers c.args.q _ c.numbers-z-items.ensures c.requires.count_bound in
    let once = once_numbers c.args.q _ c.args.x c.args.y c.numbers-z-items.ensures c.requires.q_value in
    elim c.if-z-x.branch [
      | then-z-x w ↦
          ready_put _ _
          (elim w.if-z-y.branch [
            | then-z-y v ↦ ready_here c.args.x c.args.y c.numbers-z-items.result.now c.requires.fact once few c.loop-z.z-index c.loop-z-test.true _ _
                c.loop-z.invariant.0 c.loop-z.invariant.1 w.if-z-x.true v.if-z-y.true _ _ v.jobs-is v.m-is
            | else-z-y v ↦ ready_other c.args.x c.args.y c.numbers-z-items.result.now c.requires.fact once few c.loop-z.z-index c.loop-z-test.true _ _
                c.loop-z.invariant.0 c.loop-z.invariant.1 w.if-z-x.true v.if-z-y.false _ _ v.jobs-is v.m-is
          ])
          w.jobs-is w.m-is
      | else-z-x w ↦ skip_put c.args.x c.args.y _ c.loop-z.z-index _ _ _ _ c.loop-z-test.true c.loop-z.invariant.0 c.loop-z.invariant.1 w.if-z-x.false w.jobs-is w.m-is
    ]

pub returns : goal.returns
returns c =
    let l = list_of c.args.q in
    let all : c.loop-z.z-index ≡ length c.numbers-z-items.result.now = omega arith in
    let jobs = rw (all, take-length c.numbers-z-items.result.now, c.numbers-z-items.ensures, moved_is c.args.x c.args.y l (omega arith)) at c.loop-z.invariant.0 in
    let k = length_move c.args.x c.args.y l c.requires.fact c.requires.q_value.0 (holds_of_times c.args.y l (omega arith)) in
    listed_is _ _ _ jobs (sym (k ∙ length-take-le c.args.q.count c.args.q.jobs (omega arith)))
