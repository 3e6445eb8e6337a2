use Rattle.std.proofs.Common.{◌≡◌, arith, inl, inr}
use Rattle.settling.proofs.PutOffLaws.{put_start, put_length, put_few, put_room, put_more, put_none, put_all, put_off_none}
use Rattle.settling.proofs.put_off.Goals as goal
use Rattle.settling.proofs.put_off.Goals.{then-kind-i-eq1+then-destination-i, else-kind-i-eq1, else-kind-i-eq1-via-then-kind-i-eq1+else-destination-i, else-kind-i-eq1-via-else-kind-i-eq1}

pub returns-in_default : goal.returns-in_default
returns-in_default c = rw c.in_default.is (put_off_none 0 _ _ _ _ _ c.requires)

pub loop-i-init : goal.loop-i-init
loop-i-init c = put_start _ _ _ _ _ _ c.requires

pub overflow_add-dropped : goal.overflow_add-dropped
overflow_add-dropped c =
    omega (arith, put_room _ _ _ _ _ _ c.requires c.loop-i.invariant c.loop-i-test.true c.if-kind-i-eq1.true c.if-destination-i.true c.from.ensures)

pub offset_bounds-list-m : goal.offset_bounds-list-m
offset_bounds-list-m c = omega (arith, put_few _ _ _ _ _ _ c.requires c.loop-i.invariant)

pub bounds-list-m : goal.bounds-list-m
bounds-list-m c =
    omega (arith, put_few _ _ _ _ _ _ c.requires c.loop-i.invariant, put_length _ _ _ _ _ _ c.requires c.loop-i.invariant, c.requires.places)

pub overflow_add-m : goal.overflow_add-m
overflow_add-m c = omega (arith, put_few _ _ _ _ _ _ c.requires c.loop-i.invariant)

pub loop-i-preserved : goal.loop-i-preserved
loop-i-preserved c =
    elim c.if-kind-i-eq1.branch [
      | then-kind-i-eq1+then-destination-i w ↦ put_more _ _ _ _ _ _ c.requires c.loop-i.invariant c.loop-i-test.true
          w.if-kind-i-eq1.true w.if-destination-i.true w.from.ensures w.kind-is w.dropped-is w.list-is w.m-is
      | else-kind-i-eq1 w ↦ put_none _ _ _ _ _ _ c.requires c.loop-i.invariant c.loop-i-test.true
          (elim w.else-kind-i-eq1.branch [
            | else-kind-i-eq1-via-then-kind-i-eq1+else-destination-i v ↦ inr v.if-destination-i.false
            | else-kind-i-eq1-via-else-kind-i-eq1 v ↦ inl v.if-kind-i-eq1.false
          ])
          w.kind-is w.dropped-is w.list-is w.m-is
    ]

pub overflow_cast-result : goal.overflow_cast-result
overflow_cast-result c = omega (arith, put_few _ _ _ _ _ _ c.requires c.loop-i.invariant)

pub returns : goal.returns
returns c =
    let e : c.loop-i.i ≡ 512 = omega arith in
    rw c.in-Some.is (put_all _ _ _ _ _ _ c.requires (rw e at c.loop-i.invariant))
