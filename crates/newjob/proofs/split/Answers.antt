use Rattle.std.proofs.Common.{refl, arith}
use Rattle.laws.specs.Range.{chosen_to}
use Rattle.laws.specs.Sequence.{padded, keep}
use Rattle.newjob.proofs.Parting.{parting_found, parting_count, parting_length, parting_dead, parting_live, parted}
use Rattle.newjob.proofs.split.Goals as goal
use Rattle.newjob.proofs.split.Goals.{else-dead-d, then-dead-d}

pub loop-i-init : goal.loop-i-init
unfolding padded keep chosen_to
loop-i-init c = record { bound = omega arith; built = refl; count = refl; found = refl; list = refl }

pub bounds-list-m : goal.bounds-list-m
bounds-list-m c = omega (arith, parting_found c.loop-i.invariant, parting_length c.loop-i.invariant c.requires.dests_len_bound.1)

pub bounds-kept-n : goal.bounds-kept-n
bounds-kept-n c = omega (arith, parting_count c.loop-i.invariant)

pub overflow_add-n : goal.overflow_add-n
overflow_add-n c = omega (arith, parting_count c.loop-i.invariant)

pub loop-i-preserved : goal.loop-i-preserved
loop-i-preserved c =
    elim c.if-dead-d.branch [
      | then-dead-d w ↦ parting_dead c.loop-i.invariant c.loop-i-test.true c.requires.dests_len_bound.0 c.requires.dests_len_bound.1 w.if-dead-d.true w.list-is w.kept-is w.n-is w.m-is
      | else-dead-d w ↦ parting_live c.loop-i.invariant c.loop-i-test.true c.requires.dests_len_bound.0 c.requires.dests_len_bound.1 w.if-dead-d.false w.list-is w.kept-is w.n-is w.m-is
    ]

pub overflow_cast-result : goal.overflow_cast-result
overflow_cast-result c = omega (arith, parting_count c.loop-i.invariant, c.loop-i.invariant.bound)

pub overflow_cast-result-2 : goal.overflow_cast-result-2
overflow_cast-result-2 c = omega (arith, parting_found c.loop-i.invariant, c.loop-i.invariant.bound)

pub returns : goal.returns
returns c = parted c.loop-i.invariant c.loop-i-test.false
