use mathlib.Core.Path.{◌∙◌}
use native.Mathlib.Omega.{arith}
use Rattle.laws.proofs.Writing.{wrote_length}
use Rattle.board.proofs.TextLaws.{first_fits, first_done, going_length, going_start, going_asks, going_on, going_high, going_done}
use Rattle.board.proofs.write.Goals as goal

pub put_clock-at-requires : goal.put_clock-at-requires
put_clock-at-requires c = first_fits _ _ _ _ c.args.buf.now c.requires.1

pub loop-d-init : goal.loop-d-init
loop-d-init c = first_done _ _ _ _ _ c.requires.1 c.requires.0 c.put_clock-at.ensures

pub slice_bounds-put_line-count : goal.slice_bounds-put_line-count
slice_bounds-put_line-count c = going_start c.loop-d.invariant

pub slice_bounds-put_line-start : goal.slice_bounds-put_line-start
slice_bounds-put_line-start c = going_start c.loop-d.invariant

pub put_line-at-requires : goal.put_line-at-requires
put_line-at-requires c = going_asks c.loop-d.invariant c.loop-d-test.true

pub overflow_add-at : goal.overflow_add-at
overflow_add-at c =
    omega (
      arith,
      going_high (going_on c.loop-d.invariant c.loop-d-test.true c.put_line-at.ensures),
      c.loop-d.invariant.few,
    )

pub loop-d-preserved : goal.loop-d-preserved
loop-d-preserved c = going_on c.loop-d.invariant c.loop-d-test.true c.put_line-at.ensures

pub shape_of-buf : goal.shape_of-buf
shape_of-buf c =
    going_length c.loop-d.invariant
    ∙ wrote_length c.put_clock-at.ensures (first_fits _ _ _ _ c.args.buf.now c.requires.1)

pub returns : goal.returns
returns c = going_done c.put_clock-at.ensures c.loop-d.invariant c.loop-d-test.false
