use native.Mathlib.Omega.{arith}
use Rattle.writing.proofs.Decimals.{digits_high}
use Rattle.board.proofs.TextLaws.{count_first, count_high, count_line, count_done}
use Rattle.board.proofs.text_length.Goals as goal

pub overflow_add-total : goal.overflow_add-total
overflow_add-total c = omega (arith, digits_high _ c.decimal_length.ensures)

pub overflow_add-total-2 : goal.overflow_add-total-2
overflow_add-total-2 c = omega (arith, digits_high _ c.decimal_length.ensures)

pub loop-d-init : goal.loop-d-init
loop-d-init c = count_first c.requires (rw c.from.ensures at c.decimal_length.ensures)

pub overflow_add-total-in-loop-d : goal.overflow_add-total-in-loop-d
overflow_add-total-in-loop-d c = omega (arith, count_high (count_line c.loop-d.invariant c.loop-d-test.true c.line_length-total.ensures), c.loop-d.invariant.few)

pub loop-d-preserved : goal.loop-d-preserved
loop-d-preserved c = count_line c.loop-d.invariant c.loop-d-test.true c.line_length-total.ensures

pub returns : goal.returns
returns c = count_done c.loop-d.invariant c.loop-d-test.false
