-- The parts add up, in each case. Assumes nothing.
use native.Mathlib.Omega.{arith}
use Rattle.writing.proofs.Decimals.{digits_high}
use Rattle.board.proofs.TextLaws.{live_length, dead_length}
use Rattle.board.proofs.health_length.Goals as goal

pub overflow_add-result : goal.overflow_add-result
overflow_add-result c = omega (arith, digits_high _ c.decimal_length.ensures)

pub overflow_add-result-in-Live : goal.overflow_add-result-in-Live
overflow_add-result-in-Live c = omega (arith, digits_high _ c.decimal_length.ensures)

pub overflow_add-result-in-Live-2 : goal.overflow_add-result-in-Live-2
overflow_add-result-in-Live-2 c = omega (arith, digits_high _ c.decimal_length.ensures, digits_high _ c.decimal_length-in-Live.ensures)

pub overflow_add-result-in-Dead : goal.overflow_add-result-in-Dead
overflow_add-result-in-Dead c = omega (arith, digits_high _ c.decimal_length-in-Dead.ensures)

pub returns-in-Live : goal.returns-in-Live
returns-in-Live c = rw c.from.ensures at (live_length _ _ _ _ _ c.in-Live.is c.decimal_length.ensures c.decimal_length-in-Live.ensures)

pub returns-in-Dead : goal.returns-in-Dead
returns-in-Dead c = dead_length _ _ _ _ c.in-Dead.is c.decimal_length-in-Dead.ensures
