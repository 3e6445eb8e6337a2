-- The parts add up. Assumes nothing.
use native.Mathlib.Omega.{arith}
use Rattle.writing.proofs.Decimals.{digits_high}
use Rattle.board.proofs.TextLaws.{line_length, health_high}
use Rattle.board.proofs.line_length.Goals as goal

pub overflow_add-result : goal.overflow_add-result
overflow_add-result c = omega (arith, digits_high _ c.decimal_length.ensures)

pub overflow_add-result-2 : goal.overflow_add-result-2
overflow_add-result-2 c = omega (arith, digits_high _ c.decimal_length.ensures)

pub overflow_add-result-3 : goal.overflow_add-result-3
overflow_add-result-3 c = let e = c.health_length.ensures in omega (arith, digits_high _ c.decimal_length.ensures, health_high c.args.h c.args.busy)

pub overflow_add-result-4 : goal.overflow_add-result-4
overflow_add-result-4 c = let e = c.health_length.ensures in omega (arith, digits_high _ c.decimal_length.ensures, health_high c.args.h c.args.busy)

pub returns : goal.returns
returns c = line_length _ _ _ _ _ c.decimal_length.ensures c.health_length.ensures
