use mathlib.Core.Path.{refl}
use native.Mathlib.Omega.{arith}
use Rattle.writing.proofs.Decimals.{decimal_length, digits_small, digits_more}
use Rattle.writing.proofs.decimal_length.Goals as goal

pub loop-y-init : goal.loop-y-init
loop-y-init c = (refl, omega arith)

pub overflow_add-n : goal.overflow_add-n
overflow_add-n c = omega (arith, decimal_length c.args.x)

pub loop-y-preserved : goal.loop-y-preserved
loop-y-preserved c = (omega (arith, digits_more c.loop-y.y (omega arith) c.loop-y.invariant.1), omega arith)

pub returns : goal.returns
returns c = omega (arith, digits_small c.loop-y.y (omega arith))
