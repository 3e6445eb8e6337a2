-- One digit, or those of a tenth and then the last one. Assumes nothing.
use native.Mathlib.Nat.{le_of_lt}
use native.Mathlib.Omega.{arith}
use Rattle.writing.proofs.Decimals.{digits_small, put_small, put_fits, put_room, put_last}
use Rattle.writing.proofs.+put_decimal.Goals as goal

pub bounds-buf-0 : goal.bounds-buf-0
bounds-buf-0 t c = omega (arith, digits_small c.args.x (omega arith), c.requires)

pub returns-then-x-lt10 : goal.returns-then-x-lt10
returns-then-x-lt10 t c = put_small c.args.x c.args.buf.now (omega arith) c.requires

pub put_decimal-at-requires : goal.put_decimal-at-requires
put_decimal-at-requires t c = (omega arith, le_of_lt (put_fits _ c.if-x-lt10.false c.ranges.x.fits c.requires))

pub bounds-buf-at : goal.bounds-buf-at
bounds-buf-at t c = put_room _ c.if-x-lt10.false c.ranges.x.fits c.requires c.put_decimal-at.ensures

pub returns : goal.returns
returns t c = put_last _ c.if-x-lt10.false c.ranges.x.fits c.requires c.put_decimal-at.ensures
