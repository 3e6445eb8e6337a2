-- The word and the decimals are put one behind the other. Assumes nothing.
use Prim.Native.Nat.{◌≤◌}
use native.Mathlib.Omega.{arith}
use lib.ListN.{length}
use Rattle.laws.proofs.Writing.{behind, start_fits, rest_fits, end_fits, front_fits}
use Rattle.rules.specs.Board.{decimal}
use Rattle.writing.proofs.put_number.Goals as goal
use Rattle.writing.proofs.put_number.Goals.{Start}

-- the buffer has room for the word too
first : (c : Start) → length c.args.word.now ≤ length c.args.buf.now
first c = front_fits c.args.word.now (decimal c.args.x) c.requires

pub put-at-requires : goal.put-at-requires
put-at-requires c = first (goal.at.put-at-requires c).Start

pub slice_bounds-put_decimal-count : goal.slice_bounds-put_decimal-count
slice_bounds-put_decimal-count c = start_fits c.put-at.ensures (first (goal.at.slice_bounds-put_decimal-count c).Start)

pub slice_bounds-put_decimal-start : goal.slice_bounds-put_decimal-start
slice_bounds-put_decimal-start c = start_fits c.put-at.ensures (first (goal.at.slice_bounds-put_decimal-start c).Start)

pub put_decimal-at-requires : goal.put_decimal-at-requires
put_decimal-at-requires c = rest_fits c.put-at.ensures (decimal _) c.requires

pub overflow_add-at : goal.overflow_add-at
overflow_add-at c =
    let b = c in
    omega (arith, end_fits c.put-at.ensures c.put_decimal-at.ensures b.requires, b.well_formed)

pub returns : goal.returns
returns c = behind c.put-at.ensures c.put_decimal-at.ensures
