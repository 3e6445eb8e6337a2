-- AT with the clock, and the end of the line, are put one behind the other. Assumes nothing.
use mathlib.Core.List.{◌++◌}
use Prim.Native.Nat.{◌≤◌}
use native.Mathlib.Omega.{arith}
use lib.ListN.{length}
use Rattle.laws.proofs.Writing.{behind, start_fits, rest_fits, end_fits, front_fits}
use Rattle.rules.specs.Board.{numbered, at_word, line_end, clock_line}
use Rattle.board.proofs.put_clock.Goals as goal
use Rattle.board.proofs.put_clock.Goals.{Start}

-- the buffer has room for the first part too
first : (c : Start) → length (at_word ++ numbered c.args.clock) ≤ length c.args.buf.now
unfolding clock_line
first c = front_fits (at_word ++ numbered c.args.clock) line_end c.requires

pub put_number-at-requires : goal.put_number-at-requires
put_number-at-requires c = rw c.from.ensures (first (goal.at.put_number-at-requires c).Start)

pub slice_bounds-put-count : goal.slice_bounds-put-count
slice_bounds-put-count c = start_fits c.put_number-at.ensures (rw c.from.ensures (first (goal.at.slice_bounds-put-count c).Start))

pub slice_bounds-put-start : goal.slice_bounds-put-start
slice_bounds-put-start c = start_fits c.put_number-at.ensures (rw c.from.ensures (first (goal.at.slice_bounds-put-start c).Start))

pub put-at-requires : goal.put-at-requires
unfolding clock_line
put-at-requires c = rest_fits c.put_number-at.ensures line_end (rw c.from.ensures c.requires)

pub overflow_add-at : goal.overflow_add-at
unfolding clock_line
overflow_add-at c =
    omega (
      arith,
      end_fits c.put_number-at.ensures c.put-at.ensures
          (rw c.from.ensures c.requires),
      c.well_formed,
    )

pub returns : goal.returns
unfolding clock_line
returns c = rw c.from.ensures at (behind c.put_number-at.ensures c.put-at.ensures)
