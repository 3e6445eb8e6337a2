-- DEAD and the end second are put one behind the other. Assumes nothing.
use Prim.Native.Nat.{◌≤◌}
use native.Mathlib.Omega.{arith}
use lib.ListN.{length}
use Rattle.laws.proofs.Writing.{behind, start_fits, rest_fits, end_fits, front_fits}
use Rattle.rules.specs.Board.{dead_word, numbered}
use Rattle.board.proofs.put_dead.Goals as goal
use Rattle.board.proofs.put_dead.Goals.{Start}

-- the buffer has room for the first part too
first : (c : Start) → length dead_word ≤ length c.args.buf.now
first c = front_fits dead_word (numbered c.args.end) c.requires

pub put-at-requires : goal.put-at-requires
put-at-requires c = first (goal.at.put-at-requires c).Start

pub slice_bounds-put_number-count : goal.slice_bounds-put_number-count
slice_bounds-put_number-count c = start_fits c.put-at.ensures (first (goal.at.slice_bounds-put_number-count c).Start)

pub slice_bounds-put_number-start : goal.slice_bounds-put_number-start
slice_bounds-put_number-start c = start_fits c.put-at.ensures (first (goal.at.slice_bounds-put_number-start c).Start)

pub put_number-at-requires : goal.put_number-at-requires
put_number-at-requires c = rest_fits c.put-at.ensures (numbered _) c.requires

pub overflow_add-at : goal.overflow_add-at
overflow_add-at c =
    omega (
      arith,
      end_fits c.put-at.ensures c.put_number-at.ensures
          c.requires,
      c.well_formed,
    )

pub returns : goal.returns
returns c = behind c.put-at.ensures c.put_number-at.ensures
