-- LIVE, the window and busy are put one behind the other. Assumes nothing.
use mathlib.Core.List.{◌++◌}
use Prim.Native.Nat.{◌≤◌}
use native.Mathlib.Omega.{arith}
use lib.ListN.{length}
use Rattle.laws.proofs.Writing.{behind, start_fits, rest_fits, end_fits, front_fits}
use Rattle.rules.specs.Board.{live_word, numbered}
use Rattle.board.proofs.put_live.Goals as goal
use Rattle.board.proofs.put_live.Goals.{Start}

-- the buffer has room for the first parts too
second : (c : Start) → length (live_word ++ numbered c.args.window) ≤ length c.args.buf.now
second c = front_fits (live_word ++ numbered c.args.window) (numbered c.args.busy) c.requires

first : (c : Start) → length live_word ≤ length c.args.buf.now
first c = front_fits live_word (numbered c.args.window) (second c)

pub put-at-requires : goal.put-at-requires
put-at-requires c = first (goal.at.put-at-requires c).Start

pub slice_bounds-put_number-count : goal.slice_bounds-put_number-count
slice_bounds-put_number-count c =
    let w = c in
    start_fits w.put-at.ensures (first (goal.at.slice_bounds-put_number-count w).Start)

pub slice_bounds-put_number-start : goal.slice_bounds-put_number-start
slice_bounds-put_number-start c =
    let w = c in
    start_fits w.put-at.ensures (first (goal.at.slice_bounds-put_number-start w).Start)

pub put_number-at-requires : goal.put_number-at-requires
put_number-at-requires c =
    let w = c in
    rest_fits w.put-at.ensures (numbered _) (second (goal.at.put_number-at-requires w).Start)

pub overflow_add-at : goal.overflow_add-at
overflow_add-at c =
    omega (
      arith,
      end_fits c.put-at.ensures c.put_number-at.ensures
          (second (goal.at.overflow_add-at c).Start),
      c.well_formed,
    )

pub slice_bounds-put_number-count-2 : goal.slice_bounds-put_number-count-2
slice_bounds-put_number-count-2 c =
    let n = c in
    let w = n in
    start_fits (behind w.put-at.ensures n.put_number-at.ensures) (second (goal.at.slice_bounds-put_number-count-2 w).Start)

pub slice_bounds-put_number-start-2 : goal.slice_bounds-put_number-start-2
slice_bounds-put_number-start-2 c =
    let n = c in
    let w = n in
    start_fits (behind w.put-at.ensures n.put_number-at.ensures) (second (goal.at.slice_bounds-put_number-start-2 w).Start)

pub put_number-at-requires-2 : goal.put_number-at-requires-2
put_number-at-requires-2 c =
    rest_fits (behind c.put-at.ensures c.put_number-at.ensures) (numbered _) (rw c.from.ensures c.requires)

pub overflow_add-at-2 : goal.overflow_add-at-2
overflow_add-at-2 c =
    omega (
      arith,
      end_fits (behind c.put-at.ensures c.put_number-at.ensures) c.put_number-at-2.ensures
          (rw c.from.ensures c.requires),
      c.well_formed,
    )

pub returns : goal.returns
returns c =
    rw c.from.ensures at (behind (behind c.put-at.ensures c.put_number-at.ensures) c.put_number-at-2.ensures)
