-- A line is put part by part, each lent the rest of the buffer. Assumes nothing.
use mathlib.Core.List.{◌++◌}
use Prim.Native.Nat.{◌≤◌}
use native.Mathlib.Omega.{arith}
use lib.ListN.{length}
use Rattle.laws.proofs.Writing.{behind, start_fits, rest_fits, end_fits, front_fits}
use Rattle.rules.specs.Board.{line_word, blank, line_end, numbered, health_text, destination_line}
use Rattle.board.proofs.put_line.Goals as goal
use Rattle.board.proofs.put_line.Goals.{Start}

-- the buffer has room for the first parts too
third : (c : Start) → length (((line_word ++ numbered c.args.d) ++ blank) ++ health_text c.args.h c.args.busy) ≤ length c.args.buf.now
unfolding destination_line
third c = front_fits (((line_word ++ numbered c.args.d) ++ blank) ++ health_text c.args.h c.args.busy) line_end c.requires

second : (c : Start) → length ((line_word ++ numbered c.args.d) ++ blank) ≤ length c.args.buf.now
second c = front_fits ((line_word ++ numbered c.args.d) ++ blank) (health_text c.args.h c.args.busy) (third c)

first : (c : Start) → length (line_word ++ numbered c.args.d) ≤ length c.args.buf.now
first c = front_fits (line_word ++ numbered c.args.d) blank (second c)

pub put_number-at-requires : goal.put_number-at-requires
put_number-at-requires c = first (goal.at.put_number-at-requires c).Start

pub slice_bounds-put-count : goal.slice_bounds-put-count
slice_bounds-put-count c =
    let n = c in
    start_fits n.put_number-at.ensures (first (goal.at.slice_bounds-put-count n).Start)

pub slice_bounds-put-start : goal.slice_bounds-put-start
slice_bounds-put-start c =
    let n = c in
    start_fits n.put_number-at.ensures (first (goal.at.slice_bounds-put-start n).Start)

pub put-at-requires : goal.put-at-requires
put-at-requires c =
    let n = c in
    rest_fits n.put_number-at.ensures blank (second (goal.at.put-at-requires n).Start)

pub overflow_add-at : goal.overflow_add-at
overflow_add-at c =
    omega (
      arith,
      end_fits c.put_number-at.ensures c.put-at.ensures
          (second (goal.at.overflow_add-at c).Start),
      c.well_formed,
    )

pub slice_bounds-put_health-count : goal.slice_bounds-put_health-count
slice_bounds-put_health-count c =
    let b = c in
    let n = b in
    start_fits (behind n.put_number-at.ensures b.put-at.ensures) (second (goal.at.slice_bounds-put_health-count n).Start)

pub slice_bounds-put_health-start : goal.slice_bounds-put_health-start
slice_bounds-put_health-start c =
    let b = c in
    let n = b in
    start_fits (behind n.put_number-at.ensures b.put-at.ensures) (second (goal.at.slice_bounds-put_health-start n).Start)

pub put_health-at-requires : goal.put_health-at-requires
put_health-at-requires c =
    let b = c in
    let n = b in
    rest_fits (behind n.put_number-at.ensures b.put-at.ensures) (health_text _ _) (third (goal.at.put_health-at-requires n).Start)

pub overflow_add-at-2 : goal.overflow_add-at-2
overflow_add-at-2 c =
    omega (
      arith,
      end_fits (behind c.put_number-at.ensures c.put-at.ensures) c.put_health-at.ensures
          (third (goal.at.overflow_add-at-2 c).Start),
      c.well_formed,
    )

pub slice_bounds-put-count-2 : goal.slice_bounds-put-count-2
slice_bounds-put-count-2 c =
    let h = c in
    let b = h in
    let n = b in
    start_fits (behind (behind n.put_number-at.ensures b.put-at.ensures) h.put_health-at.ensures)
    (third (goal.at.slice_bounds-put-count-2 n).Start)

pub slice_bounds-put-start-2 : goal.slice_bounds-put-start-2
slice_bounds-put-start-2 c =
    let h = c in
    let b = h in
    let n = b in
    start_fits (behind (behind n.put_number-at.ensures b.put-at.ensures) h.put_health-at.ensures)
    (third (goal.at.slice_bounds-put-start-2 n).Start)

pub put-at-requires-2 : goal.put-at-requires-2
unfolding destination_line
put-at-requires-2 c =
    let h = c in
    let b = h in
    let n = b in
    rest_fits (behind (behind n.put_number-at.ensures b.put-at.ensures) h.put_health-at.ensures)
    line_end n.requires

pub overflow_add-at-3 : goal.overflow_add-at-3
unfolding destination_line
overflow_add-at-3 c =
    omega (
      arith,
      end_fits (behind (behind c.put_number-at.ensures c.put-at.ensures)
          c.put_health-at.ensures) c.put-at-2.ensures
          c.requires,
      c.well_formed,
    )

pub returns : goal.returns
unfolding destination_line
returns c =
    let h = c in
    let b = h in
    behind (behind (behind b.put_number-at.ensures b.put-at.ensures) h.put_health-at.ensures)
    c.put-at-2.ensures
