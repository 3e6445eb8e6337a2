-- What the search takes for granted follows from soundness, which was tested. Assumes nothing.
use mathlib.Core.Path.{sym, ◌∙◌}
use native.Mathlib.Omega.{arith}
use lib.Dec.{ltb}
use borrow.Author.Tests.{ltb-false}
use Rattle.laws.proofs.Bools.{or_left_false, or_right_false}
use Rattle.rules.specs.Sizes.{last_second}
use Rattle.rules.specs.SoundFacts.{Sound}
use Rattle.rules.proofs.Shape.{Shaped}
use Rattle.rules.proofs.Soundness.{sound_facts}
use Rattle.rules.proofs.Shapes.{shaped}
use Rattle.searching.proofs.Arrivals.{arrived_read}
use Rattle.boundaries.proofs.searched.search.Goals as goal
use Rattle.boundaries.proofs.searched.search.Goals.{Else-bad_clock}

right : (c : Else-bad_clock) → Sound c.args.s
right c = sound_facts c.args.s (sym c.sound_with.ensures.answer ∙ c.if-not-sound_with.false)

shape : (c : Else-bad_clock) → Shaped c.args.s
shape c = shaped c.args.s c.well_formed.0

pub open_table-room-requires : goal.open_table-room-requires
open_table-room-requires c = (right (goal.at.open_table-room-requires c).Else-bad_clock).setup

pub left_waiting-waits-requires : goal.left_waiting-waits-requires
left_waiting-waits-requires c =
    let h = right (goal.at.left_waiting-waits-requires c).Else-bad_clock in
    λ j l p. omega (arith, (h.jobs j l p).adds)

pub best_candidate-requires : goal.best_candidate-requires
best_candidate-requires c =
    let e = c in
    let h = right (goal.at.best_candidate-requires e).Else-bad_clock in
    let s = e.args.s in
    let now = e.args.now in
    let bad = sym e.bad_clock.ensures ∙ e.if-bad_clock.false in
    let late = ltb-false now s.clock (or_left_false (ltb now s.clock) (ltb last_second now) bad) in
    let last = ltb-false last_second now (or_right_false (ltb now s.clock) (ltb last_second now) bad) in
    (last, h.arrivals.count, (shape (goal.at.best_candidate-requires e).Else-bad_clock).arrivals, arrived_read s (shape (goal.at.best_candidate-requires e).Else-bad_clock) h now late)
