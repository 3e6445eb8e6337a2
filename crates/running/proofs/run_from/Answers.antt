use Prim.Native.Nat.{◌+◌, ◌-◌, ◌≤◌}
use mathlib.Core.Path.{sym, ◌∙◌}
use native.Mathlib.Omega.{arith}
use lib.ListN.{length}
use borrow.Rule.Slice.PartMut.{put_mid}
use Rattle.layout.specs.Layout.{row_length}
use Rattle.running.proofs.TurnLaws.{Running, starts, answers_length, lists_length, texts_length, GoesOn, asked, ends, used}
use Rattle.running.proofs.TurnLaws.{rest_fits, rest_some, head_fits, row_fits, list_fits, text_fits, lends, turns, advances, cancel}
use Rattle.running.proofs.run_from.Goals as goal
use Rattle.running.proofs.run_from.Goals.{After-make-state, After-text_places-room, In_default}

-- where the run goes on
on : (c : In_default)
    → GoesOn c.args.calls.now c.args.answers.now c.args.lists.now c.args.texts.now
    c.loop-end.at c.loop-end.row c.loop-end.listed c.loop-end.told
on c = asked c.loop-end.invariant 0 (sym c.in_default.ensures)

-- each part that is lent is there
row_room : (c : After-text_places-room) → c.loop-end.row + row_length ≤ length c.loop-end.answers
row_room c = row_fits c.loop-end.invariant (on (goal.at.After-text_places-room c).In_default)

list-room : (c : After-text_places-room) → c.loop-end.listed + c.list_places-places.result ≤ length c.loop-end.lists
list-room c = list_fits c.loop-end.invariant (on (goal.at.After-text_places-room c).In_default) _ c.list_places-places.ensures

text-room : (c : After-text_places-room) → c.loop-end.told + c.text_places-room.result ≤ length c.loop-end.texts
text-room c = text_fits c.loop-end.invariant (on (goal.at.After-text_places-room c).In_default) _ c.text_places-room.ensures

pub loop-end-init : goal.loop-end-init
loop-end-init c = starts _ _ _ _ _

pub slice_bounds-rest-count : goal.slice_bounds-rest-count
slice_bounds-rest-count c = c.loop-end.invariant.within

pub slice_bounds-rest-start : goal.slice_bounds-rest-start
slice_bounds-rest-start c = c.loop-end.invariant.within

pub overflow_sub-answers : goal.overflow_sub-answers
overflow_sub-answers c = used (answers_length c.loop-end.invariant) c.loop-end.invariant.rowsfit

pub overflow_sub-lists : goal.overflow_sub-lists
overflow_sub-lists c = used (lists_length c.loop-end.invariant) c.loop-end.invariant.listsfit

pub overflow_sub-texts : goal.overflow_sub-texts
overflow_sub-texts c = used (texts_length c.loop-end.invariant) c.loop-end.invariant.textsfit

pub returns-in-Some : goal.returns-in-Some
returns-in-Some c =
    let inv = c.loop-end.invariant in
    ends inv _ (asked inv _ c.in-Some.ensures.0) (λ z. omega (arith, c.in-Some.ensures.1, z))

pub size_of-size-requires : goal.size_of-size-requires
size_of-size-requires c = (rest_fits c.loop-end.invariant (on (goal.at.size_of-size-requires c).In_default), rest_some c.loop-end.invariant (on (goal.at.size_of-size-requires c).In_default))

pub list_places-places-requires : goal.list_places-places-requires
list_places-places-requires c = (head_fits c.loop-end.invariant (on (goal.at.list_places-places-requires c).In_default), rest_some c.loop-end.invariant (on (goal.at.list_places-places-requires c).In_default))

pub text_places-room-requires : goal.text_places-room-requires
text_places-room-requires c =
    let t = c in
    (head_fits t.loop-end.invariant (on (goal.at.text_places-room-requires t).In_default), rest_some t.loop-end.invariant (on (goal.at.text_places-room-requires t).In_default))

pub overflow_add-row : goal.overflow_add-row
overflow_add-row c = omega (arith, row_room (goal.at.overflow_add-row c).After-text_places-room, answers_length c.loop-end.invariant, c.well_formed)

pub slice_bounds-make-end : goal.slice_bounds-make-end
slice_bounds-make-end c = row_room (goal.at.slice_bounds-make-end c).After-text_places-room

pub overflow_add-listed : goal.overflow_add-listed
overflow_add-listed c = omega (arith, list-room (goal.at.overflow_add-listed c).After-text_places-room, lists_length c.loop-end.invariant, c.well_formed)

pub slice_bounds-make-end-in-loop-end : goal.slice_bounds-make-end-in-loop-end
slice_bounds-make-end-in-loop-end c = list-room (goal.at.slice_bounds-make-end-in-loop-end c).After-text_places-room

pub overflow_add-told : goal.overflow_add-told
overflow_add-told c =
    let m = c in
    omega (arith, text-room (goal.at.overflow_add-told m).After-text_places-room, texts_length m.loop-end.invariant, m.well_formed)

pub slice_bounds-make-end-in-loop-end-2 : goal.slice_bounds-make-end-in-loop-end-2
slice_bounds-make-end-in-loop-end-2 c = text-room (goal.at.slice_bounds-make-end-in-loop-end-2 c).After-text_places-room

pub make-state-requires : goal.make-state-requires
make-state-requires c =
    let m = c in
    let h = m in
    lends h.loop-end.invariant (on (goal.at.make-state-requires m).In_default) _ _ _ _ _ m.list_places-places.ensures m.text_places-room.ensures
    (cancel h.loop-end.row _) (cancel h.loop-end.listed _) (cancel h.loop-end.told _)

-- what the run knows once the call is made
again : (c : After-make-state)
    → Running c.args.start c.args.calls.now c.args.answers.now c.args.lists.now c.args.texts.now c.make-state.result (c.loop-end.made + 1)
    (c.loop-end.at + c.size_of-size.result) (c.loop-end.row + row_length) (c.loop-end.listed + c.list_places-places.result)
    (c.loop-end.told + c.text_places-room.result)
    (put_mid c.loop-end.row (c.loop-end.row + row_length - c.loop-end.row) c.loop-end.answers c.make-state.new.row)
    (put_mid c.loop-end.listed (c.loop-end.listed + c.list_places-places.result - c.loop-end.listed) c.loop-end.lists c.make-state.new.list)
    (put_mid c.loop-end.told (c.loop-end.told + c.text_places-room.result - c.loop-end.told) c.loop-end.texts c.make-state.new.text)
again c =
    turns c.loop-end.invariant (on (goal.at.After-make-state c).In_default) _ _ _ _ _ _ c.size_of-size.ensures c.list_places-places.ensures
    c.text_places-room.ensures (cancel c.loop-end.row _) (cancel c.loop-end.listed _) (cancel c.loop-end.told _)
    c.make-state.auto.row c.make-state.auto.list c.make-state.auto.text c.make-state.ensures

pub loop-end-preserved : goal.loop-end-preserved
loop-end-preserved c = again (goal.at.loop-end-preserved c).After-make-state

pub overflow_add-made : goal.overflow_add-made
overflow_add-made c = omega (arith, (again (goal.at.overflow_add-made c).After-make-state).few, (again (goal.at.overflow_add-made c).After-make-state).within, c.well_formed)

pub overflow_add-at : goal.overflow_add-at
overflow_add-at c = omega (arith, (again (goal.at.overflow_add-at c).After-make-state).within, c.well_formed)

pub overflow_add-row-in-loop-end : goal.overflow_add-row-in-loop-end
overflow_add-row-in-loop-end c = omega (arith, (again (goal.at.overflow_add-row-in-loop-end c).After-make-state).rowsfit, c.well_formed)

pub overflow_add-listed-in-loop-end : goal.overflow_add-listed-in-loop-end
overflow_add-listed-in-loop-end c = omega (arith, (again (goal.at.overflow_add-listed-in-loop-end c).After-make-state).listsfit, c.well_formed)

pub overflow_add-told-in-loop-end : goal.overflow_add-told-in-loop-end
overflow_add-told-in-loop-end c = omega (arith, (again (goal.at.overflow_add-told-in-loop-end c).After-make-state).textsfit, c.well_formed)

pub loop-end-smaller : goal.loop-end-smaller
loop-end-smaller c = omega (arith, (again (goal.at.loop-end-smaller c).After-make-state).within, advances c.loop-end.invariant (on (goal.at.loop-end-smaller c).In_default) _ c.size_of-size.ensures)
