-- Each row of the table in its order. Assumes nothing.
use Rattle.std.proofs.Common.{◌≡◌, ◌<◌, ◌≤◌, true, false, ◌&&◌, ltb, not, length, get_or, sym, ap, ◌∙◌, arith}
use borrow.Author.Tests.{lt-ltb, le-ltb, not-true, not-false}
use Rattle.std.specs.Option.{is_some}
use Rattle.laws.specs.Range.{all_to}
use Rattle.laws.specs.Sequence.{every_in}
use Rattle.laws.proofs.Bools.{and_both, and_left_false, and_right_false}
use Rattle.rules.specs.Setup.{within}
use Rattle.admission.specs.Admission.{on_transport, kept_by}
use Rattle.admission.proofs.Refusing.{small_of, none_free, too_few, too_many, right_length, refuses_transport, refuses_length, refuses_other}
use Rattle.admission.proofs.Refusing.{refuses_number, refuses_places, refuses_list, refuses_nothing}
use Rattle.admission.proofs.refusal.Goals as goal
use Rattle.admission.proofs.refusal.Goals.{then-is_empty-via-then-is_empty, then-is_empty-via-else-is_empty+then-dests-gt256, else-n-gt0-via-then-n-gt0+else-is_none, else-n-gt0-via-else-n-gt0, Else-not-all_on, Joined-else-n-gt0}

right : (c : Else-not-all_on) → within 1 256 (length c.args.dests.now) ≡ true
right c = right_length _ (sym c.is_empty.ensures ∙ c.if-is_empty.false) c.if-dests-gt256.false

theirs : (c : Else-not-all_on) → every_in (on_transport c.args.home.now c.args.destinations c.args.t) c.args.dests.now ≡ true
theirs c = sym c.all_on.ensures ∙ c.if-not-all_on.false

pub returns-then-transports-t : goal.returns-then-transports-t
returns-then-transports-t c = refuses_transport _ _ _ _ _ _ _ _ _ c.if-transports-t.true

pub returns-then-is_empty : goal.returns-then-is_empty
returns-then-is_empty c =
    refuses_length _ _ _ _ _ _ _ _ _ c.if-transports-t.false
    (elim c.then-is_empty.branch [
      | then-is_empty-via-then-is_empty w ↦ too_few _ (sym c.is_empty.ensures ∙ w.if-is_empty.true)
      | then-is_empty-via-else-is_empty+then-dests-gt256 w ↦ too_many _ w.if-dests-gt256.true
    ])

pub returns-then-not-all_on : goal.returns-then-not-all_on
returns-then-not-all_on c =
    refuses_other _ _ _ _ _ _ _ _ _ c.if-transports-t.false (right_length _ (sym c.is_empty.ensures ∙ c.if-is_empty.false) c.if-dests-gt256.false)
    (sym c.all_on.ensures ∙ c.if-not-all_on.true)

pub count_kept-n-requires : goal.count_kept-n-requires
count_kept-n-requires c = small_of _ _ _ _ c.requires (theirs (goal.at.count_kept-n-requires c).Else-not-all_on)

pub returns-then-is_none : goal.returns-then-is_none
returns-then-is_none c =
    let at = (goal.at.returns-then-is_none c).Else-not-all_on in
    let present = c.args.present.now in
    let some : 0 < length (kept_by c.args.dead.now c.args.dests.now) = omega arith in
    let all = sym (none_free (λ j. get_or present j false)) ∙ ap is_some (sym c.first_absent.ensures) ∙ c.is_none.ensures ∙ ap not c.if-is_none.true in
    refuses_number _ _ _ _ _ _ _ _ _ c.if-transports-t.false (right at) (theirs at) (and_both (lt-ltb _ _ some) (not-false _ all))

-- no job waits, or a number is free
number : (c : Joined-else-n-gt0) → ltb 0 (length (kept_by c.args.dead.now c.args.dests.now)) && all_to (λ j. get_or c.args.present.now j false) 32 ≡ false
number c =
    elim c.else-n-gt0.branch [
      | else-n-gt0-via-then-n-gt0+else-is_none w ↦
          let some = sym (none_free (λ j. get_or c.args.present.now j false)) ∙ ap is_some (sym w.first_absent.ensures) ∙ w.is_none.ensures ∙ ap not w.if-is_none.false in
          and_right_false (ltb 0 (length (kept_by c.args.dead.now c.args.dests.now))) (not-true _ some)
      | else-n-gt0-via-else-n-gt0 w ↦
          let none : length (kept_by c.args.dead.now c.args.dests.now) ≤ 0 = omega arith in
          and_left_false _ (le-ltb 0 _ none)
    ]

pub returns-then-count_free-n : goal.returns-then-count_free-n
returns-then-count_free-n c =
    let at = goal.at.returns-then-count_free-n c in
    refuses_places _ _ _ _ _ _ _ _ _ c.if-transports-t.false (right at.Else-not-all_on) (theirs at.Else-not-all_on) (number at.Joined-else-n-gt0) (omega arith)

pub returns-then-places-dests : goal.returns-then-places-dests
returns-then-places-dests c =
    let at = goal.at.returns-then-places-dests c in
    refuses_list _ _ _ _ _ _ _ _ _ c.if-transports-t.false (right at.Else-not-all_on) (theirs at.Else-not-all_on) (number at.Joined-else-n-gt0) (omega arith)
    (omega (arith, c.if-places-dests.true))

pub returns : goal.returns
returns c =
    let at = goal.at.returns c in
    refuses_nothing _ _ _ _ _ _ _ _ _ c.if-transports-t.false (right at.Else-not-all_on) (theirs at.Else-not-all_on) (number at.Joined-else-n-gt0) (omega arith)
    (omega (arith, c.if-places-dests.false))
