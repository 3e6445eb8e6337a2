-- What each step asks follows from soundness and from what was chosen; where the ways of the preemption meet, `from` says which state it is.
use Rattle.std.proofs.Common.{◌≡◌, true, ◌⊎◌, [], ◌∷◌, Some, None, sym, ap, ◌∙◌, subst, inl, inr, ⊎_elim, le_refl}
use Rattle.rules.specs.declared.State.{State}
use Rattle.preemption.specs.declared.Preemptor.{Preemptor}
use Rattle.rules.specs.Sound.{sound}
use Rattle.rules.specs.Windows.{woken}
use Rattle.rules.specs.Preemption.{preempting}
use Rattle.rules.specs.Pick.{handed_out}
use Rattle.rules.specs.Refusals.{pick_refusal}
use Rattle.rules.specs.Calls.{Call, granted, after_pick}
use Rattle.rules.proofs.Replies.{reply_clock, reply_accepted, reply_unsound}
use Rattle.waking.proofs.WakingLaws.{clock_is, wakes, built, woken_built}
use Rattle.choice.specs.Choosing.{choice_of}
use Rattle.picking.specs.May.{MayHandOut}
use Rattle.picking.proofs.PickLaws.{Ready, ready, own_shape, own_sound, gives_nothing, may_move, may_hand_plain, may_hand_moved, gives_plain, gives_moved}
use Rattle.picking.proofs.PickReplies.{pick_unrefused}
use Rattle.picking.proofs.pick_from.Goals as goal
use Rattle.picking.proofs.pick_from.Goals.{After-wake-state, Else-bad_clock, Else-not-sound_at, In-Some, Joined-c, in-Some-preemptor, in_default-preemptor}

-- the state that came is sound
whole : (c : Else-not-sound_at) → sound c.args.state.now ≡ true
whole c = sym c.sound_at.ensures.answer ∙ c.if-not-sound_at.false

unrefused : (c : Else-bad_clock) → pick_refusal c.args.state.now c.args.now ≡ 0
unrefused c =
    pick_unrefused c.args.state.now c.args.now (whole (goal.at.Else-bad_clock c).Else-not-sound_at)
    (sym (clock_is c.args.state.now c.args.now _ c.bad_clock.ensures) ∙ c.if-bad_clock.false)

start : (c : Else-bad_clock) → Ready c.args.state.now c.args.now
start c = ready c.args.state.now c.args.now c.requires (unrefused c)

-- The state after waking.
abbrev woke : After-wake-state → State
woke c = built c.args.state.now c.args.now c.wake-state.result

awake : (c : After-wake-state) → woke c ≡ woken c.args.state.now c.args.now
awake c = woken_built c.args.state.now c.args.now c.wake-state.result c.wake-state.ensures

pub returns-then-not-sound_at : goal.returns-then-not-sound_at
returns-then-not-sound_at c = reply_unsound c.args.state.now (Call.pick c.args.now) (sym c.sound_at.ensures.answer ∙ c.if-not-sound_at.true)

pub returns-then-bad_clock : goal.returns-then-bad_clock
returns-then-bad_clock c =
    let bad = sym (clock_is c.args.state.now c.args.now _ c.bad_clock.ensures) ∙ c.if-bad_clock.true in
    reply_clock c.args.state.now (Call.pick c.args.now) (whole (goal.at.returns-then-bad_clock c).Else-not-sound_at) bad

pub wake-state-requires : goal.wake-state-requires
wake-state-requires c = wakes c.args.state.now c.args.now (start (goal.at.wake-state-requires c).Else-bad_clock).came

pub choose_at-requires : goal.choose_at-requires
choose_at-requires c =
    let a = c.args in
    let ready-here = start (goal.at.choose_at-requires c).Else-bad_clock in
    let own = awake (goal.at.choose_at-requires c).After-wake-state in
    record {
      shape = own_shape a.state.now a.now ready-here _ own;
      given = (own_sound a.state.now a.now ready-here _ own, le_refl a.now, ready-here.early, c.sound_at.ensures.pairs.counted c.if-not-sound_at.false);
    }

pub returns-in_default : goal.returns-in_default
returns-in_default c =
    let a = c.args in
    let e : None ≡ choice_of (woke (goal.at.returns-in_default c).After-wake-state) a.now = sym c.in_default.is ∙ c.choose_at.ensures in
    reply_accepted a.state.now (Call.pick a.now) _ (unrefused (goal.at.returns-in_default c).Else-bad_clock)
    (gives_nothing a.state.now a.now (start (goal.at.returns-in_default c).Else-bad_clock) _ (awake (goal.at.returns-in_default c).After-wake-state) e)

-- Where something is chosen.

abbrev chosen-of : In-Some → State
chosen-of c = woke (goal.at.In-Some c).After-wake-state

is-choice : (c : In-Some) → Some c.in-Some.c ≡ choice_of (chosen-of c) c.args.now
is-choice c = sym c.in-Some.is ∙ c.choose_at.ensures

abbrev MayHand : In-Some → State → Type 0
MayHand c w = MayHandOut w c.in-Some.c.transport c.in-Some.c.job c.in-Some.c.place c.in-Some.c.entry

-- what is handed out from a state
abbrev handed : In-Some → State → State
handed c w = handed_out w c.in-Some.c.transport c.in-Some.c.job c.in-Some.c.place c.in-Some.c.entry

-- what the rules give
abbrev Gives : In-Some → State → Type 0
Gives c out =
    record { says = granted (c.in-Some.c.job ∷ c.in-Some.c.entry ∷ (chosen-of c).ticket ∷ c.in-Some.c.passed ∷ []); state = out; buffer = [] }
    ≡ after_pick (woken c.args.state.now c.args.now) c.args.now

-- the woken state, or that after the preemption
abbrev From : In-Some → State → Type 0
From c m =
    ((c.in-Some.c.preemptor ≡ None) × (m ≡ chosen-of c))
    ⊎ ((p : Preemptor) × (c.in-Some.c.preemptor ≡ Some p) × (m ≡ preempting (chosen-of c) c.in-Some.c.transport p.job c.in-Some.c.current p.waiting))

module _ (c : In-Some) where
  begun : Ready c.args.state.now c.args.now
  begun = start (goal.at.In-Some c).Else-bad_clock

  hand : (m : State) → From c m → MayHand c m
  hand m =
      ⊎_elim
      (λ a. subst (MayHand c) (sym a.1) (may_hand_plain c.args.state.now c.args.now begun _ (awake (goal.at.In-Some c).After-wake-state) c.in-Some.c (is-choice c) a.0))
      (λ a. may_hand_moved c.args.state.now c.args.now begun _ (awake (goal.at.In-Some c).After-wake-state) c.in-Some.c (is-choice c) a.0 a.1 m a.2)

  given : (m out : State) → From c m → out ≡ handed c m → Gives c out
  given m out f h =
      ⊎_elim
      (λ a. gives_plain c.args.state.now c.args.now begun _ (awake (goal.at.In-Some c).After-wake-state) c.in-Some.c (is-choice c) out a.0 (h ∙ ap (handed c) a.1))
      (λ a. gives_moved c.args.state.now c.args.now begun _ (awake (goal.at.In-Some c).After-wake-state) c.in-Some.c (is-choice c) a.0 a.1 m out a.2 h)
      f

pub preempt-requires : goal.preempt-requires
preempt-requires c =
    let i = (goal.at.preempt-requires c).In-Some in
    may_move c.args.state.now c.args.now (begun i) _ (awake (goal.at.preempt-requires c).After-wake-state) c.in-Some.c (is-choice i) c.in-Some-preemptor.p c.in-Some-preemptor.is

from : (c : Joined-c) → From (goal.at.Joined-c c).In-Some c.match-c.state
from c =
    elim c.match-c.branch [
      | in-Some-preemptor w ↦ inr (w.in-Some-preemptor.p, w.in-Some-preemptor.is, w.state-is ∙ w.preempt.ensures)
      | in_default-preemptor w ↦ inl (w.in_default-preemptor.is, w.state-is)
    ]

pub hand_out-ticket-requires : goal.hand_out-ticket-requires
hand_out-ticket-requires c = hand (goal.at.hand_out-ticket-requires c).In-Some c.match-c.state (from (goal.at.hand_out-ticket-requires c).Joined-c)

-- no step before has changed the ticket
ticket-is : (c : In-Some) (m : State) → From c m → m.ticket ≡ (chosen-of c).ticket
unfolding preempting
ticket-is c m = ⊎_elim (λ a. ap (λ s. s.ticket) a.1) (λ a. ap (λ s. s.ticket) a.2)

pub returns : goal.returns
returns c =
    let i = (goal.at.returns c).In-Some in
    let f = from (goal.at.returns c).Joined-c in
    let t = c.hand_out-ticket.ensures.ticket ∙ ticket-is i c.match-c.state f in
    rw t (reply_accepted c.args.state.now (Call.pick c.args.now) _ (unrefused (goal.at.returns c).Else-bad_clock)
    (given i c.match-c.state _ f c.hand_out-ticket.ensures.state))
