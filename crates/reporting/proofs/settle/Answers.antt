-- The state's shape is in its type; from it and soundness follows what each step asks, and `report_is` joins what they ensure. Assumes nothing.
use Prim.Native.Nat.{◌≤◌}
use mathlib.Core.Path.{◌≡◌, sym, subst, ap, ◌∙◌}
use mathlib.Core.Bool.{true, false}
use mathlib.Core.List.{[]}
use native.Mathlib.Omega.{arith}
use lib.ListN.{length, get_or}
use borrow.Author.Rules.{rules}
use Rattle.laws.specs.Sequence.{keep}
use Rattle.laws.proofs.Table.{length_table}
use Rattle.rules.specs.declared.JobList.{JobList}
use Rattle.rules.specs.State.{zero_list, list_of, listed, transport_of, destination_of}
use Rattle.rules.specs.Sound.{sound}
use Rattle.rules.specs.Windows.{woken}
use Rattle.rules.specs.Refusals.{bad_clock, report_refusal}
use Rattle.rules.proofs.Shape.{Shaped}
use Rattle.rules.proofs.Shapes.{same_list}
use Rattle.waking.proofs.WakingLaws.{clock_is, wakes, woken_is}
use Rattle.settling.proofs.RefusalLaws.{entry_refusal_is}
use Rattle.rules.specs.Calls.{Call}
use Rattle.std.proofs.Common.{Err, refl}
use Rattle.rules.specs.Answers.{refusal_in, refusal_number}
use Rattle.reporting.proofs.Off.{off_of}
use Rattle.rules.proofs.Replies.{reply_refusal, reply_clock, reply_accepted, reply_unsound}
use Rattle.rules.proofs.Accepted.{ReportAccepted, report_accepted}
use Rattle.reporting.proofs.ReportLaws.{ReportAsks, report_asks, step_asks, put_off_asks, adopt_asks, report_is}
use Rattle.reporting.proofs.Stayers.{others_live, stay_asks}
use Rattle.reporting.proofs.settle.Goals as goal
use Rattle.reporting.proofs.settle.Goals.{After-staying-stays, After-refusal, After-wake-ds, Else-bad_clock, In_ok-refusal, Else-not-sound_at}

-- the state that came is sound
whole : (c : Else-not-sound_at) → sound c.args.state.now ≡ true
whole c = sym c.sound_at.ensures.answer ∙ c.if-not-sound_at.false

-- a state that came in has its shape
shape : (c : Else-bad_clock) → Shaped c.args.state.now
shape c = c.requires

good : (c : Else-bad_clock) → bad_clock c.args.state.now c.args.now ≡ false
good c = sym (clock_is c.args.state.now c.args.now _ c.bad_clock.ensures) ∙ c.if-bad_clock.false

refusal_is : (c : After-refusal) → refusal_in c.refusal.result ≡ report_refusal c.args.state.now c.args.now c.args.entry c.args.ticket c.args.list.now
refusal_is c =
    c.refusal.ensures
    ∙ entry_refusal_is c.args.state.now c.args.now c.args.entry c.args.ticket c.args.list.now (whole (goal.at.After-refusal c).Else-not-sound_at) (good (goal.at.After-refusal c).Else-bad_clock)

accepted : (c : In_ok-refusal) → report_refusal c.args.state.now c.args.now c.args.entry c.args.ticket c.args.list.now ≡ 0
accepted c = sym (refusal_is (goal.at.In_ok-refusal c).After-refusal) ∙ ap refusal_in c.in_ok-refusal.was

can : (c : In_ok-refusal) → ReportAccepted c.args.state.now c.args.now c.args.entry c.args.ticket c.args.list.now
can c = report_accepted c.args.state.now c.args.now c.args.entry c.args.ticket c.args.list.now (accepted c)

asks : (c : In_ok-refusal) → ReportAsks c.args.state.now c.args.entry
asks c = report_asks c.args.state.now c.args.now c.args.entry c.args.ticket c.args.list.now (shape (goal.at.In_ok-refusal c).Else-bad_clock) (can c)

own-queue : (c : In_ok-refusal) → get_or c.args.state.now.queues (transport_of c.args.state.now (destination_of c.args.state.now c.args.entry)) (record { jobs = []; count = 0 }) ≡ get_or c.args.state.now.queues (transport_of c.args.state.now (destination_of c.args.state.now c.args.entry)) zero_list
own-queue c = same_list c.args.state.now _ (shape (goal.at.In_ok-refusal c).Else-bad_clock).queues (asks c).transport

awake : (c : After-wake-ds) → c.wake-ds.result ≡ (woken c.args.state.now c.args.now).destinations
awake c = woken_is c.args.state.now c.args.now c.wake-ds.result c.wake-ds.ensures

pub returns-then-not-sound_at : goal.returns-then-not-sound_at
returns-then-not-sound_at c =
    let a = c.args in
    reply_unsound a.state.now (Call.report a.now a.entry a.ticket a.outcome a.list.now) (sym c.sound_at.ensures.answer ∙ c.if-not-sound_at.true)

pub returns-then-bad_clock : goal.returns-then-bad_clock
returns-then-bad_clock c =
    let a = c.args in
    let bad = sym (clock_is a.state.now a.now _ c.bad_clock.ensures) ∙ c.if-bad_clock.true in
    reply_clock a.state.now (Call.report a.now a.entry a.ticket a.outcome a.list.now) (whole (goal.at.returns-then-bad_clock c).Else-not-sound_at) bad

pub returns-in_err-refusal : goal.returns-in_err-refusal
returns-in_err-refusal c =
    let a = c.args in
    let k = c.in_err-refusal.field-0.0 in
    let e : c.from_residual.result ≡ Err k = search rules in
    let r : refusal_number k ≡ report_refusal a.state.now a.now a.entry a.ticket a.list.now = sym (ap refusal_in c.in_err-refusal.was) ∙ refusal_is (goal.at.returns-in_err-refusal c).After-refusal in
    rw e (reply_refusal a.state.now (Call.report a.now a.entry a.ticket a.outcome a.list.now) k r)

pub wake-ds-requires : goal.wake-ds-requires
wake-ds-requires c = wakes _ c.args.now (asks (goal.at.wake-ds-requires c).In_ok-refusal).whole

pub bounds-state-e : goal.bounds-state-e
bounds-state-e c = (can (goal.at.bounds-state-e c).In_ok-refusal).entry

pub bounds-state-e-2 : goal.bounds-state-e-2
bounds-state-e-2 c = (can (goal.at.bounds-state-e-2 c).In_ok-refusal).entry

pub bounds-state-e-3 : goal.bounds-state-e-3
bounds-state-e-3 c = (can (goal.at.bounds-state-e-3 c).In_ok-refusal).entry

pub bounds-state-d : goal.bounds-state-d
bounds-state-d c = (asks (goal.at.bounds-state-d c).In_ok-refusal).destination

pub bounds-ds-d : goal.bounds-ds-d
bounds-ds-d c = (asks (goal.at.bounds-ds-d c).In_ok-refusal).destination

pub bounds-state-d-2 : goal.bounds-state-d-2
bounds-state-d-2 c = (asks (goal.at.bounds-state-d-2 c).In_ok-refusal).destination

pub bounds-ds-d-2 : goal.bounds-ds-d-2
bounds-ds-d-2 c = (asks (goal.at.bounds-ds-d-2 c).In_ok-refusal).destination

pub bounds-state-d-3 : goal.bounds-state-d-3
bounds-state-d-3 c = (asks (goal.at.bounds-state-d-3 c).In_ok-refusal).destination

pub bounds-state-d-4 : goal.bounds-state-d-4
bounds-state-d-4 c = (asks (goal.at.bounds-state-d-4 c).In_ok-refusal).destination

pub bounds-state-t : goal.bounds-state-t
bounds-state-t c = (asks (goal.at.bounds-state-t c).In_ok-refusal).transport

pub bounds-state-t-2 : goal.bounds-state-t-2
bounds-state-t-2 c = (asks (goal.at.bounds-state-t-2 c).In_ok-refusal).transport

pub bounds-state-t-3 : goal.bounds-state-t-3
bounds-state-t-3 c = (asks (goal.at.bounds-state-t-3 c).In_ok-refusal).transport

pub offset_bounds-state-t : goal.offset_bounds-state-t
offset_bounds-state-t c = omega (arith, (asks (goal.at.offset_bounds-state-t c).In_ok-refusal).transport)

pub offset_bounds-state-t-2 : goal.offset_bounds-state-t-2
offset_bounds-state-t-2 c = omega (arith, (asks (goal.at.offset_bounds-state-t-2 c).In_ok-refusal).transport)

pub overflow_sub-state : goal.overflow_sub-state
overflow_sub-state c = (asks (goal.at.overflow_sub-state c).In_ok-refusal).busy_transport

pub overflow_sub-state-2 : goal.overflow_sub-state-2
overflow_sub-state-2 c = (asks (goal.at.overflow_sub-state-2 c).In_ok-refusal).busy_destination

pub step-step-requires : goal.step-step-requires
step-step-requires c = step_asks _ _ _ _ _ (shape (goal.at.step-step-requires c).Else-bad_clock) (can (goal.at.step-step-requires c).In_ok-refusal) (awake (goal.at.step-step-requires c).After-wake-ds)

pub put_off-putoff-requires : goal.put_off-putoff-requires
put_off-putoff-requires c =
    let p = c in
    put_off_asks _ _ _ _ _ (shape (goal.at.put_off-putoff-requires p).Else-bad_clock) (can (goal.at.put_off-putoff-requires p).In_ok-refusal)

pub staying-stays-requires : goal.staying-stays-requires
staying-stays-requires c =
    let can-here = can (goal.at.staying-stays-requires c).In_ok-refusal in
    let put = rw c.then_some-dead.ensures at c.put_off-putoff.ensures in
    let own = off_of c.is_death.result _ _ _ _ _ _ _ _ _ _ put in (
      (asks (goal.at.staying-stays-requires c).In_ok-refusal).job,
      rw c.then_some-dead.ensures (stay_asks _ _ _ _ _ can-here own refl (c.sound_at.ensures.pairs.counted c.if-not-sound_at.false) (others_live _ _ _ _ _ can-here own refl) c.is_death.result refl),
    )

pub adopt-state-requires : goal.adopt-state-requires
adopt-state-requires c =
    let p = c in
    adopt_asks _ _ _ _ _ (shape (goal.at.adopt-state-requires p).Else-bad_clock) (can (goal.at.adopt-state-requires p).In_ok-refusal) _ c.staying-stays.ensures

-- a column of who stays has 32 places
stay-length : (c : After-staying-stays) → length c.staying-stays.result ≡ 32
stay-length c = ap length c.staying-stays.ensures ∙ length_table _ 32

pub keep-requires : goal.keep-requires
keep-requires c =
    let p = c in
    (subst (λ (q : JobList). q.count ≤ 32) (sym (own-queue (goal.at.keep-requires p).In_ok-refusal)) (asks (goal.at.keep-requires p).In_ok-refusal).queue, stay-length (goal.at.keep-requires c).After-staying-stays)

pub offset_bounds-state-t-3 : goal.offset_bounds-state-t-3
offset_bounds-state-t-3 c = omega (arith, (asks (goal.at.offset_bounds-state-t-3 c).In_ok-refusal).transport)

pub bounds-state-t-4 : goal.bounds-state-t-4
bounds-state-t-4 c = (asks (goal.at.bounds-state-t-4 c).In_ok-refusal).transport

pub offset_bounds-state-t-4 : goal.offset_bounds-state-t-4
offset_bounds-state-t-4 c = omega (arith, (asks (goal.at.offset_bounds-state-t-4 c).In_ok-refusal).transport)

pub bounds-state-t-5 : goal.bounds-state-t-5
bounds-state-t-5 c = (asks (goal.at.bounds-state-t-5 c).In_ok-refusal).transport

pub keep-state-requires : goal.keep-state-requires
keep-state-requires c = ((asks (goal.at.keep-state-requires c).In_ok-refusal).arrivals, stay-length (goal.at.keep-state-requires c).After-staying-stays)

pub returns : goal.returns
returns c =
    let a = c.args in
    let queue = ap (λ (q : JobList). listed (keep (λ j. get_or c.staying-stays.result j false) (list_of q))) (own-queue (goal.at.returns c).In_ok-refusal) in
    let put = rw c.then_some-dead.ensures at c.put_off-putoff.ensures in
    reply_accepted a.state.now (Call.report a.now a.entry a.ticket a.outcome a.list.now) _ (accepted (goal.at.returns c).In_ok-refusal)
    (report_is a.state.now a.now a.entry a.outcome (shape (goal.at.returns c).Else-bad_clock) (awake (goal.at.returns c).After-wake-ds) c.step-step.ensures
    c.is_death.ensures put refl c.staying-stays.ensures c.adopt-state.ensures
    (c.keep.ensures ∙ queue) c.keep-state.ensures)
