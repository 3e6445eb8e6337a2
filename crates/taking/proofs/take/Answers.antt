-- The state's shape is in its type. What each step asks follows from the tests that have passed, and what they leave is the rules' reply: refused, all
-- put off, or a job taken. Assumes nothing.
use Prim.Native.Nat.{ℕ, ◌<◌}
use mathlib.Core.Path.{◌≡◌, refl, sym, ap, ◌∙◌}
use mathlib.Core.Bool.{true, false}
use native.Mathlib.Omega.{arith}
use lib.ListN.{length}
use Rattle.laws.specs.Range.{table_to}
use Rattle.rules.specs.State.{at}
use Rattle.rules.specs.Sound.{sound}
use Rattle.rules.specs.Windows.{woken}
use Rattle.rules.specs.Taking.{kept_of, new_number, new_jobs, taken}
use Rattle.std.proofs.Common.{Err, not, get_or, Bool, rules}
use Rattle.laws.specs.Range.{first_to}
use Rattle.laws.proofs.First.{first_below_is}
use Rattle.rules.specs.Answers.{refusal_in, refusal_number}
use Rattle.rules.specs.Refusals.{bad_clock, job_refusal}
use Rattle.rules.proofs.Shape.{Shaped}
use Rattle.rules.proofs.Soundness.{sound_facts, few_destinations}
use Rattle.rules.proofs.Accepted.{JobAccepted, job_accepted}
use Rattle.waking.proofs.WakingLaws.{clock_is, wakes, woken_is, woken_built}
use Rattle.admission.specs.Admission.{dead_on}
use Rattle.admission.proofs.Refusing.{further_is}
use Rattle.rules.specs.Calls.{Call}
use Rattle.rules.proofs.Replies.{reply_refusal, reply_clock, reply_accepted, reply_unsound}
use Rattle.taking.proofs.Replying.{Facts, facts_of, accepted_small, accepted_transport, number_is, waits_none, waits_some, number_small, waits_few}
use Rattle.taking.proofs.Replying.{kept_front, kept_few, column_same, kept_small, places_enough, places_small, column_is, arrivals_room, queue_room, queue_is, taken_is, replies_none, replies_some}
use Rattle.taking.proofs.take.Goals as goal
use Rattle.taking.proofs.take.Goals.{After-put_last-state, After-dead_table-dead, After-unwrap-job, After-put_last-state, After-refusal, After-split-parts, After-wake-ds, Else-bad_clock, In_ok-refusal, Else-not-sound_at}

-- the state that came is sound
whole : (c : Else-not-sound_at) → sound c.args.state.now ≡ true
whole c = sym c.sound_at.ensures.answer ∙ c.if-not-sound_at.false

-- a state that came in has its shape
shape : (c : Else-bad_clock) → Shaped c.args.state.now
shape c = c.requires

good : (c : Else-bad_clock) → bad_clock c.args.state.now c.args.now ≡ false
good c = sym (clock_is c.args.state.now c.args.now _ c.bad_clock.ensures) ∙ c.if-bad_clock.false

awake : (c : After-wake-ds) → c.wake-ds.result ≡ (woken c.args.state.now c.args.now).destinations
awake c = woken_is c.args.state.now c.args.now c.wake-ds.result c.wake-ds.ensures

table : (c : After-dead_table-dead) → c.dead_table-dead.result ≡ table_to (dead_on (woken c.args.state.now c.args.now).destinations) 32
table c = c.dead_table-dead.ensures ∙ ap (λ ds. table_to (dead_on ds) 32) (awake (goal.at.After-dead_table-dead c).After-wake-ds)

refusal_is : (c : After-refusal) → refusal_in c.refusal.result ≡ job_refusal c.args.state.now c.args.now c.args.transport c.args.dests.now c.args.list.now
refusal_is c =
    c.refusal.ensures
    ∙ further_is c.args.state.now c.args.now c.args.transport c.args.dests.now c.args.list.now (whole (goal.at.After-refusal c).Else-not-sound_at) (good (goal.at.After-refusal c).Else-bad_clock) c.dead_table-dead.result (table (goal.at.After-refusal c).After-dead_table-dead)

unrefused : (c : In_ok-refusal) → job_refusal c.args.state.now c.args.now c.args.transport c.args.dests.now c.args.list.now ≡ 0
unrefused c = sym (refusal_is (goal.at.In_ok-refusal c).After-refusal) ∙ ap refusal_in c.in_ok-refusal.was

accepted : (c : In_ok-refusal) → JobAccepted c.args.state.now c.args.now c.args.transport c.args.dests.now c.args.list.now
accepted c = job_accepted c.args.state.now c.args.now c.args.transport c.args.dests.now c.args.list.now (unrefused c)

lane-small : (c : In_ok-refusal) → c.args.transport < 4
lane-small c = accepted_transport c.args.state.now c.args.now c.args.transport c.args.dests.now c.args.list.now (accepted c)

facts : (c : After-split-parts) → Facts c.args.state.now c.args.now c.args.transport c.args.dests.now c.args.list.now c.split-parts.new.list c.split-parts.result
facts c =
    facts_of c.args.state.now c.args.now c.args.transport c.args.dests.now c.args.list.now c.split-parts.new.list c.split-parts.result c.dead_table-dead.result
    (accepted (goal.at.After-split-parts c).In_ok-refusal) (table (goal.at.After-split-parts c).After-dead_table-dead) c.split-parts.ensures

number : (c : After-unwrap-job) → c.unwrap-job.result ≡ new_number (woken c.args.state.now c.args.now)
number c = number_is c.args.state.now c.args.now c.unwrap-job.result (sym c.unwrap-job.ensures ∙ c.first_absent.ensures)

small : (c : After-unwrap-job) → c.unwrap-job.result < 32
small c = number_small (facts (goal.at.After-unwrap-job c).After-split-parts) c.if-n-eq0.false c.unwrap-job.result (number c)

pub returns-then-not-sound_at : goal.returns-then-not-sound_at
returns-then-not-sound_at c =
    let a = c.args in
    reply_unsound a.state.now (Call.job a.now a.transport a.dests.now a.list.now) (sym c.sound_at.ensures.answer ∙ c.if-not-sound_at.true)

pub returns-then-bad_clock : goal.returns-then-bad_clock
returns-then-bad_clock c =
    let a = c.args in
    let bad = sym (clock_is a.state.now a.now _ c.bad_clock.ensures) ∙ c.if-bad_clock.true in
    reply_clock a.state.now (Call.job a.now a.transport a.dests.now a.list.now) (whole (goal.at.returns-then-bad_clock c).Else-not-sound_at) bad

pub wake-ds-requires : goal.wake-ds-requires
wake-ds-requires c =
    let p = c in
    wakes p.args.state.now p.args.now (sound_facts p.args.state.now (whole (goal.at.wake-ds-requires p).Else-not-sound_at))

pub refusal-requires : goal.refusal-requires
refusal-requires c =
    let p = c in
    few_destinations p.args.state.now (whole (goal.at.refusal-requires p).Else-not-sound_at)

pub returns-in_err-refusal : goal.returns-in_err-refusal
returns-in_err-refusal c =
    let a = c.args in
    let k = c.in_err-refusal.field-0.0 in
    let e : c.from_residual.result ≡ Err k = search rules in
    let r : refusal_number k ≡ job_refusal a.state.now a.now a.transport a.dests.now a.list.now = sym (ap refusal_in c.in_err-refusal.was) ∙ refusal_is (goal.at.returns-in_err-refusal c).After-refusal in
    rw e (reply_refusal a.state.now (Call.job a.now a.transport a.dests.now a.list.now) k r)

pub split-parts-requires : goal.split-parts-requires
split-parts-requires c =
    let p = c in
    let a = accepted (goal.at.split-parts-requires p).In_ok-refusal in
    record {
      by_index = accepted_small p.args.state.now p.args.now p.args.transport p.args.dests.now p.args.list.now a;
      dests_len_bound = (a.few, a.lent);
    }

pub shape_of-list-then-n-eq0 : goal.shape_of-list-then-n-eq0
shape_of-list-then-n-eq0 c = c.split-parts.auto.list

pub returns-then-n-eq0 : goal.returns-then-n-eq0
returns-then-n-eq0 c =
    let p = c in
    let f = facts (goal.at.returns-then-n-eq0 p).After-split-parts in
    let a = p in
    let built = woken_built a.args.state.now a.args.now _ p.wake-ds.ensures in
    reply_accepted a.args.state.now (Call.job a.args.now a.args.transport a.args.dests.now a.args.list.now) _ (unrefused (goal.at.returns-then-n-eq0 p).In_ok-refusal)
    (replies_none (woken a.args.state.now a.args.now) a.args.now a.args.transport a.args.dests.now a.args.list.now _ _ _ f.putoff f.wrote built (waits_none f c.if-n-eq0.true))

pub unwrap-job-requires : goal.unwrap-job-requires
unfolding new_number woken
unwrap-job-requires c =
    let p : ℕ → Bool = λ i. not (get_or c.args.state.now.jobs.present i false) in
    let e = first_below_is p 32 (number_small (facts (goal.at.unwrap-job-requires c).After-split-parts) c.if-n-eq0.false (first_to p 32) refl) in
    let g = c.first_absent.ensures ∙ e in search rules

pub overflow_cast-transport : goal.overflow_cast-transport
overflow_cast-transport c = record { fits = omega (arith, lane-small (goal.at.overflow_cast-transport c).In_ok-refusal) }

pub overflow_cast-now : goal.overflow_cast-now
overflow_cast-now c = record { fits = omega (arith, (accepted (goal.at.overflow_cast-now c).In_ok-refusal).clock.early) }

pub new_row-state-requires : goal.new_row-state-requires
new_row-state-requires c =
    let r = c in
    let f = facts (goal.at.new_row-state-requires r).After-split-parts in
    (small (goal.at.new_row-state-requires r).After-unwrap-job, kept_few f r.if-n-eq0.false, kept_small f r.if-n-eq0.false)

pub free_places-free-requires : goal.free_places-free-requires
free_places-free-requires c =
    let r = c in
    (waits_few (facts (goal.at.free_places-free-requires r).After-split-parts) r.if-n-eq0.false, places_enough (facts (goal.at.free_places-free-requires r).After-split-parts) r.if-n-eq0.false)

pub shared_ref_as_front-kept : goal.shared_ref_as_front-kept
shared_ref_as_front-kept c = waits_few (facts (goal.at.shared_ref_as_front-kept c).After-split-parts) c.if-n-eq0.false

pub fill-requires-clause-places : goal.fill-requires-clause-places
fill-requires-clause-places c =
    places_small (facts (goal.at.fill-requires-clause-places c).After-split-parts) c.if-n-eq0.false c.free_places-free.result (search rules) c.free_places-free.ensures

pub fill-requires-2-clause-places : goal.fill-requires-2-clause-places
fill-requires-2-clause-places c =
    places_small (facts (goal.at.fill-requires-2-clause-places c).After-split-parts) c.if-n-eq0.false c.free_places-free.result (search rules) c.free_places-free.ensures

pub fill-requires-3-clause-places : goal.fill-requires-3-clause-places
fill-requires-3-clause-places c =
    places_small (facts (goal.at.fill-requires-3-clause-places c).After-split-parts) c.if-n-eq0.false c.free_places-free.result (search rules) c.free_places-free.ensures

pub offset_bounds-state-lane : goal.offset_bounds-state-lane
offset_bounds-state-lane c = omega (arith, lane-small (goal.at.offset_bounds-state-lane c).In_ok-refusal)

pub bounds-state-lane : goal.bounds-state-lane
bounds-state-lane c = lane-small (goal.at.bounds-state-lane c).In_ok-refusal

pub put_last-requires : goal.put_last-requires
put_last-requires c =
    let r = c in
    queue_room (facts (goal.at.put_last-requires r).After-split-parts) r.if-n-eq0.false _ (shape (goal.at.put_last-requires r).Else-bad_clock).queues

pub offset_bounds-state-lane-2 : goal.offset_bounds-state-lane-2
offset_bounds-state-lane-2 c = omega (arith, lane-small (goal.at.offset_bounds-state-lane-2 c).In_ok-refusal)

pub bounds-state-lane-2 : goal.bounds-state-lane-2
bounds-state-lane-2 c = lane-small (goal.at.bounds-state-lane-2 c).In_ok-refusal

pub put_last-state-requires : goal.put_last-state-requires
put_last-state-requires c = arrivals_room (facts (goal.at.put_last-state-requires c).After-split-parts) c.if-n-eq0.false

pub returns : goal.returns
returns c =
    let a = c.args in
    let w = woken a.state.now a.now in
    let f = facts (goal.at.returns c).After-split-parts in
    let j = c.unwrap-job.result in
    let some = c.if-n-eq0.false in
    let places = c.free_places-free.result in
    let long : length places ≡ 256 = search rules in
    let lowest = c.free_places-free.ensures in
    let kept = kept_front f some in
    let t =
    taken_is a.state.now a.now a.transport j (kept_of w a.dests.now) _ _ _ _ _ _ _
    (awake (goal.at.returns c).After-wake-ds)
    (c.new_row-state.ensures ∙ ap (new_jobs a.state.now.jobs j a.transport a.now) kept)
    (column_same f some places long lowest 1 _ _ c.fill.ensures)
    (column_same f some places long lowest j _ _ c.fill-2.ensures)
    (column_is f some places long lowest _ (at (kept_of w a.dests.now)) _ _ (λ i h. ap (λ l. at l i) kept) c.fill-3.ensures)
    (queue_is f some _ (shape (goal.at.returns c).Else-bad_clock).queues j _ c.put_last.ensures)
    c.put_last-state.ensures in
    reply_accepted a.state.now (Call.job a.now a.transport a.dests.now a.list.now) _ (unrefused (goal.at.returns c).In_ok-refusal)
    (replies_some w a.now a.transport a.dests.now a.list.now _ _ _ f.putoff f.wrote j (number (goal.at.returns c).After-unwrap-job)
    (t ∙ ap (λ j. taken w j a.transport a.now (kept_of w a.dests.now)) (number (goal.at.returns c).After-unwrap-job)) (waits_some f some))
