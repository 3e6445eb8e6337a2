-- Demand 3, proved for every accepted set-up and every list of calls.
use Prim.Native.Nat.{ℕ, ◌≤◌, ◌<◌}
use mathlib.Core.Path.{◌≡◌, refl, sym, ◌∙◌, ap, ap₂, subst}
use mathlib.Core.Bool.{true}
use mathlib.Core.List.{List, [], ◌∷◌}
use mathlib.Core.Logic.{⊎_elim}
use native.Mathlib.Nat.{le_trans}
use native.Mathlib.Omega.{arith}
use lib.ListN.{length}
use Rattle.laws.specs.Bools.{when◌then◌else◌}
use Rattle.laws.proofs.All.{any_witness}
use Rattle.ceiling.proofs.Ceilings.{over_ceiling, over_within, over_ceiling_free, pick_ceiling, pick_ceiling_free, blocked_few}
use Rattle.rules.specs.declared.Setup.{Setup}
use Rattle.rules.specs.declared.State.{State}
use Rattle.rules.specs.Sizes.{max_entries}
use Rattle.rules.specs.State.{at, settings_of, destination_of, is_present, used_of}
use Rattle.rules.specs.Setup.{setup_in_range}
use Rattle.rules.specs.Sound.{sound}
use Rattle.rules.specs.SoundFacts.{Sound}
use Rattle.rules.specs.Windows.{woken}
use Rattle.rules.specs.Refusals.{ask_refusal}
use Rattle.rules.specs.Calls.{Call, ask, granted, unless_refused, reply_to}
use Rattle.rules.specs.Tally.{Tally, row_at, row_of, linked_row, sum_on}
use Rattle.rules.specs.History.{state_after}
use Rattle.rules.specs.Demand3.{Ceilings, OldFollows, Demand3, Companions, Demand3Holds, cost_for}
use Rattle.rules.proofs.Shape.{Shaped, present_below}
use Rattle.rules.proofs.Soundness.{sound_of}
use Rattle.rules.proofs.EntryTests.{used_not_free, used_job}
use Rattle.rules.proofs.RangeFacts.{slots_range}
use Rattle.rules.proofs.Refused.{refusal_answered, sound_not_1}
use Rattle.rules.proofs.Sim.{cost_in}
use Rattle.rules.proofs.SimRows.{row_inside, sum_on_lem}
use Rattle.rules.proofs.Picked.{finds_some}
use Rattle.rules.proofs.KeptWaking.{kept_woken}
use Rattle.rules.proofs.Accepted.{pick_accepted}
use Rattle.rules.proofs.Reached.{Reached, reached}
use Rattle.rules.proofs.NothingLost.{nothing_lost_lem}

-- the ceilings of a row of the tally beside a reached state
ceilings_at : {u : Setup} {s : State} {y : Tally} → Reached u s y → (i : ℕ) → i < length y.rows → Ceilings (cost_for u (row_at y.rows i)) (row_at y.rows i)
ceilings_at {u} {s} {y} r i l =
    let g = r.columns in
    let inside : i < g.rows = subst (λ n. i < n) r.sim.rows l in
    let w = r.sim.row i inside in
    let cost : cost_for u (row_at y.rows i) ≡ cost_in u (g.transport i) = ap (cost_in u) w.transport in
    record {
      overtakers = λ h. rw (w.overtakers, w.n, cost) (over_ceiling r.sim.inv i inside (subst (λ c. 2 ≤ c) cost h));
      nobody = λ h. w.overtakers ∙ over_ceiling_free r.sim.inv i inside (sym cost ∙ h);
      lastpick = λ h. rw (w.lastpick, w.upto, w.lastpast, cost) (pick_ceiling r.sim.inv i inside (subst (λ c. 2 ≤ c) cost h));
      lastpickoff = λ h. rw (w.lastpick, w.upto, w.lastpast) (pick_ceiling_free r.sim.inv i inside (sym cost ∙ h));
      past = rw (w.lastpast, w.lasttotal) (blocked_few r.sim.inv i inside);
    }

-- where the noted total is 0, P is 0
pub old_follows : OldFollows
old_follows c r h z =
    let none : r.lastpast ≡ 0 = omega (arith, h.past) in
    record { past = none; lastpick = λ d. omega (arith, h.lastpick d); lastpickoff = λ f. omega (arith, h.lastpickoff f) }

-- the picks that went past a transport's rows
counted_at : {u : Setup} {s : State} {y : Tally} → Reached u s y → (t : ℕ) → sum_on t (λ r. r.past) y.rows ≡ y.total t
counted_at r t =
    sum_on_lem r.sim t (λ r. r.past) r.columns.blocked (λ i l. (r.sim.row i l).past) ∙ sym (r.sim.inv.counts.passed t) ∙ sym (r.sim.total t)

-- asking about a present job of a sound state is accepted
ask_accepted : (s : State) (j : ℕ) → sound s ≡ true → is_present s j ≡ true → (reply_to s (ask j)).says ≡ granted (at s.jobs.overtakers j ∷ [])
unfolding reply_to unless_refused ask_refusal when◌then◌else◌
ask_accepted s j h p = rw (h, p) refl

asking_at : {u : Setup} {s : State} {y : Tally} → Reached u s y → (j : ℕ) → is_present s j ≡ true
    → (1 ≤ row_of y.rows j) × ((reply_to s (ask j)).says ≡ granted ((linked_row y.rows (row_of y.rows j)).overtakers ∷ []))
unfolding linked_row
asking_at {u} {s} {y} r j h =
    let (i, q) = r.sim.job j h in
    rw q.link (
      omega arith,
      ask_accepted s j (sound_of s r.sound) h ∙ ap (λ n. granted (n ∷ [])) (q.over ∙ sym (r.sim.row i (row_inside r.sim j i q.link)).overtakers),
    )

pub demand3 : (u : Setup) → setup_in_range u ≡ true → (calls : List Call) → Demand3 u calls
demand3 u h calls =
    record {
      ceilings = ceilings_at (reached u h calls);
      counted = counted_at (reached u h calls);
      asking = λ before after e. asking_at (reached u h before);
    }

-- a present job's transport is one of the set-up's: it has an entry
job_lane : (s : State) → Shaped s → Sound s → (j : ℕ) → is_present s j ≡ true → at s.jobs.transport j < s.setup.transports
job_lane s shaped whole j h =
    let (e, l, used) = any_witness (used_of s j) max_entries (whole.used j (present_below s shaped j h) h) in
    let r = whole.entries e l (used_not_free s j e used) in
    subst (λ t. t < s.setup.transports) (sym r.transport ∙ ap (at s.jobs.transport) (used_job s j e used))
    (whole.setup.home (destination_of s e) r.destination)

-- sums stay at most n
sums_small_lem : {u : Setup} {s : State} {y : Tally} → Reached u s y → (j : ℕ) → is_present s j ≡ true → at s.jobs.overtakers j ≤ 256
sums_small_lem {u} {s} {y} r j h =
    let (i, q) = r.sim.job j h in
    let inside = row_inside r.sim j i q.link in
    let n = (r.sound.jobs j (present_below s r.shaped j h) h).n.1 in
    let cost : cost_in u (r.columns.transport i) ≡ (settings_of s (at s.jobs.transport j)).cost =
    ap₂ cost_in (sym r.sim.setup) (sym q.transport) in
    ⊎_elim
    (λ z. rw (q.over ∙ over_ceiling_free r.sim.inv i inside (cost ∙ z)) (omega arith))
    (λ z. rw q.over (le_trans (over_within r.sim.inv i inside (subst (λ c. 2 ≤ c) (sym cost) z)) (subst (λ v. v ≤ 256) q.n n)))
    (slots_range (settings_of s (at s.jobs.transport j)) (r.sound.setup.settings (at s.jobs.transport j) (job_lane s r.shaped r.sound j h))).cost

pub companions : (u : Setup) → setup_in_range u ≡ true → (calls : List Call) → Companions u calls
companions u h calls =
    let r = reached u h calls in
    let whole = sound_of (state_after u calls) r.sound in
    record {
      reached = whole;
      never1 = λ call e. sound_not_1 (state_after u calls) call whole (sym (refusal_answered (state_after u calls) call) ∙ e);
      finds_eligible = λ now a.
          (let c = (pick_accepted (state_after u calls) now a).clock in
          finds_some (woken (state_after u calls) now) (kept_woken (state_after u calls) now r.shaped r.sound c.later).1);
      nothing_lost = (nothing_lost_lem u h calls).balance;
      sums_small = sums_small_lem r;
    }

pub demand3_holds : Demand3Holds
demand3_holds u calls h = (demand3 u h calls, companions u h calls)
