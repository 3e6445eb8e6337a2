-- What a call does to a state, step by step, with what the rules decide: it wakes; then it takes a job, picks, or reports. What each step keeps,
-- every call keeps.
use Prim.Native.Nat.{ℕ, zero, suc, ◌≤◌, ◌<◌}
use mathlib.Core.Path.{◌≡◌, refl, sym, subst}
use mathlib.Core.Bool.{Bool, true, false}
use mathlib.Core.List.{List, [], ◌∷◌, map, foldl, foldl-append}
use native.Mathlib.Omega.{arith}
use lib.Dec.{eqb}
use borrow.Author.Tests.{eqb-false}
use Rattle.laws.specs.Bools.{when◌then◌else◌}
use Rattle.rules.specs.declared.State.{State}
use Rattle.rules.specs.declared.Outcome.{Outcome}
use Rattle.rules.specs.Sizes.{max_entries}
use Rattle.rules.specs.State.{is_busy, job_of, destination_of}
use Rattle.rules.specs.Windows.{woken}
use Rattle.rules.specs.Taking.{kept_of, n_of, new_number, taken}
use Rattle.rules.specs.Picking.{finds}
use Rattle.rules.specs.Pick.{picking}
use Rattle.rules.specs.Reporting.{reporting}
use Rattle.rules.specs.Calls.{Reply, Call, job, pick, report, ask, board, lent_to, refusal_of, accepted, unless_refused, taking_reply, picking_reply, after_pick}
use Rattle.rules.specs.Calls.{reporting_reply, reply_to, Decision, took, put_off, taking_decisions, picking_decision, pick_decisions, decided, decided_unless, decisions_on}
use Rattle.rules.specs.SoundFacts.{Sound}
use Rattle.rules.specs.History.{state_from, decisions_from}
use Rattle.rules.proofs.Shape.{Shaped}
use Rattle.rules.proofs.KeptWaking.{kept_woken}
use Rattle.rules.proofs.Taken.{Passed}
use Rattle.rules.proofs.KeptTaking.{kept_taken}
use Rattle.rules.proofs.KeptPicking.{kept_picking}
use Rattle.rules.proofs.KeptReporting.{kept_reporting}
use Rattle.rules.proofs.Accepted.{GoodClock, job_accepted, passed_of, pick_accepted, report_accepted}

-- What is said of a state and of something that is fed each decision, and how each step carries it on from a sound state. The steps after waking
-- are at the state's own clock.
pub record Steps {ℓ} {A : Type 0} (feed : A → Decision → A) (P : State → A → Type ℓ) : Type ℓ where
  pub wakes : (s : State) (a : A) → Shaped s → Sound s → P s a → (now : ℕ) → P (woken s now) a
  pub takes : (w : State) (a : A) → Shaped w → Sound w → P w a → (t : ℕ) (dests : List ℕ) → Passed w t dests
      → P (taken w (new_number w) t w.clock (kept_of w dests)) (feed a (took (new_number w) t (n_of w dests)))
  pub picks : (w : State) (a : A) → Shaped w → Sound w → P w a → finds w ≡ true
      → P (picking w w.clock).state (feed a (picking_decision (picking w w.clock).found))
  pub reports : (w : State) (a : A) → Shaped w → Sound w → P w a → (e : ℕ) (outcome : Outcome) → e < max_entries → is_busy w e ≡ true
      → P (reporting w w.clock e (destination_of w e) outcome).state
      (foldl feed a (map put_off (map (job_of w) (reporting w w.clock e (destination_of w e) outcome).putoff)))

-- with the shape and soundness, which every step keeps
pub record Holds {ℓ} {A : Type 0} (P : State → A → Type ℓ) (s : State) (a : A) : Type ℓ where
  pub shaped : Shaped s
  pub sound : Sound s
  pub said : P s a

module _ {ℓ} {A : Type 0} {feed : A → Decision → A} {P : State → A → Type ℓ} (steps : Steps feed P) (s : State) (a : A) (h : Holds P s a) where
  woke : (now : ℕ) → GoodClock s now → Holds P (woken s now) a
  woke now c =
      let kept = kept_woken s now h.shaped h.sound c.later in
      record { shaped = kept.0; sound = kept.1; said = steps.wakes s a h.shaped h.sound h.said now }

  took_in : (w : State) → Holds P w a → (t : ℕ) (dests : List ℕ) → Passed w t dests
      → Holds P (taken w (new_number w) t w.clock (kept_of w dests)) (feed a (took (new_number w) t (n_of w dests)))
  took_in w k t dests p =
      let kept = kept_taken w t w.clock dests k.shaped k.sound refl p in
      record { shaped = kept.0; sound = kept.1; said = steps.takes w a k.shaped k.sound k.said t dests p }

  picked_from_lem : (w : State) → Holds P w a → finds w ≡ true → Holds P (picking w w.clock).state (feed a (picking_decision (picking w w.clock).found))
  picked_from_lem w k f =
      let kept = kept_picking w w.clock k.shaped k.sound f in
      record { shaped = kept.0; sound = kept.1; said = steps.picks w a k.shaped k.sound k.said f }

  reported_of : (w : State) → Holds P w a → (e : ℕ) (outcome : Outcome) → e < max_entries → is_busy w e ≡ true
      → Holds P (reporting w w.clock e (destination_of w e) outcome).state
      (foldl feed a (map put_off (map (job_of w) (reporting w w.clock e (destination_of w e) outcome).putoff)))
  reported_of w k e outcome l b =
      let kept = kept_reporting w w.clock e outcome k.shaped k.sound l b in
      record { shaped = kept.0; sound = kept.1; said = steps.reports w a k.shaped k.sound k.said e outcome l b }

  -- refused, or not
  unless : (k : ℕ) (buffer : List ℕ) (r : Reply) (ds : List Decision) → (k ≡ 0 → Holds P r.state (foldl feed a ds))
      → Holds P (unless_refused k s buffer r).state (foldl feed a (decided_unless k ds))
  unfolding unless_refused decided_unless
  unless zero buffer r ds f = f refl
  unless (suc k) buffer r ds f = h

  either : (b : Bool) (r q : Reply) (ds es : List Decision) → (b ≡ true → Holds P r.state (foldl feed a ds)) → (b ≡ false → Holds P q.state (foldl feed a es))
      → Holds P (when b then r else q).state (foldl feed a (when b then ds else es))
  unfolding when◌then◌else◌
  either true r q ds es t f = t refl
  either false r q ds es t f = f refl

  some : (n : ℕ) → (n ≡ 0 → ⊥) → 1 ≤ n
  some n h = omega arith

  accepted_keeps : (call : Call) → refusal_of s call ≡ 0 → Holds P (accepted s call).state (foldl feed a (decided s call))
  unfolding taking_reply taking_decisions after_pick pick_decisions picking_reply reporting_reply
  accepted_keeps (job now t dests list) e =
      let p = job_accepted s now t dests list e in
      let w : State = woken s now in
      either (eqb (n_of w dests) 0) _ _ [] (took (new_number w) t (n_of w dests) ∷ []) (λ z. woke now p.clock)
      (λ z. unfold woken in took_in w (woke now p.clock) t dests (passed_of s now t dests list p (some (n_of w dests) (eqb-false (n_of w dests) 0 z))))
  accepted_keeps (pick now) e =
      let w : State = woken s now in
      let k = woke now (pick_accepted s now e).clock in
      either (finds w) _ _ (picking_decision (picking w now).found ∷ []) [] (λ f. unfold woken in picked_from_lem w k f) (λ f. k)
  accepted_keeps (report now e ticket outcome list) r =
      let p = report_accepted s now e ticket list r in
      unfold woken in
      reported_of (woken s now) (woke now p.clock) e outcome p.entry p.busy
  accepted_keeps (ask j) e = h
  accepted_keeps (board buffer) e = h

  pub call_keeps : (call : Call) → Holds P (reply_to s call).state (foldl feed a (decisions_on s call))
  unfolding reply_to decisions_on
  call_keeps call = unless (refusal_of s call) (lent_to call) (accepted s call) (decided s call) (accepted_keeps call)

-- and so every list of calls
pub calls_keep {ℓ} : {A : Type 0} {feed : A → Decision → A} {P : State → A → Type ℓ} → Steps feed P → (s : State) (a : A) → Holds P s a
    → (calls : List Call) → Holds P (state_from s calls) (foldl feed a (decisions_from s calls))
unfolding state_from decisions_from
calls_keep steps s a h [] = h
calls_keep {A} {feed} {P} steps s a h (call ∷ calls) =
    subst (Holds P (state_from (reply_to s call).state calls)) (sym (foldl-append feed a (decisions_on s call) (decisions_from (reply_to s call).state calls)))
    (calls_keep steps (reply_to s call).state (foldl feed a (decisions_on s call)) (call_keeps steps s a h call) calls)
