-- A4: who has positive feedback 0 is refused; under an accepted set-up a window that is below its limit rises again.
use Prim.Native.Nat.{ℕ, zero, suc, ◌+◌, ◌-◌, ◌*◌, ◌≤◌, ◌<◌, min}
use mathlib.Core.Path.{◌≡◌, refl, sym, ◌∙◌, ap, subst}
use mathlib.Core.Bool.{true, false}
use mathlib.Core.List.{List, [], ◌∷◌}
use native.Mathlib.Nat.{suc-mul, lt_of_mul-lt-mul_right}
use native.Mathlib.Omega.{arith}
use lib.ListN.{get_or}
use lib.Dec.{eqb, ltb, leb}
use borrow.Author.Tests.{eqb-true, leb-true, leb-false, eq-eqb}
use Rattle.laws.proofs.Bools.{true_not_false, case_bool, false_of, and_left, and_right, if_cases, if_true, if_false, one_true, one_false, one_zero}
use Rattle.laws.proofs.Joined.{and_3}
use Rattle.laws.proofs.Fractions.{rounded_up_reaches, rounded_up_least, rounded_up_le}
use Rattle.rules.specs.declared.Settings.{Settings}
use Rattle.rules.specs.declared.Setup.{Setup}
use Rattle.rules.specs.declared.Sums.{Sums}
use Rattle.rules.specs.declared.Health.TheVariants.{Live}
use Rattle.rules.specs.declared.State.{State}
use Rattle.rules.specs.declared.Outcome.TheVariants.{Success, Failure}
use Rattle.rules.specs.Sizes.{U}
use Rattle.rules.specs.State.{at, settings_of, settings_in, settings_for, health_of, window_of, destination_of, zero_settings, zero_destination}
use Rattle.rules.specs.Setup.{settings_in_range}
use Rattle.rules.specs.SoundFacts.{LiveSound, Sound}
use Rattle.rules.specs.Windows.{feedback, raised, live_after_success, after_success, after_report, woken}
use Rattle.rules.specs.Taking.{n_of, taken}
use Rattle.rules.specs.Picking.{finds}
use Rattle.rules.specs.Preemption.{preempting}
use Rattle.rules.specs.Pick.{handed_out, pick_from, pick_with, pick_on, picking}
use Rattle.rules.specs.Refusals.{setup_refusal, report_refusal}
use Rattle.rules.specs.Calls.{Reply, Call, job, pick, report, ask, board, lent_to, refusal_of, accepted, unless_refused, taking_reply, picking_reply, after_pick}
use Rattle.rules.specs.Calls.{report_reply, reply_to}
use Rattle.rules.specs.Sound.{implies}
use Rattle.rules.specs.History.{state_from, state_after}
use Rattle.rules.specs.Recovery.{is_report, any_outcome, is_success, counts, reports_in, in_arow, needed, Recovers, RecoveryHolds}
use Rattle.rules.proofs.RangeFacts.{implies_at, windows_range, in_range_facts}
use Rattle.rules.proofs.Soundness.{sound_facts}
use Rattle.rules.proofs.WindowLaws.{feedback_part}
use Rattle.rules.proofs.KeptWaking.{woken_still}
use Rattle.rules.proofs.Replies.{refusal_unsound, reply_accepted}
use Rattle.rules.proofs.CallCases.{Steps, Holds, call_keeps}
use Rattle.rules.proofs.Reached.{reached}
use Rattle.rules.proofs.ReportedFacts.{report_leaves, report_health, report_health_other}

-- "Set-up with positive feedback 0 now gets refusal 2", whatever else it says
pub zero_refused : (u : Setup) (t : ℕ) → t < u.transports → (get_or u.settings t zero_settings).positive.percent ≡ 0 → setup_refusal u ≡ 2
unfolding setup_refusal
zero_refused u t inside z =
    if_false _ _ (false_of λ h. omega (arith, (windows_range (get_or u.settings t zero_settings) ((in_range_facts u h).settings t inside)).positive.0, z))

-- "A state that carries 0 is unsound and gets refusal 1", from every call
pub zero_unsound : (s : State) (t : ℕ) → t < s.setup.transports → (settings_of s t).positive.percent ≡ 0 → (call : Call) → refusal_of s call ≡ 1
zero_unsound s t inside z call =
    refusal_unsound s call (false_of λ h. omega (arith, (windows_range (settings_of s t) ((sound_facts s h).setup.settings t inside)).positive.0, z))

-- the sums after a success that counts
abbrev counted : Settings → Sums → Sums
counted g u = raised g u (u.success + feedback g.positive u.window)

-- A pick leaves the set-up and the destinations alone.

with_leaves : (w : State) (t y link : ℕ) → ((pick_with w t y link).state.setup ≡ w.setup) × ((pick_with w t y link).state.destinations ≡ w.destinations)
unfolding pick_with pick_from handed_out preempting
with_leaves w t y zero = (refl, refl)
with_leaves w t y (suc x) = (refl, refl)

picking_leaves : (w : State) (now : ℕ) → ((picking w now).state.setup ≡ w.setup) × ((picking w now).state.destinations ≡ w.destinations)
unfolding picking pick_on
picking_leaves w now = with_leaves w _ _ _

module _ (s : State) (d : ℕ) (u : Sums) (sound : Sound s) (inside : d < s.setup.destinations) (live : health_of s d ≡ Live u) where
  -- Waking leaves a live destination as it is, and so does each call that is no accepted report of it.

  awake : (now : ℕ) → health_of (woken s now) d ≡ Live u
  awake now = woken_still s now d u sound inside live

  accepted_still : (call : Call) → refusal_of s call ≡ 0 → is_report any_outcome s d call ≡ false → health_of (accepted s call).state d ≡ Live u
  unfolding taking_reply after_pick picking_reply taken is_report
  accepted_still (job now t dests list) r n =
      if_cases (λ (x : Reply). health_of x.state d ≡ Live u) (eqb (n_of (woken s now) dests) 0) (λ z. awake now) (λ z. awake now)
  accepted_still (pick now) r n =
      if_cases (λ (x : Reply). health_of x.state d ≡ Live u) (finds (woken s now))
      (λ z. ap (λ ds. (get_or ds d zero_destination).health) (picking_leaves (woken s now) now).1 ∙ awake now)
      (λ z. awake now)
  accepted_still (report now e ticket outcome list) r n =
      ap (λ x. health_of x.state d) (reply_accepted s (report now e ticket outcome list) _ r refl)
      ∙ report_health_other s now e ticket outcome list r d (λ q. true_not_false (eq-eqb (destination_of s e) d (sym q)) (rw r at n))
      ∙ awake now
  accepted_still (ask j) r n = live
  accepted_still (board buffer) r n = live

  still : (call : Call) → is_report any_outcome s d call ≡ false → health_of (reply_to s call).state d ≡ Live u
  unfolding reply_to unless_refused
  still call n = unless (refusal_of s call) refl
    where
      unless : (k : ℕ) → refusal_of s call ≡ k → health_of (unless_refused k s (lent_to call) (accepted s call)).state d ≡ Live u
      unless zero e = accepted_still call e n
      unless (suc k) e = live

  -- A success that counts.

  reported_success : (now e ticket : ℕ) (list : List ℕ) → report_refusal s now e ticket list ≡ 0 → destination_of s e ≡ d
      → ltb u.window (at s.busy.destination d + (settings_for s d).initial) ≡ true
      → health_of (reply_to s (report now e ticket Success list)).state d ≡ Live (counted (settings_for s d) u)
  reported_success now e ticket list r q l =
      ap (health_of (report_reply s now e ticket Success list).state) (sym q)
      ∙ report_health s now e ticket Success list r
      ∙ ap (λ x. after_report (settings_for s x) (at s.busy.destination x) now Success (health_of (woken s now) x)) q
      ∙ unfold after_report after_success in
      ap (after_success (settings_for s d) (at s.busy.destination d)) (awake now)
      ∙ ap Live (unfold live_after_success in if_true _ _ l)

  counted_success : (call : Call) → counts s d call ≡ true → health_of (reply_to s call).state d ≡ Live (counted (settings_for s d) u)
  unfolding counts is_report is_success
  counted_success (job now t dests list) c = true_not_false c refl
  counted_success (pick now) c = true_not_false c refl
  counted_success (report now e ticket Success list) c =
      let room = at s.busy.destination d + (settings_for s d).initial in
      let k = and_3 (eqb (report_refusal s now e ticket list) 0) (eqb (destination_of s e) d) (ltb (window_of (health_of s d)) room) c in
      reported_success now e ticket list (eqb-true (report_refusal s now e ticket list) 0 k.0) (eqb-true (destination_of s e) d k.1)
      (unfold window_of in subst (λ h. ltb (window_of h) room ≡ true) live k.2)
  counted_success (report now e ticket Failure list) c = true_not_false c refl
  counted_success (ask j) c = true_not_false c refl
  counted_success (board buffer) c = true_not_false c refl

-- Every call keeps shape, soundness and the set-up.

abbrev SetUp : Setup → State → Unit {0} → Type 0
SetUp u s a = s.setup ≡ u

set_up_steps : (u : Setup) → Steps (λ a decision. a) (SetUp u)
set_up_steps u =
    record {
      wakes = λ s a shaped sound h now. unfold woken in h;
      takes = λ w a shaped sound h t dests p. unfold taken in h;
      picks = λ w a shaped sound h f. (picking_leaves w w.clock).0 ∙ h;
      reports = λ w a shaped sound h e outcome l b. (report_leaves w w.clock e outcome).setup ∙ h;
    }

-- The walk along the calls.

module _ (u : Setup) (d : ℕ) (inside : d < u.destinations) where
  abbrev g : Settings
  g = settings_in u d

  module _ (s : State) (a : Unit {0}) (h : Holds (SetUp u) s a) (v : Sums) (live : health_of s d ≡ Live v) (call : Call) where
    next_still : is_report any_outcome s d call ≡ false → health_of (reply_to s call).state d ≡ Live v
    next_still = still s d v h.sound (rw h.said inside) live call

    next_counted : counts s d call ≡ true → health_of (reply_to s call).state d ≡ Live (counted g v)
    next_counted c =
        subst (λ x. health_of (reply_to s call).state d ≡ Live (counted (settings_in x d) v)) h.said
        (counted_success s d v h.sound (rw h.said inside) live call c)

  -- a destination that no call reports stays as it is
  unreported : (s : State) (a : Unit {0}) → Holds (SetUp u) s a → (v : Sums) → health_of s d ≡ Live v
      → (calls : List Call) → reports_in s d calls ≡ 0 → health_of (state_from s calls) d ≡ Live v
  unfolding reports_in state_from
  unreported s a h v live [] none = live
  unreported s a h v live (call ∷ calls) none =
      unreported (reply_to s call).state _ (call_keeps (set_up_steps u) s a h call) v
      (next_still s a h v live call (one_zero (is_report any_outcome s d call) (omega (arith, none)))) calls (omega (arith, none))

  -- what is said of n successes, where n is the number that is needed
  record Walked (s : State) (calls : List Call) (v : Sums) (n : ℕ) : Type 0 where
    until : reports_in s d calls < n → window_of (health_of (state_from s calls) d) ≡ v.window
    rises : reports_in s d calls ≡ n → window_of (health_of (state_from s calls) d) ≡ v.window + 1

  -- n times the feedback reaches what is missing to U, and n - 1 times does not
  record Needs (v : Sums) (n : ℕ) : Type 0 where
    enough : U - v.success ≤ n * feedback g.positive v.window
    least : n * feedback g.positive v.window < U - v.success + feedback g.positive v.window

  walked : (s : State) (a : Unit {0}) → Holds (SetUp u) s a → (v : Sums) → health_of s d ≡ Live v → v.window < g.limit
      → (n : ℕ) → Needs v n → (calls : List Call) → in_arow s d calls ≡ true → Walked s calls v n
  unfolding reports_in in_arow state_from window_of
  walked s a h v live low zero needs calls row =
      let below = ((h.sound.destinations d (rw h.said inside)).live v live).success in
      let e = needs.enough in
      absurd (omega arith)
  walked s a h v live low (suc n) needs [] row =
      record { until = λ k. ap window_of live; rises = λ k. absurd (omega (arith, k)) }
  walked s a h v live low (suc n) needs (call ∷ calls) row =
      case_bool (is_report any_outcome s d call)
      (λ t.
      let c = next_counted s a h v live call (implies_at first t) in
      case_bool (leb U (v.success + f))
      (λ r.
      let e : health_of s' d ≡ Live grown = c ∙ ap Live (unfold raised in if_true _ _ r) in
      record {
        until = λ k. absurd (omega (arith, k, one_true t, last r));
        rises = λ k. ap window_of (unreported s' _ keeps grown e calls (omega (arith, k, one_true t, last r))) ∙ omega (arith, low);
      })
      (λ r.
      let e : health_of s' d ≡ Live nearer = c ∙ ap Live (unfold raised in if_false _ _ r) in
      let w = walked s' _ keeps nearer e low n (less (leb-false U (v.success + f) r)) calls rest in
      record { until = λ k. w.until (omega (arith, k, one_true t)); rises = λ k. w.rises (omega (arith, k, one_true t)) }))
      (λ t.
      let w = walked s' _ keeps v (next_still s a h v live call t) low (suc n) needs calls rest in
      record { until = λ k. w.until (omega (arith, k, one_false t)); rises = λ k. w.rises (omega (arith, k, one_false t)) })
    where
      s' : State
      s' = (reply_to s call).state

      keeps : Holds (SetUp u) s' _
      keeps = call_keeps (set_up_steps u) s a h call

      first : implies (is_report any_outcome s d call) (counts s d call) ≡ true
      first = and_left (implies (is_report any_outcome s d call) (counts s d call)) (in_arow s' d calls) row

      rest : in_arow s' d calls ≡ true
      rest = and_right (implies (is_report any_outcome s d call) (counts s d call)) (in_arow s' d calls) row

      f : ℕ
      f = feedback g.positive v.window

      -- the two ways on: U is reached, or it is nearer
      grown : Sums
      grown = record { window = min (v.window + 1) g.limit; success = v.success + f - U; failure = 0; cohorts = 0 }

      nearer : Sums
      nearer = record { window = v.window; success = v.success + f; failure = v.failure; cohorts = 0 }

      last : leb U (v.success + f) ≡ true → n ≡ 0
      last r =
          let k = leb-true U (v.success + f) r in
          let m : n < 1 = lt_of_mul-lt-mul_right f {m = n} {n = 1} (omega (arith, needs.least, suc-mul n f)) in
          omega arith

      less : v.success + f < U → Needs nearer n
      less k = record { enough = omega (arith, needs.enough, suc-mul n f); least = omega (arith, needs.least, suc-mul n f) }

  -- of a state that is reached
  recovers : (s : State) (a : Unit {0}) → Holds (SetUp u) s a → settings_in_range g ≡ true → (v : Sums) → health_of s d ≡ Live v → v.window < g.limit
      → LiveSound g v → Recovers s d g v
  recovers s a h range v live low fits =
      let f = feedback g.positive v.window in
      let part = feedback_part g v.window range fits.window.0 fits.window.1 in
      let needs : Needs v (needed g v) = record { enough = rounded_up_reaches (U - v.success) f part; least = rounded_up_least (U - v.success) f part } in
      record {
        part = part;
        few = rounded_up_le (U - v.success) U f part (omega arith);
        until = λ calls row. (walked s a h v live low (needed g v) needs calls row).until;
        rises = λ calls row. (walked s a h v live low (needed g v) needs calls row).rises;
      }

pub recovery_holds : RecoveryHolds
recovery_holds u past range d inside v live low =
    let r = reached u range past in
    let k = in_range_facts u range in
    recovers u d inside (state_after u past) tt (record { shaped = r.shaped; sound = r.sound; said = r.sim.setup })
    (k.settings (at u.home d) (k.home d inside)) v live low
    (subst (λ x. LiveSound (settings_in x d) v) r.sim.setup ((r.sound.destinations d (rw r.sim.setup inside)).live v live))
