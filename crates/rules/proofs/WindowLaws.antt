-- The windows' arithmetic keeps a live destination in its ranges.
use Prim.Native.Nat.{ℕ, ◌+◌, ◌*◌, ◌≤◌, ◌<◌}
use mathlib.Core.Path.{◌≡◌, refl, subst}
use mathlib.Core.Bool.{true}
use native.Mathlib.Nat.{mul-le-mul, div-le_of_le-mul, le-div_iff_mul-le}
use native.Mathlib.Omega.{arith}
use lib.Dec.{eqb, ltb, leb}
use borrow.Author.Tests.{ltb-true, leb-true, leb-false}
use Rattle.laws.proofs.Bools.{if_cases}
use Rattle.laws.proofs.Fractions.{rounded_up_bound, rounded_up_some}
use Rattle.rules.specs.declared.Settings.{Settings}
use Rattle.rules.specs.declared.Sums.{Sums}
use Rattle.rules.specs.declared.Health.{Health}
use Rattle.rules.specs.declared.Health.TheVariants.{Live, Dead}
use Rattle.rules.specs.declared.Outcome.{Outcome}
use Rattle.rules.specs.declared.Outcome.TheVariants.{Success, Failure}
use Rattle.rules.specs.Sizes.{U}
use Rattle.rules.specs.Setup.{settings_in_range, first_state}
use Rattle.rules.specs.SoundFacts.{LiveSound}
use Rattle.rules.specs.Windows.{cohort_bound, feedback, cohort_share, is_dead_at, raised, lowered, live_after_success, after_success, live_after_failure}
use Rattle.rules.specs.Windows.{after_failure, after_report}
use Rattle.rules.specs.WideWindows.{NeverAboveU}
use Rattle.rules.proofs.RangeFacts.{windows_range}
use Rattle.rules.proofs.Roots.{root_le_U, root_holds}

-- Feedback is at most 1, in each of the three forms (A6).

pub feedback_le_U : NeverAboveU
unfolding feedback
feedback_le_U f window h l =
    if_cases (λ x. x ≤ U) (eqb f.form 0)
    (λ t. div-le_of_le-mul 100 (omega arith))
    (λ t.
    if_cases (λ x. x ≤ U) (eqb f.form 1)
    (λ k. rounded_up_bound (f.percent * U) (100 * window) U (omega arith) (omega arith))
    (λ k. div-le_of_le-mul 100 (omega (arith, mul-le-mul h (root_le_U window)))))

-- Of a set-up in range the positive one is at least 1 part (A4).

pub feedback_part : (g : Settings) (window : ℕ) → settings_in_range g ≡ true → 1 ≤ window → window ≤ g.limit → 1 ≤ feedback g.positive window
unfolding feedback
feedback_part g window range l m =
    let r = windows_range g range in
    let a = r.positive in
    let b = r.limit in
    let p = g.positive.percent in
    if_cases (λ x. 1 ≤ x) (eqb g.positive.form 0)
    (λ t. (le-div_iff_mul-le {k = 100} {x = 1} {y = p * U} (omega arith)).1 (omega arith))
    (λ t.
    if_cases (λ x. 1 ≤ x) (eqb g.positive.form 1)
    (λ k. rounded_up_some (p * U) (100 * window) (omega arith) (omega arith))
    (λ k. (le-div_iff_mul-le {k = 100} {x = 1} (omega arith)).1 (omega (arith, mul-le-mul a.0 ((root_holds window l).greatest 100 (omega arith))))))

-- The first state.

pub live_first : (g : Settings) → settings_in_range g ≡ true → LiveSound g (first_state g)
live_first g h =
    let r = windows_range g h in
    record { window = r.initial; success = omega arith; failure = omega arith; cohorts = omega arith }

module _ (g : Settings) (u : Sums) (range : settings_in_range g ≡ true) (live : LiveSound g u) where
  -- A success.

  pub live_raised : (success : ℕ) → success < U + U → LiveSound g (raised g u success)
  unfolding raised
  live_raised success l =
      let r = windows_range g range in
      if_cases (LiveSound g) (leb U success)
      (λ t.
      let k = leb-true U success t in
      record {
        window = let a = live.window in let b = r.limit in omega arith;
        success = omega arith;
        failure = omega arith;
        cohorts = omega arith;
      })
      (λ f. record { window = live.window; success = leb-false U success f; failure = live.failure; cohorts = omega arith })

  pub live_after_success_lem : (busy : ℕ) → LiveSound g (live_after_success g busy u)
  unfolding live_after_success
  live_after_success_lem busy =
      let r = windows_range g range in
      let a = feedback_le_U g.positive u.window r.positive.1 live.window.0 in
      let b = live.success in
      if_cases (LiveSound g) (ltb u.window (busy + g.initial))
      (λ t. live_raised (u.success + feedback g.positive u.window) (omega arith))
      (λ f. record { window = live.window; success = live.success; failure = live.failure; cohorts = omega arith })

  -- A failure.

  pub live_lowered : (fall cohorts : ℕ) → fall ≤ U → cohorts < cohort_bound g → LiveSound g (lowered u fall cohorts)
  unfolding lowered
  live_lowered fall cohorts l m =
      let r = windows_range g range in
      let a = live.window in
      let b = live.failure in
      let c = r.limit in
      if_cases (LiveSound g) (ltb u.failure fall)
      (λ t. let k = ltb-true u.failure fall t in record { window = omega arith; success = omega arith; failure = omega arith; cohorts = m })
      (λ f. record { window = live.window; success = live.success; failure = omega arith; cohorts = m })

  pub live_after_failure_lem : (now cohorts : ℕ) (v : Sums) → live_after_failure g now u cohorts ≡ Live v → LiveSound g v
  unfolding live_after_failure is_dead_at
  live_after_failure_lem now cohorts v =
      let r = windows_range g range in
      let a = feedback_le_U g.negative u.window r.negative live.window.0 in
      if_cases (λ h. h ≡ Live v → LiveSound g v) (is_dead_at g cohorts)
      (λ t e. let z : ◌≡◌ {A = ℕ} 0 1 = cc in absurd (omega arith))
      (λ f e.
      let q : lowered u (feedback g.negative u.window) cohorts ≡ v = cc in
      subst (LiveSound g) q
      (live_lowered (feedback g.negative u.window) cohorts a (leb-false (cohort_bound g) cohorts f)))

-- any destination

live_success : (g : Settings) (busy : ℕ) (h : Health) (v : Sums) → settings_in_range g ≡ true → ((u : Sums) → h ≡ Live u → LiveSound g u)
    → after_success g busy h ≡ Live v → LiveSound g v
unfolding after_success
live_success g busy (Live u) v range l e =
    let q : live_after_success g busy u ≡ v = cc in
    subst (LiveSound g) q (live_after_success_lem g u range (l u refl) busy)
live_success g busy (Dead end) v range l e =
    let q : first_state g ≡ v = cc in
    subst (LiveSound g) q (live_first g range)

live_failure : (g : Settings) (now : ℕ) (h : Health) (v : Sums) → settings_in_range g ≡ true → ((u : Sums) → h ≡ Live u → LiveSound g u)
    → after_failure g now h ≡ Live v → LiveSound g v
unfolding after_failure
live_failure g now (Live u) v range l e = live_after_failure_lem g u range (l u refl) now (u.cohorts + cohort_share u.window) v e
live_failure g now (Dead end) v range l e = let z : ◌≡◌ {A = ℕ} 0 1 = cc in absurd (omega arith)

pub live_report : (g : Settings) (busy now : ℕ) (outcome : Outcome) (h : Health) (v : Sums) → settings_in_range g ≡ true → ((u : Sums) → h ≡ Live u → LiveSound g u)
    → after_report g busy now outcome h ≡ Live v → LiveSound g v
unfolding after_report
live_report g busy now Success h = live_success g busy h
live_report g busy now Failure h = live_failure g now h
