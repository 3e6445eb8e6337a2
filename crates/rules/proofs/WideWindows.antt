-- A6: to window 20 the numbers are the old ones; a report moves a live window by one at most.
use Prim.Native.Nat.{ℕ, suc, ◌+◌, ◌-◌, ◌*◌, ◌≤◌}
use mathlib.Core.Path.{◌≡◌, refl, sym, ◌∙◌, ap, subst}
use mathlib.Core.Bool.{true}
use native.Mathlib.Nat.{div-eq_of_eq-mul_left}
use native.Mathlib.Decide.{ℕ_discrete}
use native.Mathlib.Omega.{arith}
use lib.Dec.{eqb, ltb, leb}
use borrow.Author.Tests.{eqb-true}
use Rattle.laws.specs.Range.{all_to}
use Rattle.laws.proofs.Bools.{if_cases}
use Rattle.laws.proofs.Joined.{and_3}
use Rattle.laws.proofs.All.{all_at}
use Rattle.rules.specs.declared.Settings.{Settings}
use Rattle.rules.specs.declared.Sums.{Sums}
use Rattle.rules.specs.declared.Health.TheVariants.{Live}
use Rattle.rules.specs.declared.Outcome.{Outcome}
use Rattle.rules.specs.declared.Outcome.TheVariants.{Success, Failure}
use Rattle.rules.specs.Sizes.{U}
use Rattle.rules.specs.State.{at, settings_for, health_of, destination_of}
use Rattle.rules.specs.Windows.{feedback, cohort_share, is_dead_at, raised, live_after_success, after_success, lowered, live_after_failure, after_failure, after_report, woken}
use Rattle.rules.specs.SoundFacts.{LiveSound, Sound}
use Rattle.rules.specs.Calls.{report_reply}
use Rattle.rules.specs.Examples.{flat, per_window, exact_at}
use Rattle.rules.specs.WideWindows.{OldNumbers, Moves, MovesByOne}
use Rattle.rules.proofs.Soundness.{sound_facts}
use Rattle.rules.proofs.WindowLaws.{live_report}
use Rattle.rules.proofs.KeptWaking.{woken_still}
use Rattle.rules.proofs.Accepted.{report_accepted}
use Rattle.rules.proofs.ReportedFacts.{report_health, report_health_other}
use Rattle.rules.proofs.Edges.{exact}

-- The old numbers: what is exact is the same, rounded up or down.

pub old_numbers : OldNumbers
unfolding exact_at
old_numbers p window l some most =
    let k = window - 1 in
    let e : suc k ≡ window = omega arith in
    let test = all_at (λ k. exact_at p (suc k)) 20 (all_at (λ p. all_to (λ k. exact_at p (suc k)) 20) 101 exact p (omega arith)) k (omega arith) in
    let t =
    and_3 (eqb (feedback (flat p) window * 100) (p * U)) (eqb (feedback (per_window p) window * (100 * window)) (p * U)) (eqb (cohort_share window * window) U)
    (subst (λ w. exact_at p w ≡ true) e test) in (
      sym (div-eq_of_eq-mul_left {n = 100 * window} {m = p * U} {k = feedback (per_window p) window} (omega arith) (sym (eqb-true (feedback (per_window p) window * (100 * window)) (p * U) t.1))),
      sym (div-eq_of_eq-mul_left {n = window} {m = U} {k = cohort_share window} (omega arith) (sym (eqb-true (cohort_share window * window) U t.2))),
    )

-- A step: the window of a live destination, before and after.

record Near (u v : Sums) : Type 0 where
  up : v.window ≤ u.window + 1
  down : u.window ≤ v.window + 1

module _ (g : Settings) (u : Sums) (live : LiveSound g u) where
  same : (v : Sums) → v.window ≡ u.window → Near u v
  same v e = record { up = omega arith; down = omega arith }

  raised_near : (success : ℕ) → Near u (raised g u success)
  unfolding raised
  raised_near success =
      let w = live.window in
      if_cases (Near u) (leb U success) (λ t. record { up = omega arith; down = omega arith }) (λ f. same _ refl)

  success_near : (busy : ℕ) → Near u (live_after_success g busy u)
  unfolding live_after_success
  success_near busy = if_cases (Near u) (ltb u.window (busy + g.initial)) (λ t. raised_near _) (λ f. same _ refl)

  lowered_near : (fall cohorts : ℕ) → Near u (lowered u fall cohorts)
  unfolding lowered
  lowered_near fall cohorts =
      let w = live.window in
      if_cases (Near u) (ltb u.failure fall) (λ t. record { up = omega arith; down = omega arith }) (λ f. same _ refl)

  near_is : (w v : Sums) → Near u w → Live w ≡ Live v → Near u v
  near_is w v n e = subst (Near u) (let k : w ≡ v = cc in k) n

  failure_near : (now cohorts : ℕ) (v : Sums) → live_after_failure g now u cohorts ≡ Live v → Near u v
  unfolding live_after_failure
  failure_near now cohorts v =
      if_cases (λ h. h ≡ Live v → Near u v) (is_dead_at g cohorts)
      (λ t e. let z : ◌≡◌ {A = ℕ} 0 1 = cc in absurd (omega arith))
      (λ f e. near_is (lowered u (feedback g.negative u.window) cohorts) v (lowered_near (feedback g.negative u.window) cohorts) e)

  report_near : (busy now : ℕ) (outcome : Outcome) (v : Sums) → after_report g busy now outcome (Live u) ≡ Live v → Near u v
  unfolding after_report after_success after_failure
  report_near busy now Success v e = near_is (live_after_success g busy u) v (success_near busy) e
  report_near busy now Failure v e = failure_near now (u.cohorts + cohort_share u.window) v e

-- The whole report.

pub moves_by_one : MovesByOne
moves_by_one s now e ticket outcome list accept d inside u v before after = elim (ℕ_discrete d (destination_of s e)) [
  | yes q ↦
      let step =
      ap (λ x. after_report (settings_for s x) (at s.busy.destination x) now outcome (health_of (woken s now) x)) q
      ∙ sym (report_health s now e ticket outcome list accept)
      ∙ ap (health_of (report_reply s now e ticket outcome list).state) (sym q)
      in
      let stepped : after_report g busy now outcome (Live u) ≡ Live v = ap (after_report g busy now outcome) (sym awake) ∙ step ∙ after in
      let near = report_near g u fits busy now outcome v stepped in
      let range = sound.setup.settings (at s.setup.home d) (sound.setup.home d inside) in
      let kept = live_report g busy now outcome (Live u) v range (λ w k. subst (LiveSound g) (let e : u ≡ w = cc in e) fits) stepped in
      record { up = near.up; down = near.down; success = kept.success; failure = kept.failure; others = λ ne. absurd (ne q) }
  | no ne ↦
      let same = sym awake ∙ sym (report_health_other s now e ticket outcome list accept d ne) ∙ after in
      let still : u ≡ v = cc in
      subst (Moves (destination_of s e) d u) still
      (record { up = omega arith; down = omega arith; success = fits.success; failure = fits.failure; others = λ _. refl })
]
  where
    sound : Sound s
    sound = sound_facts s (report_accepted s now e ticket list accept).whole

    g : Settings
    g = settings_for s d

    busy : ℕ
    busy = at s.busy.destination d

    fits : LiveSound g u
    fits = (sound.destinations d inside).live u before

    awake : health_of (woken s now) d ≡ Live u
    awake = woken_still s now d u sound inside before
