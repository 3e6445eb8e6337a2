-- What the code asks on its way, from settings in range and sums that fit; the three forms of feedback.
use Prim.Native.Nat.{ℕ, ◌+◌, ◌*◌, ◌/◌, ◌≤◌, ◌<◌}
use mathlib.Core.Bool.{true}
use mathlib.Core.Path.{◌≡◌}
use mathlib.Core.Logic.{◌≢◌}
use native.Mathlib.Omega.{arith}
use native.Mathlib.Nat.{mul-le-mul, mul-le-mul_left}
use borrow.Author.Tests.{eq-eqb, ne_eqb}
use Rattle.laws.specs.Bools.{when◌then◌else◌}
use Rattle.laws.specs.Fractions.{rounded_up}
use Rattle.laws.proofs.Fractions.{rounded_up_bound}
use Rattle.rules.specs.declared.Feedback.{Feedback}
use Rattle.rules.specs.declared.Settings.{Settings}
use Rattle.rules.specs.declared.Sums.{Sums}
use Rattle.rules.specs.declared.Health.{Health}
use Rattle.rules.specs.declared.Health.TheVariants.{Live}
use Rattle.rules.specs.Sizes.{U, max_window}
use Rattle.rules.specs.Setup.{settings_in_range}
use Rattle.rules.specs.Sound.{sums_fit}
use Rattle.rules.specs.Windows.{root, feedback, cohort_share}
use Rattle.rules.proofs.RangeFacts.{windows_range, sums_fit_facts}
use Rattle.rules.proofs.Roots.{root_le_U}
use Rattle.rules.proofs.WindowLaws.{feedback_le_U}
use Rattle.window.specs.Fits.{health_fits}

pub feedback_flat : (f : Feedback) (window : ℕ) → f.form ≡ 0 → feedback f window ≡ f.percent * U / 100
unfolding feedback when◌then◌else◌
feedback_flat f window e = rw (eq-eqb f.form 0 e)

pub feedback_per_window : (f : Feedback) (window : ℕ) → f.form ≡ 1 → feedback f window ≡ rounded_up (f.percent * U) (100 * window)
unfolding feedback when◌then◌else◌
feedback_per_window f window e = rw (ne_eqb f.form 0 (omega (arith, e)), eq-eqb f.form 1 e)

pub feedback_root : (f : Feedback) (window x : ℕ) → f.form ≢ 0 → f.form ≢ 1 → x ≡ root window → f.percent * x / 100 ≡ feedback f window
unfolding feedback when◌then◌else◌
feedback_root f window x flat per e = rw (ne_eqb f.form 0 flat, ne_eqb f.form 1 per, e)

pub root_high : (p window x : ℕ) → p ≤ 100 → x ≡ root window → p * x ≤ 100 * U
root_high p window x l e = rw e (mul-le-mul l (root_le_U window))

share_high : (window : ℕ) → 1 ≤ window → cohort_share window ≤ U
unfolding cohort_share
share_high window l = rounded_up_bound U window U l (omega (arith, mul-le-mul_left U l))

module _ (g : Settings) (u : Sums) (r : settings_in_range g ≡ true) (k : sums_fit g u ≡ true) where
  pub window_asks : (1 ≤ u.window) × (u.window ≤ max_window)
  window_asks = let w = windows_range g r in let f = sums_fit_facts g u k in (f.window.0, omega arith)

  pub positive_asks : (g.positive.percent ≤ 100) × (1 ≤ u.window) × (u.window ≤ max_window)
  positive_asks = ((windows_range g r).positive.1, window_asks.0, window_asks.1)

  pub negative_asks : (g.negative.percent ≤ 100) × (1 ≤ u.window) × (u.window ≤ max_window)
  negative_asks = ((windows_range g r).negative, window_asks.0, window_asks.1)

  pub success_sum : (b : ℕ) → b ≡ feedback g.positive u.window → u.success + b < 2 * U
  success_sum b e = let f = sums_fit_facts g u k in omega (arith, feedback_le_U g.positive u.window (windows_range g r).positive.1 f.window.0)

  pub lowered_asks : (b : ℕ) → b ≡ feedback g.negative u.window → (u.failure < U) × (b ≤ U)
  lowered_asks b e = let f = sums_fit_facts g u k in (f.failure, omega (arith, feedback_le_U g.negative u.window (windows_range g r).negative f.window.0))

  pub cohorts_sum : (b : ℕ) → b ≡ cohort_share u.window → u.cohorts + b ≤ 101 * U
  cohorts_sum b e = let f = sums_fit_facts g u k in let w = windows_range g r in omega (arith, share_high u.window f.window.0)

pub live_fits : (g : Settings) (h : Health) (u : Sums) → h ≡ Live u → health_fits g h ≡ true → sums_fit g u ≡ true
unfolding health_fits
live_fits g h u e k = rw e at k
