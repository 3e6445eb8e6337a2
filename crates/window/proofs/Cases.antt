-- One law for each case of a step's rule, as the code reaches it.
use Prim.Native.Nat.{ℕ, ◌+◌, ◌-◌, ◌≤◌, ◌<◌, min, max}
use mathlib.Core.Path.{◌≡◌, refl}
use native.Mathlib.Omega.{arith}
use borrow.Author.Tests.{lt-ltb, le-ltb, le-leb, lt-leb}
use Rattle.laws.specs.Bools.{when◌then◌else◌}
use Rattle.rules.specs.declared.Settings.{Settings}
use Rattle.rules.specs.declared.Sums.{Sums}
use Rattle.rules.specs.declared.Health.{Health}
use Rattle.rules.specs.declared.Health.TheVariants.{Live, Dead}
use Rattle.rules.specs.declared.Outcome.{Outcome}
use Rattle.rules.specs.declared.Outcome.TheVariants.{Success, Failure}
use Rattle.rules.specs.declared.Move.{Move}
use Rattle.rules.specs.declared.StepAnswer.{StepAnswer}
use Rattle.rules.specs.Sizes.{U}
use Rattle.rules.specs.Setup.{first_state}
use Rattle.rules.specs.Windows.{cohort_bound, feedback, cohort_share, is_dead_at, raised, live_after_success, after_success, lowered, live_after_failure, after_failure, after_report}
use Rattle.rules.specs.Windows.{window_moved, live_moved, dead_moved, moved, stepped}

abbrev pub sums : ℕ → ℕ → ℕ → ℕ → Sums
sums window success failure cohorts = record { window = window; success = success; failure = failure; cohorts = cohorts }

pub raised_below : (g : Settings) (u : Sums) (success : ℕ) → success < U → sums u.window success u.failure 0 ≡ raised g u success
unfolding raised when◌then◌else◌
raised_below g u success l = rw (lt-leb U success l)

pub raised_above : (g : Settings) (u : Sums) (success w : ℕ) → U ≤ success → w ≡ min (u.window + 1) g.limit → sums w (success - U) 0 0 ≡ raised g u success
unfolding raised when◌then◌else◌
raised_above g u success w l e = rw (le-leb U success l, e)

pub success_grows :
    (g : Settings) (busy : ℕ) (u r : Sums) (b : ℕ)
    → u.window < busy + g.initial
    → b ≡ feedback g.positive u.window
    → r ≡ raised g u (u.success + b)
    → r ≡ live_after_success g busy u
unfolding live_after_success when◌then◌else◌
success_grows g busy u r b l e h = rw (lt-ltb u.window (busy + g.initial) l, ← e) h

pub success_stays : (g : Settings) (busy : ℕ) (u : Sums) → busy + g.initial ≤ u.window → sums u.window u.success u.failure 0 ≡ live_after_success g busy u
unfolding live_after_success when◌then◌else◌
success_stays g busy u l = rw (le-ltb u.window (busy + g.initial) l)

pub success_live : (g : Settings) (busy : ℕ) (h : Health) (u r : Sums) → h ≡ Live u → r ≡ live_after_success g busy u → Live r ≡ after_success g busy h
unfolding after_success
success_live g busy h u r e k = rw (e, k)

pub success_dead : (g : Settings) (busy : ℕ) (h : Health) (end : ℕ) (r : Health) → h ≡ Dead end → r ≡ Live (first_state g) → r ≡ after_success g busy h
unfolding after_success
success_dead g busy h end r e k = rw (e, k)

pub lowered_above : (u : Sums) (fall cohorts : ℕ) → fall ≤ u.failure → sums u.window u.success (u.failure - fall) cohorts ≡ lowered u fall cohorts
unfolding lowered when◌then◌else◌
lowered_above u fall cohorts l = rw (le-ltb u.failure fall l)

pub lowered_below : (u : Sums) (fall cohorts w : ℕ) → u.failure < fall → w ≡ max (u.window - 1) 1 → sums w 0 (u.failure + U - fall) cohorts ≡ lowered u fall cohorts
unfolding lowered when◌then◌else◌
lowered_below u fall cohorts w l e = rw (lt-ltb u.failure fall l, e)

pub failure_kills : (g : Settings) (now : ℕ) (u : Sums) (cohorts : ℕ) → cohort_bound g ≤ cohorts → Dead (now + g.suspension) ≡ live_after_failure g now u cohorts
unfolding live_after_failure is_dead_at when◌then◌else◌
failure_kills g now u cohorts l = rw (le-leb (cohort_bound g) cohorts l)

pub failure_spares :
    (g : Settings) (now : ℕ) (u r : Sums) (cohorts b : ℕ)
    → cohorts < cohort_bound g
    → b ≡ feedback g.negative u.window
    → r ≡ lowered u b cohorts
    → Live r ≡ live_after_failure g now u cohorts
unfolding live_after_failure is_dead_at when◌then◌else◌
failure_spares g now u r cohorts b l e h = rw (lt-leb (cohort_bound g) cohorts l, ← e, h)

pub failure_live : (g : Settings) (now : ℕ) (h r : Health) (u : Sums) (b : ℕ) → h ≡ Live u → b ≡ cohort_share u.window → r ≡ live_after_failure g now u (u.cohorts + b) → r ≡ after_failure g now h
unfolding after_failure
failure_live g now h r u b e k l = rw (e, ← k) l

pub failure_dead : (g : Settings) (now : ℕ) (h : Health) (end : ℕ) → h ≡ Dead end → Dead end ≡ after_failure g now h
unfolding after_failure
failure_dead g now h end e = rw e

pub report_success : (g : Settings) (busy now : ℕ) (h r : Health) (outcome : Outcome) → outcome ≡ Success → r ≡ after_success g busy h → r ≡ after_report g busy now outcome h
unfolding after_report
report_success g busy now h r outcome e k = rw e k

pub report_failure : (g : Settings) (busy now : ℕ) (h r : Health) (outcome : Outcome) → outcome ≡ Failure → r ≡ after_failure g now h → r ≡ after_report g busy now outcome h
unfolding after_report
report_failure g busy now h r outcome e k = rw e k

-- Why the number moved.

module _ (found left : ℕ) where
  pub window_raised : found < left → Move.Raised ≡ window_moved found left
  unfolding window_moved when◌then◌else◌
  window_raised l = rw (lt-ltb found left l)

  pub window_lowered : left < found → Move.Lowered ≡ window_moved found left
  unfolding window_moved when◌then◌else◌
  window_lowered l = rw (le-ltb found left (omega arith), lt-ltb left found l)

  pub window_unchanged : left ≤ found → found ≤ left → Move.Unchanged ≡ window_moved found left
  unfolding window_moved when◌then◌else◌
  window_unchanged g l = rw (le-ltb found left g, le-ltb left found l)

pub live_lives : (found : ℕ) (left : Health) (u : Sums) (r : Move) → left ≡ Live u → r ≡ window_moved found u.window → r ≡ live_moved found left
unfolding live_moved
live_lives found left u r e k = rw e k

pub live_dies : (found : ℕ) (left : Health) (end : ℕ) → left ≡ Dead end → Move.Dead ≡ live_moved found left
unfolding live_moved
live_dies found left end e = rw e

pub dead_revives : (outcome : Outcome) → outcome ≡ Success → Move.Revived ≡ dead_moved outcome
unfolding dead_moved
dead_revives outcome e = rw e

pub dead_stays : (outcome : Outcome) → outcome ≡ Failure → Move.Unchanged ≡ dead_moved outcome
unfolding dead_moved
dead_stays outcome e = rw e

module _ (outcome : Outcome) (found left : Health) (r : Move) where
  pub moved_live : (u : Sums) → found ≡ Live u → r ≡ live_moved u.window left → r ≡ moved outcome found left
  unfolding moved
  moved_live u e k = rw e k

  pub moved_dead : (end : ℕ) → found ≡ Dead end → r ≡ dead_moved outcome → r ≡ moved outcome found left
  unfolding moved
  moved_dead end e k = rw e k

pub step_is :
    (g : Settings) (busy now : ℕ) (outcome : Outcome) (h left : Health) (m : Move)
    → left ≡ after_report g busy now outcome h
    → m ≡ moved outcome h left
    → ◌≡◌ {A = StepAnswer} (record { health = left; moved = m }) (stepped g busy now outcome h)
step_is g busy now outcome h left m e k = rw (k, e) refl
