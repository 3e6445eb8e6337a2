-- Tests of ranges and the facts that they say: numbers within limits, settings, a set-up, a live destination's numbers.
use Prim.Native.Nat.{ℕ, ◌≤◌, ◌<◌}
use mathlib.Core.Path.{◌≡◌, refl}
use mathlib.Core.Bool.{Bool, true, false, ◌||◌}
use mathlib.Core.Logic.{◌⊎◌, inl, inr, ⊎_elim}
use native.Mathlib.Nat.{lt_of_lt_of_le}
use native.Mathlib.Omega.{arith}
use lib.ListN.{get_or}
use lib.Dec.{eqb, ltb, leb}
use borrow.Author.Tests.{eqb-true, ltb-true, leb-true, lt-ltb, le-leb}
use Rattle.laws.specs.Range.{all_to}
use Rattle.laws.proofs.Bools.{true_not_false, and_both, and_left, and_right, or_cases}
use Rattle.laws.proofs.Joined.{and_4, and_5, and_6}
use Rattle.laws.proofs.All.{all_at, all_from}
use Rattle.rules.specs.declared.Feedback.{Feedback}
use Rattle.rules.specs.declared.Settings.{Settings}
use Rattle.rules.specs.declared.Setup.{Setup}
use Rattle.rules.specs.declared.Sums.{Sums}
use Rattle.rules.specs.Sizes.{U, max_transports, max_destinations, max_agents, max_window}
use Rattle.rules.specs.State.{at, zero_settings}
use Rattle.rules.specs.Setup.{within, feedback_in_range, slots_in_range, windows_in_range, settings_in_range, setup_in_range}
use Rattle.rules.specs.Windows.{cohort_bound}
use Rattle.rules.specs.Sound.{implies, sums_fit}
use Rattle.rules.specs.SoundFacts.{InRange, LiveSound}

pub within_facts : {low high x : ℕ} → within low high x ≡ true → (low ≤ x) × (x ≤ high)
unfolding within
within_facts {low} {high} {x} h = (leb-true low x (and_left _ (leb x high) h), leb-true x high (and_right (leb low x) _ h))

pub within_of : {low high x : ℕ} → (low ≤ x) × (x ≤ high) → within low high x ≡ true
unfolding within
within_of {low} {high} {x} h = and_both (le-leb low x h.0) (le-leb x high h.1)

pub implies_at : {a b : Bool} → implies a b ≡ true → a ≡ true → b ≡ true
unfolding implies
implies_at {a = true} h t = h
implies_at {a = false} h t = true_not_false t refl

pub implies_of : (a : Bool) {b : Bool} → (a ≡ true → b ≡ true) → implies a b ≡ true
unfolding implies
implies_of true h = h refl
implies_of false h = refl

-- Settings.

-- what settings in range say of slots
pub record SlotsRange (g : Settings) : Type 0 where
  pub cost : (g.cost ≡ 0) ⊎ (2 ≤ g.cost)
  pub dear : g.cost ≤ 100
  pub loan : g.loan ≤ 100
  pub discount : g.discount ≤ 100
  pub minimum : g.minimum ≤ 100

pub slots_range : (g : Settings) → settings_in_range g ≡ true → SlotsRange g
unfolding settings_in_range slots_in_range
slots_range g h =
    let k =
    and_5 (within 1 max_agents g.agents) (eqb g.cost 0 || within 2 100 g.cost) (within 0 100 g.loan) (within 0 100 g.discount) (within 0 100 g.minimum)
    (and_left (slots_in_range g) (windows_in_range g) h) in
    let c = or_cases (eqb g.cost 0) (within 2 100 g.cost) k.1 in
    record {
      cost = ⊎_elim (λ z. inl (eqb-true g.cost 0 z)) (λ w. inr (within_facts w).0) c;
      dear = ⊎_elim (λ z. omega (arith, eqb-true g.cost 0 z)) (λ w. (within_facts w).1) c;
      loan = (within_facts k.2).1;
      discount = (within_facts k.3).1;
      minimum = (within_facts k.4).1;
    }

-- and of windows
pub record WindowsRange (g : Settings) : Type 0 where
  pub limit : (1 ≤ g.limit) × (g.limit ≤ max_window)
  pub initial : (1 ≤ g.initial) × (g.initial ≤ g.limit)
  pub positive : (1 ≤ g.positive.percent) × (g.positive.percent ≤ 100)
  pub negative : g.negative.percent ≤ 100
  pub cohortlimit : (1 ≤ g.cohortlimit) × (g.cohortlimit ≤ 100)
  pub suspension : (1 ≤ g.suspension) × (g.suspension ≤ 86_400)

percent_range : (least : ℕ) (f : Feedback) → feedback_in_range least f ≡ true → (least ≤ f.percent) × (f.percent ≤ 100)
unfolding feedback_in_range
percent_range least f h = within_facts (and_left (within least 100 f.percent) _ h)

pub windows_range : (g : Settings) → settings_in_range g ≡ true → WindowsRange g
unfolding settings_in_range windows_in_range
windows_range g h =
    let k =
    and_6 (within 1 max_window g.limit) (within 1 g.limit g.initial) (feedback_in_range _ g.positive) (feedback_in_range _ g.negative)
    (within 1 100 g.cohortlimit) (within 1 86_400 g.suspension)
    (and_right (slots_in_range g) (windows_in_range g) h) in
    record {
      limit = within_facts k.0;
      initial = within_facts k.1;
      positive = percent_range _ g.positive k.2;
      negative = (percent_range _ g.negative k.3).1;
      cohortlimit = within_facts k.4;
      suspension = within_facts k.5;
    }

-- Set-up.

module _ (u : Setup) where
  pub in_range_facts : setup_in_range u ≡ true → InRange u
  unfolding setup_in_range
  in_range_facts h =
      let f =
      and_4 (within 1 max_transports u.transports) (within 1 max_destinations u.destinations) (all_to (λ t. settings_in_range (get_or u.settings t zero_settings)) u.transports)
      (all_to (λ d. ltb (at u.home d) u.transports) u.destinations) h in
      record {
        transports = within_facts f.0;
        destinations = within_facts f.1;
        settings = all_at (λ t. settings_in_range (get_or u.settings t zero_settings)) u.transports f.2;
        home = λ d l. ltb-true (at u.home d) u.transports (all_at (λ d. ltb (at u.home d) u.transports) u.destinations f.3 d l);
      }

  pub in_range_of : InRange u → setup_in_range u ≡ true
  unfolding setup_in_range
  in_range_of r =
      and_both
      (and_both (and_both (within_of r.transports) (within_of r.destinations)) (all_from (λ t. settings_in_range (get_or u.settings t zero_settings)) u.transports r.settings))
      (all_from (λ d. ltb (at u.home d) u.transports) u.destinations λ d l. lt-ltb (at u.home d) u.transports (r.home d l))

  -- a destination's transport is one of the four
  pub home_below : setup_in_range u ≡ true → (d : ℕ) → d < u.destinations → at u.home d < max_transports
  home_below h d l = let r = in_range_facts h in lt_of_lt_of_le (r.home d l) r.transports.1

-- A live destination.

module _ (g : Settings) (u : Sums) where
  pub sums_fit_facts : sums_fit g u ≡ true → LiveSound g u
  unfolding sums_fit
  sums_fit_facts h =
      let f = and_4 (within 1 g.limit u.window) (ltb u.success U) (ltb u.failure U) (ltb u.cohorts (cohort_bound g)) h in
      record {
        window = within_facts f.0;
        success = ltb-true u.success U f.1;
        failure = ltb-true u.failure U f.2;
        cohorts = ltb-true u.cohorts (cohort_bound g) f.3;
      }

  pub sums_fit_of : LiveSound g u → sums_fit g u ≡ true
  unfolding sums_fit
  sums_fit_of r =
      and_both (and_both (and_both (within_of r.window) (lt-ltb u.success U r.success)) (lt-ltb u.failure U r.failure))
      (lt-ltb u.cohorts (cohort_bound g) r.cohorts)
