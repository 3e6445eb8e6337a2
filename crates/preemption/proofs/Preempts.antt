-- When the current job is preempted, by what was read of it.
use Prim.Native.Nat.{ℕ, suc, ◌+◌, ◌*◌, ◌/◌, ◌≤◌, ◌<◌}
use mathlib.Core.Bool.{Bool, true, false, not, ◌&&◌}
use mathlib.Core.Path.{◌≡◌, sym, ◌∙◌, ap, ap₂}
use mathlib.Core.List.{List}
use lib.Dec.{eqb}
use lib.IntN.{ℤ}
use borrow.Author.Tests.{eq-eqb, ne_eqb, le-leb, lt-leb}
use Rattle.laws.proofs.Bools.{if_true, if_false, and_both, and_left_false, and_right_false, not_is_true, not_is_false}
use Rattle.rules.specs.declared.Settings.{Settings}
use Rattle.rules.specs.declared.Jobs.{Jobs}
use Rattle.rules.specs.declared.State.{State}
use Rattle.rules.specs.State.{at, settings_of, waiting_of}
use Rattle.rules.specs.Preemption.{credit, has_credit, owned, credit_of, best_candidate, pays_for, pays_for_best, long_enough, is_preempted, preemptor_of}
use Rattle.std.specs.Prelude.{Option, Some, None}
use Rattle.preemption.specs.declared.Preemptor.{Preemptor}
use Rattle.preemption.specs.Preempting.{preemptor_at}
use Rattle.eligibility.specs.Eligibility.{Reads}

-- an answer is what the rules say
abbrev pub Preempting : State → ℕ → ℕ → ℕ → Option Preemptor → Type 0
Preempting s time t y p = p ≡ preemptor_at s (preemptor_of s time t y)

module _ (s : State) (jobs : Jobs) (g : Settings) (waits : List ℕ) (ready : List Bool) (time t y : ℕ) (same : s.jobs ≡ jobs) (settings : settings_of s t
    ≡ g) (reads : Reads s waits ready) where
  nobody : is_preempted s time t y ≡ false → Preempting s time t y None
  unfolding preemptor_of preemptor_at
  nobody f = ap (preemptor_at s) (sym (if_false (best_candidate s time t y) 0 f))

  pub preempts_off : g.cost ≡ 0 → Preempting s time t y None
  unfolding is_preempted
  preempts_off z = nobody (off (ap (λ x. x.cost) settings ∙ z))
    where
      off : (settings_of s t).cost ≡ 0 → is_preempted s time t y ≡ false
      off e =
          and_left_false (pays_for_best s t y (best_candidate s time t y))
          (and_left_false (long_enough (settings_of s t) (at s.jobs.n y))
          (and_left_false (has_credit (credit_of s t y)) (not_is_false (eq-eqb (settings_of s t).cost 0 e))))

  pub credit_read : (z : ℤ) → z ≡ credit g.cost (at jobs.picked y) (at jobs.sold y) → z ≡ credit_of s t y
  credit_read z e = e ∙ sym (rw (same, settings))

  pub preempts_broke : (z : ℤ) → z ≡ credit g.cost (at jobs.picked y) (at jobs.sold y) → has_credit z ≡ false → Preempting s time t y None
  unfolding is_preempted
  preempts_broke z e f = nobody (broke (sym (ap has_credit (credit_read z e)) ∙ f))
    where
      broke : has_credit (credit_of s t y) ≡ false → is_preempted s time t y ≡ false
      broke h =
          and_left_false (pays_for_best s t y (best_candidate s time t y))
          (and_left_false (long_enough (settings_of s t) (at s.jobs.n y))
          (and_right_false (not (eqb (settings_of s t).cost 0)) h))

  -- "(r + a)/c rounded down"
  pub most_read : (z : ℤ) → z ≡ credit g.cost (at jobs.picked y) (at jobs.sold y) → (r a : ℕ) → r ≡ at waits y → y < 256 → a ≡ owned z
      → (r + a) / g.cost ≡ (waiting_of s y + owned (credit_of s t y)) / (settings_of s t).cost
  most_read z e r a p l q = ap₂ ◌/◌ (ap₂ ◌+◌ (p ∙ reads.waiting y l) (q ∙ ap owned (credit_read z e))) (sym (ap (λ x. x.cost) settings))

  pub preempts_short : at jobs.n y < g.minimum * g.cost → Preempting s time t y None
  unfolding is_preempted long_enough
  preempts_short l = nobody (short (rw (same, settings) (lt-leb (g.minimum * g.cost) (at jobs.n y) l)))
    where
      short : long_enough (settings_of s t) (at s.jobs.n y) ≡ false → is_preempted s time t y ≡ false
      short h =
          and_left_false (pays_for_best s t y (best_candidate s time t y))
          (and_right_false (not (eqb (settings_of s t).cost 0) && has_credit (credit_of s t y)) h)

  unpaid : pays_for_best s t y (best_candidate s time t y) ≡ false → is_preempted s time t y ≡ false
  unfolding is_preempted
  unpaid h =
      and_right_false
      (not (eqb (settings_of s t).cost 0) && has_credit (credit_of s t y) && long_enough (settings_of s t) (at s.jobs.n y)) h

  pub preempts_none : (best : ℕ) → best ≡ best_candidate s time t y → best ≡ 0 → Preempting s time t y None
  unfolding pays_for_best
  preempts_none best e z = nobody (unpaid (none (sym e ∙ z)))
    where
      none : best_candidate s time t y ≡ 0 → pays_for_best s t y (best_candidate s time t y) ≡ false
      none q = rw q

  -- what the best has to pay, and can
  best_pays : (z : ℤ) → z ≡ credit g.cost (at jobs.picked y) (at jobs.sold y) → (best x : ℕ) → best ≡ best_candidate s time t y → best ≡ suc x → x < 256
      → pays_for_best s t y (best_candidate s time t y) ≡ pays_for g (owned z) (at waits x)
  unfolding pays_for_best
  best_pays z e best x q r l = ap (pays_for_best s t y) (sym q ∙ r) ∙ pays
    where
      pays : pays_for_best s t y (suc x) ≡ pays_for g (owned z) (at waits x)
      pays =
          ap (λ h. pays_for h (owned (credit_of s t y)) (waiting_of s x)) settings
          ∙ ap₂ (pays_for g) (ap owned (sym (credit_read z e))) (sym (reads.waiting x l))

  pub preempts_unpaid : (z : ℤ) → z ≡ credit g.cost (at jobs.picked y) (at jobs.sold y) → (best x : ℕ) → best ≡ best_candidate s time t y → best ≡ suc x → x < 256
      → pays_for g (owned z) (at waits x) ≡ false → Preempting s time t y None
  preempts_unpaid z e best x q r l f = nobody (unpaid (best_pays z e best x q r l ∙ f))

  pub preempts_some : (g.cost ≡ 0 → ⊥) → (z : ℤ) → z ≡ credit g.cost (at jobs.picked y) (at jobs.sold y) → has_credit z ≡ true → g.minimum * g.cost ≤ at jobs.n y
      → (best x : ℕ) → best ≡ best_candidate s time t y → best ≡ suc x → x < 256 → pays_for g (owned z) (at waits x) ≡ true → Preempting s time t y (Some (record { job = x; waiting = at waits x }))
  unfolding preemptor_of is_preempted long_enough preemptor_at
  preempts_some ne z e h l best x q r below p =
      ap (λ m. Some (record { job = x; waiting = m })) (reads.waiting x below)
      ∙ ap (preemptor_at s) (sym r ∙ q ∙ some
      (not_is_true (ne_eqb (settings_of s t).cost 0 (λ w. ne (sym (ap (λ x. x.cost) settings) ∙ w))))
      (sym (ap has_credit (credit_read z e)) ∙ h)
      (rw (same, settings) (le-leb (g.minimum * g.cost) (at jobs.n y) l))
      (best_pays z e best x q r below ∙ p))
    where
      some : not (eqb (settings_of s t).cost 0) ≡ true → has_credit (credit_of s t y) ≡ true → long_enough (settings_of s t) (at s.jobs.n y) ≡ true
          → pays_for_best s t y (best_candidate s time t y) ≡ true → best_candidate s time t y ≡ preemptor_of s time t y
      some a b c d = sym (if_true (best_candidate s time t y) 0 (and_both (and_both (and_both a b) c) d))
