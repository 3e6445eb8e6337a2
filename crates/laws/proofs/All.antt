-- Laws of all_to and any_to.
use Prim.Native.Nat.{ℕ, zero, suc, ◌+◌, ◌<◌}
use mathlib.Core.Bool.{Bool, true, false, not, ◌&&◌, ◌||◌, false≢true}
use mathlib.Core.Path.{◌≡◌, refl, sym, ◌∙◌, ap, ap₂, subst}
use mathlib.Core.Logic.{⊎_elim}
use native.Mathlib.Nat.{le_step, lt-suc_self, not-suc-le-zero, le_of_suc-le-suc, eq-or-lt_of_le}
use native.Mathlib.Numerals.{add-one}
use borrow.Author.Tests.{not-true}
use Rattle.laws.specs.Range.{all_to, any_to}
use Rattle.laws.proofs.Bools.{true_not_false, false_of, not_is_true, and_both, and_left, and_right, or_left, or_right, or_cases, or_neither, not_and}

-- what holds below n and at n holds below suc n
pub below_suc {ℓ} : (P : ℕ → Type ℓ) (n : ℕ) → ((i : ℕ) → i < n → P i) → P n → (i : ℕ) → i < suc n → P i
below_suc P n h here i l = ⊎_elim (λ e. subst P (sym e) here) (h i) (eq-or-lt_of_le (le_of_suc-le-suc l))

module _ (p : ℕ → Bool) where
  pub all_at : (n : ℕ) → all_to p n ≡ true → (i : ℕ) → i < n → p i ≡ true
  unfolding all_to
  all_at zero h i l = absurd (not-suc-le-zero l)
  all_at (suc n) h i l = below_suc (λ i. p i ≡ true) n (all_at n (and_left (all_to p n) (p n) h)) (and_right (all_to p n) (p n) h) i l

  pub all_from : (n : ℕ) → ((i : ℕ) → i < n → p i ≡ true) → all_to p n ≡ true
  unfolding all_to
  all_from zero h = refl
  all_from (suc n) h = and_both (all_from n λ i l. h i (le_step l)) (h n (lt-suc_self n))

  pub all_step : (i : ℕ) → all_to p (i + 1) ≡ all_to p i && p i
  unfolding all_to
  all_step i = rw add-one

  pub all_false_of : (n i : ℕ) → i < n → p i ≡ false → all_to p n ≡ false
  all_false_of n i l f = false_of λ t. true_not_false (all_at n t i l) f

  pub any_of : (n i : ℕ) → i < n → p i ≡ true → any_to p n ≡ true
  unfolding any_to
  any_of zero i l h = absurd (not-suc-le-zero l)
  any_of (suc n) i l h = below_suc (λ i. p i ≡ true → any_to p (suc n) ≡ true) n (λ i l h. or_left (p n) (any_of n i l h)) (or_right (any_to p n)) i l h

  pub any_none : (n : ℕ) → ((i : ℕ) → i < n → p i ≡ false) → any_to p n ≡ false
  unfolding any_to
  any_none zero h = refl
  any_none (suc n) h = or_neither (any_none n λ i l. h i (le_step l)) (h n (lt-suc_self n))

  pub any_false_at : (n : ℕ) → any_to p n ≡ false → (i : ℕ) → i < n → p i ≡ false
  any_false_at n h i l = false_of λ t. true_not_false (any_of n i l t) h

  pub any_witness : (n : ℕ) → any_to p n ≡ true → (i : ℕ) × (i < n) × (p i ≡ true)
  unfolding any_to
  any_witness zero h = absurd (false≢true h)
  any_witness (suc n) h =
      ⊎_elim (λ t. let w = any_witness n t in (w.0, le_step w.1, w.2)) (λ t. (n, lt-suc_self n, t)) (or_cases (any_to p n) (p n) h)

  pub any_step : (i : ℕ) → any_to p (i + 1) ≡ any_to p i || p i
  unfolding any_to
  any_step i = rw add-one

  pub not_all : (n : ℕ) → not (all_to p n) ≡ any_to (λ i. not (p i)) n
  unfolding all_to any_to
  not_all zero = refl
  not_all (suc n) = not_and (all_to p n) (p n) ∙ ap (λ b. b || not (p n)) (not_all n)

-- A loop that joins the test over the numbers passed: its start, and one turn.
module _ (p : ℕ → Bool) where
  pub all_none : true ≡ all_to p 0
  unfolding all_to
  all_none = refl

  pub all_turn : (i : ℕ) (good b : Bool) → good ≡ all_to p i → b ≡ p i → good && b ≡ all_to p (i + 1)
  all_turn i good b e k = rw (e, k, all_step)

  pub any_nothing : false ≡ any_to p 0
  unfolding any_to
  any_nothing = refl

  pub any_turn : (i : ℕ) (some b : Bool) → some ≡ any_to p i → b ≡ p i → some || b ≡ any_to p (i + 1)
  any_turn i some b e k = rw (e, k, any_step)

  -- one that goes on while the test holds
  pub all_more : (i : ℕ) → all_to p i ≡ true → p i ≡ true → all_to p (i + 1) ≡ true
  all_more i h k = all_step p i ∙ and_both h k

-- where the test does not hold everywhere, there is a place where it fails
pub all_false_witness : (p : ℕ → Bool) (n : ℕ) → all_to p n ≡ false → (i : ℕ) × (i < n) × (p i ≡ false)
all_false_witness p n h =
    let w = any_witness (λ i. not (p i)) n (sym (not_all p n) ∙ not_is_true h) in
    (w.0, w.1, not-true (p w.0) w.2)

module _ (p q : ℕ → Bool) where
  pub any_same : (n : ℕ) → ((i : ℕ) → i < n → p i ≡ q i) → any_to p n ≡ any_to q n
  unfolding any_to
  any_same zero h = refl
  any_same (suc n) h = ap₂ ◌||◌ (any_same n λ i l. h i (le_step l)) (h n (lt-suc_self n))

  pub any_imp : (n : ℕ) → ((i : ℕ) → i < n → p i ≡ true → q i ≡ true) → any_to p n ≡ true → any_to q n ≡ true
  any_imp n h t = let w = any_witness p n t in any_of q n w.0 w.1 (h w.0 w.1 w.2)
