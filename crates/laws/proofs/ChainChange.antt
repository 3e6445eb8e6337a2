-- Chains whose links are changed: an element cut off, or led on to another.
use Prim.Native.Nat.{ℕ, zero, suc, ◌+◌, ◌≤◌, ◌<◌}
use mathlib.Core.Bool.{true}
use mathlib.Core.Path.{◌≡◌, refl, sym, ◌∙◌, ap}
use mathlib.Core.Logic.{◌⊎◌, ◌≢◌, ⊎_elim}
use native.Mathlib.Nat.{le_step, le_refl}
use native.Mathlib.Omega.{arith}
use native.Mathlib.Decide.{ℕ_discrete}
use lib.Dec.{eqb}
use borrow.Author.Tests.{eqb-false}
use Rattle.laws.specs.Chain.{along_chain, ends_in, first_along}
use Rattle.laws.proofs.Bools.{true_not_false, case_bool}
use Rattle.laws.proofs.Chain.{ends_zero, ends_more, ends_below, along_enough, first_along_here, first_along_next}

module _ (next : ℕ → ℕ) where
  -- the number of elements
  along_count : (n k a : ℕ) → along_chain next (λ x a. suc a) n k a ≡ a + along_chain next (λ x a. suc a) n k 0
  unfolding along_chain
  along_count zero k a = omega arith
  along_count (suc n) zero a = omega arith
  along_count (suc n) (suc x) a = omega (arith, along_count n (next x) (suc a), along_count n (next x) 1)

  falls : (m x y : ℕ) → ends_in next m (suc x) ≡ true → next x ≡ suc y → along_chain next (λ x a. suc a) m (suc y) 0 < along_chain next (λ x a. suc a) m (suc x) 0
  unfolding along_chain ends_in
  falls zero x y h e = true_not_false h refl
  falls (suc m) x y h e =
      omega (
        arith,
        along_count m (next x) 1,
        ap (λ k. along_chain next (λ x a. suc a) m k 0) e,
        along_enough next (λ x a. suc a) m (suc m) (suc y) 0 (le_step (le_refl m)) (rw e at h),
      )

  -- chains that end, and stay below n, end within n elements
  pub ends_within : (n m : ℕ) → ((x y : ℕ) → x < n → next x ≡ suc y → y < n) → ((x : ℕ) → x < n → ends_in next m (suc x) ≡ true)
      → (x : ℕ) → x < n → ends_in next n (suc x) ≡ true
  ends_within n m closed ends =
      ends_below next (λ x. along_chain next (λ x a. suc a) m (suc x) 0) n closed λ x y h. falls m x y (ends x h)

module _ (next other : ℕ → ℕ) where
  -- some links cut off
  pub ends_cut : ((x : ℕ) → (other x ≡ next x) ⊎ (other x ≡ 0)) → (n k : ℕ) → ends_in next n k ≡ true → ends_in other n k ≡ true
  unfolding ends_in
  ends_cut cut zero zero h = refl
  ends_cut cut zero (suc x) h = h
  ends_cut cut (suc n) zero h = refl
  ends_cut cut (suc n) (suc x) h = ⊎_elim (λ e. rw e (ends_cut cut n (next x) h)) (λ e. rw e (ends_zero other n)) (cut x)

  -- the links agree but at x
  module _ (x : ℕ) (same : (z : ℕ) → z ≢ x → next z ≡ other z) where
    -- a chain without x
    pub ends_clear : (n k : ℕ) → first_along (λ z. eqb z x) next n k ≡ 0 → ends_in next n k ≡ true → ends_in other n k ≡ true
    unfolding ends_in
    ends_clear zero zero c h = refl
    ends_clear zero (suc z) c h = h
    ends_clear (suc n) zero c h = refl
    ends_clear (suc n) (suc z) c h =
        case_bool (eqb z x)
        (λ t. let e = first_along_here (λ z. eqb z x) next n z t in absurd (omega arith))
        (λ f.
        rw (← same z (eqb-false z x f))
        (ends_clear n (next z) (sym (first_along_next (λ z. eqb z x) next n z f) ∙ c) h))

    -- x led on to y, whose chain does not come to x
    led_on : (y m : ℕ) → other x ≡ suc y → ends_in other m (suc y) ≡ true → (j b k : ℕ) → j + suc m ≤ b → ends_in next j k ≡ true → ends_in other b k ≡ true
    unfolding ends_in
    led_on y m to end zero b zero l h = ends_zero other b
    led_on y m to end zero b (suc z) l h = true_not_false h refl
    led_on y m to end (suc j) b zero l h = ends_zero other b
    led_on y m to end (suc j) zero (suc z) l h = absurd (omega arith)
    led_on y m to end (suc j) (suc b) (suc z) l h = elim (ℕ_discrete z x) [
      | yes e ↦ rw (e, to) (ends_more other m b (suc y) (omega arith) end)
      | no ne ↦ rw (← same z ne) (led_on y m to end j b (next z) (omega arith) h)
    ]

    pub ends_led_on : (n y : ℕ) → other x ≡ suc y → y < n → ((z w : ℕ) → z < n → other z ≡ suc w → w < n) → ((z : ℕ) → z < n → ends_in next n (suc z) ≡ true)
        → first_along (λ z. eqb z x) next n (suc y) ≡ 0 → (z : ℕ) → z < n → ends_in other n (suc z) ≡ true
    ends_led_on n y to l closed ends clear =
        ends_within other n (n + suc n) closed λ z h.
        led_on y n to (ends_clear n (suc y) clear (ends y l)) n (n + suc n) (suc z) (le_refl (n + suc n)) (ends z h)
