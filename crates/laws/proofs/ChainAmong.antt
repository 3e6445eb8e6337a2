-- Chains among the numbers that pass a test.
use Prim.Native.Nat.{ℕ, suc, ◌<◌}
use mathlib.Core.Bool.{Bool, true}
use mathlib.Core.Path.{◌≡◌, sym, ◌∙◌}
use native.Mathlib.Omega.{arith}
use Rattle.laws.specs.Bools.{when◌then◌else◌}
use Rattle.laws.specs.Chain.{ends_in}
use Rattle.laws.proofs.Bools.{case_bool, if_true, if_false}
use Rattle.laws.proofs.Chain.{ends_zero, ends_same}
use Rattle.laws.proofs.ChainChange.{ends_within}

-- a chain among numbers below n that ends does so within n elements, its first counted in
pub ends_among : (next : ℕ → ℕ) (ok : ℕ → Bool) (n : ℕ) → ((z w : ℕ) → ok z ≡ true → next z ≡ suc w → ok w ≡ true) → ((z : ℕ) → ok z ≡ true → z < n)
    → ((z : ℕ) → ok z ≡ true → ends_in next n (next z) ≡ true) → (z : ℕ) → ok z ≡ true → ends_in next n (suc z) ≡ true
unfolding ends_in
ends_among next ok n closed below ends z h =
    ends_same next among (λ z. ok z ≡ true) closed (λ z k. sym (inside z k)) n (suc z) (λ w e. rw (← suc_same e) h)
    ∙ ends_within among n (suc n) stays all z (below z h)
  where
    suc_same : {a b : ℕ} → suc a ≡ suc b → a ≡ b
    suc_same e = omega arith

    among : ℕ → ℕ
    among z = when ok z then next z else 0

    inside : (z : ℕ) → ok z ≡ true → among z ≡ next z
    inside z k = if_true (next z) 0 k

    stays : (z w : ℕ) → z < n → among z ≡ suc w → w < n
    stays z w l e =
        case_bool (ok z)
        (λ t. below w (closed z w t (sym (inside z t) ∙ e)))
        (λ f. absurd (let k = if_false (next z) 0 f in omega arith))

    all : (z : ℕ) → z < n → ends_in among (suc n) (suc z) ≡ true
    all z l =
        case_bool (ok z)
        (λ t. rw (inside z t) (sym (ends_same next among (λ z. ok z ≡ true) closed (λ z k. sym (inside z k)) n (next z) (λ w e. closed z w t e)) ∙ ends z t))
        (λ f. rw (if_false (next z) 0 f) (ends_zero among n))
