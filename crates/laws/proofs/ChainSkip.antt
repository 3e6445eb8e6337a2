-- Chains that skip the elements that do not pass.
use Prim.Native.Nat.{ℕ, zero, suc}
use mathlib.Core.Bool.{Bool, true}
use mathlib.Core.Path.{◌≡◌, refl, sym, ◌∙◌}
use native.Mathlib.Nat.{le_step, le_refl}
use Rattle.laws.specs.Chain.{ends_in, first_along}
use Rattle.laws.proofs.Bools.{true_not_false, case_bool}
use Rattle.laws.proofs.Chain.{ends_zero, ends_suc, ends_more, first_along_zero, first_along_here, first_along_next}

-- each element that passes is led on to the next that does, if there is one within top
module _ (p : ℕ → Bool) (next other : ℕ → ℕ) (top : ℕ) (leads : (x : ℕ) → p x ≡ true → other x ≡ first_along p next top (next x)) where
  pub ends_first : (n m k : ℕ) → ends_in next n k ≡ true → ends_in other n (first_along p next m k) ≡ true
  unfolding ends_in first_along
  ends_first zero m zero h = rw (first_along_zero p next m) (ends_zero other 0)
  ends_first zero m (suc x) h = true_not_false h refl
  ends_first (suc n) m zero h = rw (first_along_zero p next m) (ends_zero other (suc n))
  ends_first (suc n) zero (suc x) h = refl
  ends_first (suc n) (suc m) (suc x) h =
      let g = sym (ends_suc next n x) ∙ h in
      case_bool (p x)
      (λ t. rw (first_along_here p next m x t, ends_suc other n x, leads x t) (ends_first n top (next x) g))
      (λ f. rw (first_along_next p next m x f) (ends_more other n (suc n) (first_along p next m (next x)) (le_step (le_refl n)) (ends_first n m (next x) g)))
