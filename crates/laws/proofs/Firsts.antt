-- Laws of firsts_to.
use Prim.Native.Nat.{ℕ, zero, suc, ◌≤◌, ◌<◌}
use mathlib.Core.Bool.{true, false, ◌||◌, or-false}
use mathlib.Core.Path.{◌≡◌, refl, sym, ◌∙◌, ap₂}
use mathlib.Core.List.{List, [], ◌∷◌, ◌++◌}
use native.Mathlib.Omega.{arith}
use native.Mathlib.Decide.{ℕ_discrete}
use lib.Dec.{eqb}
use lib.ListN.{length, get_or}
use borrow.Author.Tests.{eqb-true, ne_eqb}
use Rattle.laws.specs.Bools.{when◌then◌else◌}
use Rattle.laws.specs.Range.{any_to}
use Rattle.laws.specs.Sequence.{holds, times_in, firsts_to}
use Rattle.laws.proofs.Bools.{case_bool, if_true, if_false, or_right, one_le, one_false}
use Rattle.laws.proofs.All.{any_witness}
use Rattle.laws.proofs.Sequence.{holds_append, times_append, times_single, times_zero}
use Rattle.laws.proofs.Once.{distinct_length}

module _ (l : List ℕ) where
  pub firsts_seen : (n : ℕ) → holds (get_or l n 0) (firsts_to l n) ≡ true → firsts_to l (suc n) ≡ firsts_to l n
  unfolding firsts_to when◌then◌else◌
  firsts_seen n t = rw t

  pub firsts_new : (n : ℕ) → holds (get_or l n 0) (firsts_to l n) ≡ false → firsts_to l (suc n) ≡ firsts_to l n ++ (get_or l n 0 ∷ [])
  unfolding firsts_to when◌then◌else◌
  firsts_new n f = rw f

  pub firsts_once : (n x : ℕ) → times_in x (firsts_to l n) ≤ 1
  unfolding firsts_to times_in
  firsts_once zero x = omega arith
  firsts_once (suc n) x =
      let e = get_or l n 0 in
      let s = firsts_to l n in
      case_bool (holds e s)
      (λ t. rw (if_true s (s ++ (e ∷ [])) t) (firsts_once n x))
      (λ f.
      rw (if_false s (s ++ (e ∷ [])) f)
      (elim (ℕ_discrete x e) [
        | yes q ↦ omega (arith, times_append x s (e ∷ []), times_single x e, one_le (eqb x e), times_zero x s (rw q f))
        | no ne ↦ omega (arith, times_append x s (e ∷ []), times_single x e, one_false (ne_eqb x e ne), firsts_once n x)
      ]))

  -- it holds the elements at the places below n
  pub firsts_holds : (n x : ℕ) → holds x (firsts_to l n) ≡ any_to (λ i. eqb x (get_or l i 0)) n
  unfolding firsts_to holds any_to
  firsts_holds zero x = refl
  firsts_holds (suc n) x =
      let e = get_or l n 0 in
      let s = firsts_to l n in
      let r = firsts_holds n x in
      case_bool (holds e s)
      (λ t.
      rw (if_true s (s ++ (e ∷ [])) t)
      (case_bool (eqb x e) (λ q. rw (eqb-true x e q) t ∙ sym (or_right (any_to (λ i. eqb x (get_or l i 0)) n) q)) (λ g. rw (g, or-false) r)))
      (λ f. rw (if_false s (s ++ (e ∷ [])) f) (holds_append x s (e ∷ []) ∙ ap₂ ◌||◌ r (or-false (eqb x e))))

  pub firsts_length : (n b : ℕ) → ((i : ℕ) → i < n → get_or l i 0 < b) → length (firsts_to l n) ≤ b
  firsts_length n b h =
      distinct_length b (firsts_to l n) (firsts_once n) λ x k.
      let w = any_witness (λ i. eqb x (get_or l i 0)) n (sym (firsts_holds n x) ∙ k) in
      rw (eqb-true x (get_or l w.0 0) w.2) (h w.0 w.1)
