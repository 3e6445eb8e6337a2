-- Laws of first_of and up_to.
use Prim.Native.Nat.{ℕ, zero, suc, ◌<◌}
use mathlib.Core.Bool.{Bool, true, false, not}
use mathlib.Core.Path.{◌≡◌, refl, sym, ◌∙◌, ap, subst}
use mathlib.Core.Logic.{◌⊎◌, inl, inr, ⊎_elim, ◌≢◌}
use mathlib.Core.List.{List, [], ◌∷◌, ◌++◌}
use native.Mathlib.Nat.{not-suc-le-zero}
use native.Mathlib.Omega.{arith}
use lib.Dec.{eqb}
use lib.ListN.{length, get_or, take, drop}
use borrow.Author.Tests.{eqb-true, ne_eqb, not-true}
use Rattle.laws.specs.Bools.{when◌then◌else◌}
use Rattle.laws.specs.Sequence.{keep, holds, first_of, up_to, every_in}
use Rattle.laws.proofs.Bools.{true_not_false, case_bool, not_is_true, and_both, if_true, if_false, eqb_self}
use Rattle.laws.proofs.Sequence.{holds_head, holds_tail, lacks_head, lacks_tail, holds_append_left, every_at}

-- what first_of finds: an element that passes, or nothing passes
pub first_of_cases : (p : ℕ → Bool) (l : List ℕ) (other : ℕ)
    → ((holds (first_of p l other) l ≡ true) × (p (first_of p l other) ≡ true)) ⊎ ((first_of p l other ≡ other) × (every_in (λ x. not (p x)) l ≡ true))
unfolding first_of every_in
first_of_cases p [] other = inr (refl, refl)
first_of_cases p (x ∷ l) other =
    case_bool (p x)
    (λ t. rw (if_true x (first_of p l other) t) (inl (holds_head x l, t)))
    (λ f.
    rw (if_false x (first_of p l other) f)
    (⊎_elim
    (λ r. inl (holds_tail (first_of p l other) x l r.0, r.1))
    (λ r. inr (r.0, and_both (not_is_true f) r.1))
    (first_of_cases p l other)))

module _ (p : ℕ → Bool) where
  pub first_of_none : (l : List ℕ) (other : ℕ) → every_in (λ x. not (p x)) l ≡ true → first_of p l other ≡ other
  first_of_none l other h =
      ⊎_elim
      (λ r. true_not_false r.1 (not-true (p (first_of p l other)) (every_at (λ x. not (p x)) l h (first_of p l other) r.0)))
      (λ r. r.0)
      (first_of_cases p l other)

  -- if some x passes, what is found passes and is in the list
  pub first_of_passes : (l : List ℕ) (other x : ℕ) → holds x l ≡ true → p x ≡ true → p (first_of p l other) ≡ true
  first_of_passes l other x h t =
      ⊎_elim (λ r. r.1) (λ r. true_not_false t (not-true (p x) (every_at (λ x. not (p x)) l r.1 x h))) (first_of_cases p l other)

  pub first_of_in : (l : List ℕ) (other x : ℕ) → holds x l ≡ true → p x ≡ true → holds (first_of p l other) l ≡ true
  first_of_in l other x h t =
      ⊎_elim (λ r. r.0) (λ r. true_not_false t (not-true (p x) (every_at (λ x. not (p x)) l r.1 x h))) (first_of_cases p l other)

  pub first_of_append : (l m : List ℕ) (other : ℕ) → first_of p (l ++ m) other ≡ first_of p l (first_of p m other)
  unfolding first_of
  first_of_append [] m other = refl
  first_of_append (x ∷ l) m other = rw (first_of_append l m other)

  -- all that stands before what is found fails
  pub up_to_first : (l : List ℕ) (other : ℕ) → every_in (λ x. not (p x)) (up_to (first_of p l other) l) ≡ true
  unfolding first_of up_to every_in when◌then◌else◌
  up_to_first [] other = refl
  up_to_first (x ∷ l) other =
      case_bool (p x)
      (λ t. rw (t, eqb_self x))
      (λ f.
      let k : first_of p l other ≡ first_of p (x ∷ l) other = rw f in
      subst
      (λ (y : ℕ). every_in (λ x. not (p x)) (up_to y (x ∷ l)) ≡ true)
      k
      (case_bool (eqb x (first_of p l other)) (λ e. rw e) (λ e. rw e (and_both (not_is_true f) (up_to_first l other)))))

pub first_of_same : (p q : ℕ → Bool) (l : List ℕ) (other : ℕ) → ((x : ℕ) → holds x l ≡ true → p x ≡ q x) → first_of p l other ≡ first_of q l other
unfolding first_of
first_of_same p q [] other h = refl
first_of_same p q (x ∷ l) other h = rw (h x (holds_head x l), first_of_same p q l other (λ z k. h z (holds_tail z x l k)))

module _ (y : ℕ) where
  -- the list is what stands before the first y, and the rest
  pub up_to_rest : (l : List ℕ) → up_to y l ++ drop (length (up_to y l)) l ≡ l
  unfolding up_to when◌then◌else◌
  up_to_rest [] = refl
  up_to_rest (x ∷ l) = case_bool (eqb x y) (λ t. rw t) (λ f. rw (f, up_to_rest l))

  -- what is kept before y, where y is kept
  pub up_to_keep : (p : ℕ → Bool) (l : List ℕ) → p y ≡ true → up_to y (keep p l) ≡ keep p (up_to y l)
  unfolding up_to keep when◌then◌else◌
  up_to_keep p [] h = refl
  up_to_keep p (x ∷ l) h =
      case_bool (eqb x y)
      (λ t. rw (t, rw (← eqb-true x y t) at h, t))
      (λ f. case_bool (p x) (λ k. rw (f, k, f, up_to_keep p l h)) (λ k. rw (f, k, up_to_keep p l h)))

  -- what stands before y, where y does not stand in a
  pub up_to_seam : (a l : List ℕ) → holds y a ≡ false → up_to y (a ++ (y ∷ l)) ≡ a
  unfolding up_to when◌then◌else◌
  up_to_seam [] l h = rw (eqb_self y)
  up_to_seam (x ∷ a) l h = rw (ne_eqb x y (λ e. lacks_head y x a h (sym e)), up_to_seam a l (lacks_tail y x a h))

  pub up_to_in : (x : ℕ) (l : List ℕ) → holds x (up_to y l) ≡ true → holds x l ≡ true
  up_to_in x l h = subst (λ m. holds x m ≡ true) (up_to_rest l) (holds_append_left x (up_to y l) (drop (length (up_to y l)) l) h)

-- what stands before the first y, where y first stands at i
pub up_to_at : (l : List ℕ) (i d : ℕ) → i < length l → ((k : ℕ) → k < i → get_or l k d ≢ get_or l i d) → up_to (get_or l i d) l ≡ take i l
unfolding up_to
up_to_at [] i d h ne = absurd (not-suc-le-zero h)
up_to_at (x ∷ l) zero d h ne = if_true [] (x ∷ up_to x l) (eqb_self x)
up_to_at (x ∷ l) (suc i) d h ne =
    if_false [] (x ∷ up_to (get_or l i d) l) (ne_eqb x (get_or l i d) (ne 0 (omega arith)))
    ∙ ap (λ m. x ∷ m) (up_to_at l i d (omega arith) (λ k b. ne (suc k) (omega arith)))
