-- Laws of keep.
use Prim.Native.Nat.{ℕ, ◌+◌, ◌≤◌}
use mathlib.Core.Bool.{Bool, true, false, not, ◌&&◌, and-true, and-false}
use mathlib.Core.Path.{◌≡◌, refl, sym, ◌∙◌, ap}
use mathlib.Core.Logic.{◌≢◌}
use mathlib.Core.List.{List, [], ◌∷◌, ◌++◌}
use native.Mathlib.Omega.{arith}
use lib.Dec.{eqb, ltb}
use lib.ListN.{length}
use borrow.Author.Tests.{ne_eqb}
use Rattle.laws.specs.Bools.{when◌then◌else◌, one}
use Rattle.laws.specs.Sequence.{keep, holds, times_in, every_in, count_in}
use Rattle.laws.proofs.Bools.{true_not_false, case_bool, not_is_true, not_is_false, and_both, and_left, and_right, one_false, eqb_self, eqb_sym}
use Rattle.laws.proofs.Sequence.{holds_head, holds_tail, holds_times, lacks_of_times, every_at, every_from, count_in_le}

module _ (p : ℕ → Bool) where
  pub keep_true : (x : ℕ) (l : List ℕ) → p x ≡ true → keep p (x ∷ l) ≡ x ∷ keep p l
  unfolding keep when◌then◌else◌
  keep_true x l t = rw t

  pub keep_false : (x : ℕ) (l : List ℕ) → p x ≡ false → keep p (x ∷ l) ≡ keep p l
  unfolding keep when◌then◌else◌
  keep_false x l f = rw f

  pub keep_append : (l m : List ℕ) → keep p (l ++ m) ≡ keep p l ++ keep p m
  unfolding keep when◌then◌else◌
  keep_append [] m = refl
  keep_append (x ∷ l) m = case_bool (p x) (λ t. rw (t, keep_append l m)) (λ f. rw (f, keep_append l m))

  pub length_keep : (l : List ℕ) → length (keep p l) ≡ count_in p l
  unfolding keep count_in when◌then◌else◌ one
  length_keep [] = refl
  length_keep (x ∷ l) = case_bool (p x) (λ t. rw t (omega (arith, length_keep l))) (λ f. rw f (omega (arith, length_keep l)))

  pub length_keep_le : (l : List ℕ) → length (keep p l) ≤ length l
  length_keep_le l = omega (arith, length_keep l, count_in_le p l)

  pub times_keep_true : (x : ℕ) (l : List ℕ) → p x ≡ true → times_in x (keep p l) ≡ times_in x l
  unfolding keep times_in when◌then◌else◌
  times_keep_true x [] h = refl
  times_keep_true x (y ∷ l) h =
      case_bool (p y)
      (λ t. rw (t, times_keep_true x l h))
      (λ f. rw (f, times_keep_true x l h) (omega (arith, one_false (ne_eqb x y (λ e. true_not_false h (rw e f))))))

  pub times_keep_false : (x : ℕ) (l : List ℕ) → p x ≡ false → times_in x (keep p l) ≡ 0
  unfolding keep times_in when◌then◌else◌
  times_keep_false x [] h = refl
  times_keep_false x (y ∷ l) h =
      case_bool (p y)
      (λ t. rw (t, times_keep_false x l h) (omega (arith, one_false (ne_eqb x y (λ e. true_not_false (rw e t) h)))))
      (λ f. rw (f, times_keep_false x l h))

  pub times_keep_le : (x : ℕ) (l : List ℕ) → times_in x (keep p l) ≤ times_in x l
  times_keep_le x l = case_bool (p x) (λ t. omega (arith, times_keep_true x l t)) (λ f. omega (arith, times_keep_false x l f))

  pub holds_keep : (x : ℕ) (l : List ℕ) → holds x (keep p l) ≡ holds x l && p x
  holds_keep x l =
      case_bool (p x)
      (λ t. rw (t, and-true) (holds_times x (keep p l) ∙ ap (ltb 0) (times_keep_true x l t) ∙ sym (holds_times x l)))
      (λ f. rw (f, and-false) (lacks_of_times x (keep p l) (times_keep_false x l f)))

  pub holds_keep_in : (x : ℕ) (l : List ℕ) → holds x l ≡ true → p x ≡ true → holds x (keep p l) ≡ true
  holds_keep_in x l h t = holds_keep x l ∙ and_both h t

  pub keep_in : (x : ℕ) (l : List ℕ) → holds x (keep p l) ≡ true → holds x l ≡ true
  keep_in x l h = and_left (holds x l) (p x) (sym (holds_keep x l) ∙ h)

  pub keep_passes : (x : ℕ) (l : List ℕ) → holds x (keep p l) ≡ true → p x ≡ true
  keep_passes x l h = and_right (holds x l) (p x) (sym (holds_keep x l) ∙ h)

  pub every_kept : (l : List ℕ) → every_in p (keep p l) ≡ true
  every_kept l = every_from p (keep p l) λ x. keep_passes x l

  pub every_keep : (q : ℕ → Bool) (l : List ℕ) → every_in q l ≡ true → every_in q (keep p l) ≡ true
  every_keep q l h = every_from q (keep p l) λ x k. every_at q l h x (keep_in x l k)

  pub keep_all : (l : List ℕ) → every_in p l ≡ true → keep p l ≡ l
  unfolding keep every_in when◌then◌else◌
  keep_all [] h = refl
  keep_all (x ∷ l) h = rw (and_left (p x) (every_in p l) h, keep_all l (and_right (p x) (every_in p l) h))

module _ (p q : ℕ → Bool) where
  pub keep_same : (l : List ℕ) → ((x : ℕ) → holds x l ≡ true → p x ≡ q x) → keep p l ≡ keep q l
  unfolding keep
  keep_same [] h = refl
  keep_same (x ∷ l) h = rw (h x (holds_head x l), keep_same l (λ z k. h z (holds_tail z x l k)))

-- x taken out

abbrev other : ℕ → ℕ → Bool
other x z = not (eqb z x)

module _ (x : ℕ) where
  pub remove_times_self : (l : List ℕ) → times_in x (keep (λ z. not (eqb z x)) l) ≡ 0
  remove_times_self l = times_keep_false (other x) x l (not_is_false (eqb_self x))

  pub remove_times_other : (z : ℕ) (l : List ℕ) → z ≢ x → times_in z (keep (λ z. not (eqb z x)) l) ≡ times_in z l
  remove_times_other z l h = times_keep_true (other x) z l (not_is_true (ne_eqb z x h))

  pub remove_lacks : (l : List ℕ) → holds x (keep (λ z. not (eqb z x)) l) ≡ false
  remove_lacks l = lacks_of_times x (keep (other x) l) (remove_times_self l)

  pub remove_holds : (z : ℕ) (l : List ℕ) → z ≢ x → holds z l ≡ true → holds z (keep (λ z. not (eqb z x)) l) ≡ true
  remove_holds z l ne h = holds_keep_in (other x) z l h (not_is_true (ne_eqb z x ne))

  pub length_remove : (l : List ℕ) → length (keep (λ z. not (eqb z x)) l) + times_in x l ≡ length l
  unfolding keep times_in when◌then◌else◌ one
  length_remove [] = refl
  length_remove (z ∷ l) = rw (eqb_sym x z) (case_bool (eqb z x) (λ t. rw t (omega (arith, length_remove l))) (λ f. rw f (omega (arith, length_remove l))))
