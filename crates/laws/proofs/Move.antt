-- Laws of insert_before and move_before.
use Prim.Native.Nat.{ℕ, suc, ◌+◌}
use mathlib.Core.Bool.{Bool, true, false, not, ◌||◌}
use mathlib.Core.Path.{◌≡◌, refl, sym, ◌∙◌, ap}
use mathlib.Core.Logic.{◌≢◌, ⊎_elim}
use mathlib.Core.List.{List, [], ◌∷◌, ◌++◌}
use native.Mathlib.Omega.{arith}
use native.Mathlib.Decide.{ℕ_discrete}
use lib.Dec.{eqb}
use lib.ListN.{length, drop, length-append}
use borrow.Author.Tests.{eqb-false, eq-eqb, ne_eqb}
use Rattle.laws.specs.Bools.{when◌then◌else◌, one}
use Rattle.laws.specs.Sequence.{keep, holds, times_in, every_in, up_to, insert_before, move_before}
use Rattle.laws.proofs.Bools.{true_not_false, false_of, case_bool, bool_same, not_is_true, or_left, or_right, or_cases, one_true, one_false, eqb_self, if_true, if_false}
use Rattle.laws.proofs.Sequence.{holds_rest, holds_of_times, holds_same_times, times_append, times_cons, times_positive, lacks_head, lacks_tail, every_from, every_same_times}
use Rattle.laws.proofs.Keep.{keep_all, remove_times_self, remove_times_other, remove_holds, remove_lacks, length_remove}
use Rattle.laws.proofs.FirstOf.{up_to_rest, up_to_keep, up_to_seam, up_to_in}

module _ (x y : ℕ) where
  pub insert_here : {z : ℕ} (l : List ℕ) → z ≡ y → insert_before x y (z ∷ l) ≡ x ∷ z ∷ l
  unfolding insert_before
  insert_here {z} l e = if_true (x ∷ z ∷ l) (z ∷ insert_before x y l) (eq-eqb z y e)

  pub insert_later : (z : ℕ) (l : List ℕ) → z ≢ y → insert_before x y (z ∷ l) ≡ z ∷ insert_before x y l
  unfolding insert_before
  insert_later z l ne = if_false (x ∷ z ∷ l) (z ∷ insert_before x y l) (ne_eqb z y ne)

  pub insert_none : (l : List ℕ) → holds y l ≡ false → insert_before x y l ≡ l
  unfolding insert_before
  insert_none [] h = refl
  insert_none (z ∷ l) h = insert_later z l (λ e. lacks_head y z l h (sym e)) ∙ ap (λ m. z ∷ m) (insert_none l (lacks_tail y z l h))

  -- x stands behind what is before y
  pub insert_split : (l : List ℕ) → holds y l ≡ true → insert_before x y l ≡ up_to y l ++ (x ∷ drop (length (up_to y l)) l)
  unfolding insert_before up_to holds when◌then◌else◌
  insert_split [] h = true_not_false h refl
  insert_split (z ∷ l) h =
      case_bool (eqb z y) (λ t. rw t) (λ f. rw (f, insert_split l (holds_rest y z l (λ e. eqb-false z y f (sym e)) h)))

  pub times_insert : (z : ℕ) (l : List ℕ) → holds y l ≡ true → times_in z (insert_before x y l) ≡ one (eqb z x) + times_in z l
  times_insert z l h =
      let u = up_to y l in
      let r = drop (length u) l in
      omega (
        arith,
        ap (times_in z) (insert_split l h),
        times_append z u (x ∷ r),
        times_cons z x r,
        times_append z u r,
        ap (times_in z) (up_to_rest y l),
      )

  pub length_insert : (l : List ℕ) → holds y l ≡ true → length (insert_before x y l) ≡ suc (length l)
  length_insert l h =
      let u = up_to y l in
      let r = drop (length u) l in
      omega (arith, ap length (insert_split l h), length-append u (x ∷ r), length-append u r, ap length (up_to_rest y l))

  pub holds_insert : (z : ℕ) (l : List ℕ) → holds y l ≡ true → holds z (insert_before x y l) ≡ eqb z x || holds z l
  holds_insert z l h =
      let e = times_insert z l h in
      bool_same
      (λ k.
      case_bool (eqb z x)
      (or_left (holds z l))
      (λ f. or_right (eqb z x) (holds_of_times z l (omega (arith, one_false f, times_positive z (insert_before x y l) k)))))
      (λ k.
      holds_of_times z (insert_before x y l)
      (⊎_elim (λ t. omega (arith, one_true t)) (λ t. omega (arith, times_positive z l t)) (or_cases (eqb z x) (holds z l) k)))

  -- what stands before x once it has been moved: where it did not stand there before, what stands before y
  pub up_to_move : (l : List ℕ) → x ≢ y → holds y l ≡ true → holds x (up_to y l) ≡ false → up_to x (move_before x y l) ≡ up_to y l
  unfolding move_before
  up_to_move l ne hy off =
      let m = keep (λ z. not (eqb z x)) l in
      ap (up_to x) (insert_split m (remove_holds x y l (λ e. ne (sym e)) hy))
      ∙ up_to_seam x (up_to y m) (drop (length (up_to y m)) m) (false_of λ h. true_not_false (up_to_in y x m h) (remove_lacks x l))
      ∙ up_to_keep y (λ z. not (eqb z x)) l (not_is_true (ne_eqb y x (λ e. ne (sym e))))
      ∙ keep_all (λ z. not (eqb z x)) (up_to y l)
      (every_from (λ z. not (eqb z x)) (up_to y l) λ z h. not_is_true (ne_eqb z x λ e. true_not_false (rw (← e) h) off))

  -- y stands in the list, and x just once
  module _ (l : List ℕ) (ne : x ≢ y) (hx : times_in x l ≡ 1) (hy : holds y l ≡ true) where
    pub times_move : (z : ℕ) → times_in z (move_before x y l) ≡ times_in z l
    unfolding move_before
    times_move z =
        let e = times_insert z (keep (λ z. not (eqb z x)) l) (remove_holds x y l (λ e. ne (sym e)) hy) in
        elim (ℕ_discrete z x) [
          | yes q ↦ e ∙ rw q (omega (arith, one_true (eqb_self x), remove_times_self x l))
          | no q ↦ omega (arith, one_false (ne_eqb z x q), remove_times_other x z l q)
        ]

    pub length_move : length (move_before x y l) ≡ length l
    unfolding move_before
    length_move =
        omega (arith, length_insert (keep (λ z. not (eqb z x)) l) (remove_holds x y l (λ e. ne (sym e)) hy), length_remove x l)

    pub holds_move : (z : ℕ) → holds z (move_before x y l) ≡ holds z l
    holds_move z = holds_same_times z (move_before x y l) l (times_move z)

    pub every_move : (p : ℕ → Bool) → every_in p (move_before x y l) ≡ every_in p l
    every_move p = every_same_times p (move_before x y l) l times_move
