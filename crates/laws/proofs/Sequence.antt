-- Laws of holds, times_in, every_in, count_in and padded.
use Prim.Native.Nat.{ℕ, zero, suc, ◌+◌, ◌-◌, ◌≤◌, ◌<◌}
use mathlib.Core.Bool.{Bool, true, false, ◌&&◌, ◌||◌, or-false, and_assoc, or_assoc}
use mathlib.Core.Path.{◌≡◌, refl, sym, ◌∙◌, ap, ap₂}
use mathlib.Core.Logic.{◌⊎◌, inl, inr, ◌≢◌, ⊎_elim}
use mathlib.Core.List.{List, [], ◌∷◌, ◌++◌, append_assoc}
use native.Mathlib.Nat.{zero-lt-suc, not-suc-le-zero, suc-le-suc_iff, le_of_suc-le-suc, zero-add}
use native.Mathlib.Omega.{arith}
use lib.Dec.{eqb, ltb}
use lib.ListN.{length, get_or, take, set, replicate, length-append, length-replicate}
use lib.Seq.{take-append_seam, set-append_seam}
use borrow.Author.Tests.{eqb-true, eqb-false, ne_eqb, ltb-true, lt-ltb}
use Rattle.laws.specs.Bools.{one}
use Rattle.laws.specs.Sequence.{holds, times_in, every_in, count_in, padded}
use Rattle.laws.proofs.Bools.{true_not_false, case_bool, bool_same, false_of, and_both, and_left, and_right, or_left, or_right, or_cases}
use Rattle.laws.proofs.Bools.{or_left_false, or_right_false, one_true, one_false, one_le, eqb_self}
use Rattle.laws.proofs.Places.{get_or_repeated}

-- x occurs

module _ (x : ℕ) where
  pub holds_head : (l : List ℕ) → holds x (x ∷ l) ≡ true
  unfolding holds
  holds_head l = or_left (holds x l) (eqb_self x)

  pub holds_tail : (y : ℕ) (l : List ℕ) → holds x l ≡ true → holds x (y ∷ l) ≡ true
  unfolding holds
  holds_tail y l h = or_right (eqb x y) h

  pub holds_cases : (y : ℕ) (l : List ℕ) → holds x (y ∷ l) ≡ true → (x ≡ y) ⊎ (holds x l ≡ true)
  unfolding holds
  holds_cases y l h = ⊎_elim (λ e. inl (eqb-true x y e)) inr (or_cases (eqb x y) (holds x l) h)

  pub holds_rest : (y : ℕ) (l : List ℕ) → x ≢ y → holds x (y ∷ l) ≡ true → holds x l ≡ true
  holds_rest y l ne h = ⊎_elim (λ e. absurd (ne e)) (λ k. k) (holds_cases y l h)

  pub lacks_head : (y : ℕ) (l : List ℕ) → holds x (y ∷ l) ≡ false → x ≢ y
  unfolding holds
  lacks_head y l h = eqb-false x y (or_left_false (eqb x y) (holds x l) h)

  pub lacks_tail : (y : ℕ) (l : List ℕ) → holds x (y ∷ l) ≡ false → holds x l ≡ false
  unfolding holds
  lacks_tail y l h = or_right_false (eqb x y) (holds x l) h

  pub holds_append : (l m : List ℕ) → holds x (l ++ m) ≡ holds x l || holds x m
  unfolding holds
  holds_append [] m = refl
  holds_append (y ∷ l) m = ap (λ b. eqb x y || b) (holds_append l m) ∙ sym (or_assoc (eqb x y) (holds x l) (holds x m))

  pub holds_append_left : (l m : List ℕ) → holds x l ≡ true → holds x (l ++ m) ≡ true
  holds_append_left l m h = holds_append l m ∙ or_left (holds x m) h

  pub holds_append_right : (l m : List ℕ) → holds x m ≡ true → holds x (l ++ m) ≡ true
  holds_append_right l m h = holds_append l m ∙ or_right (holds x l) h

  pub holds_append_cases : (l m : List ℕ) → holds x (l ++ m) ≡ true → (holds x l ≡ true) ⊎ (holds x m ≡ true)
  holds_append_cases l m h = or_cases (holds x l) (holds x m) (sym (holds_append l m) ∙ h)

  pub holds_append_other : (y : ℕ) (l : List ℕ) → x ≢ y → holds x (l ++ (y ∷ [])) ≡ holds x l
  unfolding holds
  holds_append_other y l ne = holds_append l (y ∷ []) ∙ rw (ne_eqb x y ne, or-false)

  -- how often x occurs

  pub times_append : (l m : List ℕ) → times_in x (l ++ m) ≡ times_in x l + times_in x m
  unfolding times_in
  times_append [] m = sym (zero-add (times_in x m))
  times_append (y ∷ l) m = omega (arith, times_append l m)

  pub times_single : (y : ℕ) → times_in x (y ∷ []) ≡ one (eqb x y)
  unfolding times_in
  times_single y = omega arith

  pub times_cons : (y : ℕ) (l : List ℕ) → times_in x (y ∷ l) ≡ one (eqb x y) + times_in x l
  unfolding times_in
  times_cons y l = refl

  pub times_positive : (l : List ℕ) → holds x l ≡ true → 0 < times_in x l
  unfolding holds times_in
  times_positive [] h = absurd (true_not_false h refl)
  times_positive (y ∷ l) h =
      ⊎_elim (λ e. omega (arith, one_true e)) (λ k. omega (arith, times_positive l k)) (or_cases (eqb x y) (holds x l) h)

  pub times_zero : (l : List ℕ) → holds x l ≡ false → times_in x l ≡ 0
  unfolding holds times_in
  times_zero [] h = refl
  times_zero (y ∷ l) h = omega (arith, one_false (or_left_false (eqb x y) (holds x l) h), times_zero l (or_right_false (eqb x y) (holds x l) h))

  -- if it occurs once at most, it does not occur behind the first
  pub times_head_once : (l : List ℕ) → times_in x (x ∷ l) ≤ 1 → holds x l ≡ true → ⊥
  times_head_once l h k = omega (arith, times_cons x l, one_true (eqb_self x), times_positive l k)

  pub times_tail_le : (y : ℕ) (l : List ℕ) {n : ℕ} → times_in x (y ∷ l) ≤ n → times_in x l ≤ n
  times_tail_le y l h = omega (arith, times_cons y l)

  pub holds_of_times : (l : List ℕ) → 0 < times_in x l → holds x l ≡ true
  holds_of_times l h = case_bool (holds x l) (λ t. t) (λ f. absurd (omega (arith, times_zero l f)))

  pub lacks_of_times : (l : List ℕ) → times_in x l ≡ 0 → holds x l ≡ false
  lacks_of_times l h = false_of λ t. omega (arith, times_positive l t)

  pub holds_times : (l : List ℕ) → holds x l ≡ ltb 0 (times_in x l)
  holds_times l = bool_same (λ h. lt-ltb 0 (times_in x l) (times_positive l h)) (λ h. holds_of_times l (ltb-true 0 (times_in x l) h))

  pub holds_same_times : (l m : List ℕ) → times_in x l ≡ times_in x m → holds x l ≡ holds x m
  holds_same_times l m h = holds_times l ∙ ap (ltb 0) h ∙ sym (holds_times m)

  pub times_count : (l : List ℕ) → times_in x l ≡ count_in (eqb x) l
  unfolding times_in count_in
  times_count [] = refl
  times_count (y ∷ l) = ap (λ n. one (eqb x y) + n) (times_count l)

-- a list in which nothing occurs
pub times_none : (l : List ℕ) → ((x : ℕ) → times_in x l ≡ 0) → l ≡ []
times_none [] h = refl
times_none (y ∷ l) h = true_not_false (holds_head y l) (lacks_of_times y (y ∷ l) (h y))

pub holds_get_or : (l : List ℕ) (i d : ℕ) → i < length l → holds (get_or l i d) l ≡ true
holds_get_or [] i d h = absurd (not-suc-le-zero h)
holds_get_or (x ∷ l) zero d h = holds_head x l
holds_get_or (x ∷ l) (suc i) d h = holds_tail (get_or l i d) x l (holds_get_or l i d (le_of_suc-le-suc h))

-- where x stands
pub holds_place : (x : ℕ) (l : List ℕ) (d : ℕ) → holds x l ≡ true → (i : ℕ) × (i < length l) × (get_or l i d ≡ x)
unfolding holds
holds_place x [] d h = true_not_false h refl
holds_place x (y ∷ l) d h =
    ⊎_elim
    (λ e. (0, zero-lt-suc (length l), sym e))
    (λ k. let w = holds_place x l d k in (suc w.0, suc-le-suc_iff.1 w.1, w.2))
    (holds_cases x y l h)

-- every element passes

module _ (p : ℕ → Bool) where
  pub every_at : (l : List ℕ) → every_in p l ≡ true → (x : ℕ) → holds x l ≡ true → p x ≡ true
  unfolding every_in holds
  every_at [] h x k = true_not_false k refl
  every_at (y ∷ l) h x k =
      ⊎_elim (λ e. rw e (and_left (p y) (every_in p l) h)) (every_at l (and_right (p y) (every_in p l) h) x) (holds_cases x y l k)

  pub every_from : (l : List ℕ) → ((x : ℕ) → holds x l ≡ true → p x ≡ true) → every_in p l ≡ true
  unfolding every_in
  every_from [] h = refl
  every_from (y ∷ l) h = and_both (h y (holds_head y l)) (every_from l λ x k. h x (holds_tail x y l k))

  pub every_get_or : (l : List ℕ) → every_in p l ≡ true → (i d : ℕ) → i < length l → p (get_or l i d) ≡ true
  every_get_or l h i d k = every_at l h (get_or l i d) (holds_get_or l i d k)

  pub every_false_of : (l : List ℕ) (i d : ℕ) → i < length l → p (get_or l i d) ≡ false → every_in p l ≡ false
  every_false_of l i d h f = false_of λ t. true_not_false (every_get_or l t i d h) f

  pub every_from_get_or : (l : List ℕ) (d : ℕ) → ((i : ℕ) → i < length l → p (get_or l i d) ≡ true) → every_in p l ≡ true
  every_from_get_or l d h = every_from l λ x k. let w = holds_place x l d k in rw (← w.2) (h w.0 w.1)

  -- the order of the elements does not matter
  pub every_same_times : (l m : List ℕ) → ((x : ℕ) → times_in x l ≡ times_in x m) → every_in p l ≡ every_in p m
  every_same_times l m h =
      bool_same
      (λ t. every_from m λ x k. every_at l t x (holds_same_times x l m (h x) ∙ k))
      (λ t. every_from l λ x k. every_at m t x (sym (holds_same_times x l m (h x)) ∙ k))

  pub every_append : (l m : List ℕ) → every_in p (l ++ m) ≡ every_in p l && every_in p m
  unfolding every_in
  every_append [] m = refl
  every_append (y ∷ l) m = ap (λ b. p y && b) (every_append l m) ∙ sym (and_assoc (p y) (every_in p l) (every_in p m))

  pub every_append_both : (l m : List ℕ) → every_in p l ≡ true → every_in p m ≡ true → every_in p (l ++ m) ≡ true
  every_append_both l m h k = every_append l m ∙ and_both h k

  pub count_in_append : (l m : List ℕ) → count_in p (l ++ m) ≡ count_in p l + count_in p m
  unfolding count_in
  count_in_append [] m = sym (zero-add (count_in p m))
  count_in_append (y ∷ l) m = omega (arith, count_in_append l m)

  pub count_in_le : (l : List ℕ) → count_in p l ≤ length l
  unfolding count_in
  count_in_le [] = omega arith
  count_in_le (y ∷ l) = omega (arith, count_in_le l, one_le (p y))

  pub count_in_pos_of : (l : List ℕ) (x : ℕ) → holds x l ≡ true → p x ≡ true → 1 ≤ count_in p l
  unfolding count_in holds
  count_in_pos_of [] x h t = true_not_false h refl
  count_in_pos_of (y ∷ l) x h t = ⊎_elim (λ e. omega (arith, one_true (rw e at t))) (λ k. omega (arith, count_in_pos_of l x k t)) (holds_cases x y l h)

  pub count_in_witness : (l : List ℕ) → 1 ≤ count_in p l → (x : ℕ) × (holds x l ≡ true) × (p x ≡ true)
  unfolding count_in
  count_in_witness [] h = absurd (not-suc-le-zero h)
  count_in_witness (y ∷ l) h =
      case_bool (p y)
      (λ t. (y, holds_head y l, t))
      (λ f. let w = count_in_witness l (omega (arith, one_false f)) in (w.0, holds_tail w.0 y l w.1, w.2))

module _ (p q : ℕ → Bool) where
  pub count_in_same : (l : List ℕ) → ((x : ℕ) → holds x l ≡ true → p x ≡ q x) → count_in p l ≡ count_in q l
  unfolding count_in
  count_in_same [] h = refl
  count_in_same (y ∷ l) h = ap₂ ◌+◌ (ap one (h y (holds_head y l))) (count_in_same l λ x k. h x (holds_tail x y l k))

-- zeros behind the list

pub length_padded : (n : ℕ) (l : List ℕ) → length l ≤ n → length (padded n l) ≡ n
unfolding padded
length_padded n l h = rw (length-append, length-replicate) (omega arith)

pub take_padded : (n : ℕ) (l : List ℕ) → take (length l) (padded n l) ≡ l
unfolding padded
take_padded n l = take-append_seam l (replicate (n - length l) 0)

get_or_zeros : (l : List ℕ) (k i : ℕ) → get_or (l ++ replicate k 0) i 0 ≡ get_or l i 0
get_or_zeros [] k i = get_or_repeated 0 k i
get_or_zeros (x ∷ l) k zero = refl
get_or_zeros (x ∷ l) k (suc i) = get_or_zeros l k i

pub get_or_padded : (n : ℕ) (l : List ℕ) (i : ℕ) → get_or (padded n l) i 0 ≡ get_or l i 0
unfolding padded
get_or_padded n l i = get_or_zeros l (n - length l) i

-- one more at the end
pub set_padded_end : (n : ℕ) (l : List ℕ) (x : ℕ) → length l < n → set (padded n l) (length l) x ≡ padded n (l ++ (x ∷ []))
unfolding padded
set_padded_end n l x h =
    let k = n - suc (length l) in
    let e : n - length l ≡ suc k = omega arith in
    let f : n - length (l ++ (x ∷ [])) ≡ k = rw length-append (omega arith) in
    rw (e, f, append_assoc) (set-append_seam l 0 (replicate k 0) x)
