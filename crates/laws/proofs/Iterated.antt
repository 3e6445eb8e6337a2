-- What is asked, counted, found or kept over the places of a list, as the library's iterators say it of the list itself.
use Rattle.std.proofs.Common.{ℕ, zero, suc, ◌≡◌, ◌+◌, ◌≤◌, Bool, true, false, cond, ◌&&◌, ◌||◌, List, [], ◌∷◌, length, get_or, ltb, Some, None, take, refl, sym, ap, ◌∙◌, arith}
use lib.Seq.{take-length}
use native.Mathlib.Numerals.{unary_clauses}
use Rattle.std.specs.List.{list_all, list_any, count_by, sum_by, filter, position_or_len, position}
use Rattle.std.proofs.lemmas.List.Folds.{list_all_more, list_any_more}
use Rattle.std.proofs.lemmas.List.Sums.{sum_by_more, length-filter, position_or_len_is}
use Rattle.laws.specs.Bools.{when◌then◌else◌, one}
use Rattle.laws.specs.Range.{all_to, any_to, count_to, sum_to, first_to, first_below}
use Rattle.laws.specs.Sequence.{keep, every_in}
use Rattle.laws.proofs.First.{first_le, first_before, first_holds}

-- Of each element of a list.

pub every_in_all : (p : ℕ → Bool) (l : List ℕ) → every_in p l ≡ list_all p l
unfolding every_in
every_in_all p [] = refl
every_in_all p (x ∷ l) = ap (λ b. p x && b) (every_in_all p l)

pub keep_filter : (p : ℕ → Bool) (l : List ℕ) → keep p l ≡ filter p l
unfolding keep when◌then◌else◌
keep_filter p [] = refl
keep_filter p (x ∷ l) =
    let e = keep_filter p l in
    elim (p x) as (λ b. (when b then x ∷ keep p l else keep p l) ≡ cond b (x ∷ filter p l) (filter p l)) [
      | true ↦ ap (λ m. x ∷ m) e
      | false ↦ e
    ]

pub length_keep : (p : ℕ → Bool) (l : List ℕ) → length (keep p l) ≡ count_by p l
length_keep p l = ap length (keep_filter p l) ∙ length-filter p l

one_cond : (b : Bool) → one b ≡ cond b 1 0
unfolding one
one_cond true = refl
one_cond false = refl

-- Of each place.

module _ {A : Type 0} (p : A → Bool) (l : List A) (d : A) where
  all_front : (n : ℕ) → n ≤ length l → all_to (λ i. p (get_or l i d)) n ≡ list_all p (take n l)
  unfolding all_to
  all_front zero h = refl
  all_front (suc n) h =
      let more = simp unary_clauses at (list_all_more p l n d (omega arith)) in
      ap (λ b. b && p (get_or l n d)) (all_front n (omega arith)) ∙ sym more

  pub all_to_all : all_to (λ i. p (get_or l i d)) (length l) ≡ list_all p l
  all_to_all = all_front (length l) (omega arith) ∙ ap (list_all p) (take-length l)

  any_front : (n : ℕ) → n ≤ length l → any_to (λ i. p (get_or l i d)) n ≡ list_any p (take n l)
  unfolding any_to
  any_front zero h = refl
  any_front (suc n) h =
      let more = simp unary_clauses at (list_any_more p l n d (omega arith)) in
      ap (λ b. b || p (get_or l n d)) (any_front n (omega arith)) ∙ sym more

  pub any_to_any : any_to (λ i. p (get_or l i d)) (length l) ≡ list_any p l
  any_to_any = any_front (length l) (omega arith) ∙ ap (list_any p) (take-length l)

  count_front : (n : ℕ) → n ≤ length l → count_to (λ i. p (get_or l i d)) n ≡ count_by p (take n l)
  unfolding count_to
  count_front zero h = refl
  count_front (suc n) h =
      let more = simp unary_clauses at (sum_by_more (λ x. cond (p x) 1 0) l n d (omega arith)) in
      ap (λ m. m + one (p (get_or l n d))) (count_front n (omega arith)) ∙ ap (λ m. count_by p (take n l) + m) (one_cond (p (get_or l n d))) ∙ sym more

  pub count_to_count : count_to (λ i. p (get_or l i d)) (length l) ≡ count_by p l
  count_to_count = count_front (length l) (omega arith) ∙ ap (count_by p) (take-length l)

  pub first_to_position : first_to (λ i. p (get_or l i d)) (length l) ≡ position_or_len p l
  first_to_position =
      let q : ℕ → Bool = λ i. p (get_or l i d) in
      let n = length l in
      sym (position_or_len_is p l (first_to q n) d (first_le q n) (λ k h. first_before q n k h) (λ h. first_holds q n h))

  pub first_below_position : first_below (λ i. p (get_or l i d)) (length l) ≡ position p l
  first_below_position = ap (λ m. cond (ltb m (length l)) (Some m) None) first_to_position

module _ {A : Type 0} (f : A → ℕ) (l : List A) (d : A) where
  sum_front : (n : ℕ) → n ≤ length l → sum_to (λ i. f (get_or l i d)) n ≡ sum_by f (take n l)
  unfolding sum_to
  sum_front zero h = refl
  sum_front (suc n) h =
      let more = simp unary_clauses at (sum_by_more f l n d (omega arith)) in
      ap (λ m. m + f (get_or l n d)) (sum_front n (omega arith)) ∙ sym more

  pub sum_to_sum : sum_to (λ i. f (get_or l i d)) (length l) ≡ sum_by f l
  sum_to_sum = sum_front (length l) (omega arith) ∙ ap (sum_by f) (take-length l)
