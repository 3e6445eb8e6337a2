-- What is said of a list, said of its places: for a loop that reads the list by index.
use Prim.Native.Nat.{ℕ, zero, suc, ◌+◌, ◌≤◌, ◌<◌}
use mathlib.Core.Bool.{Bool, true, false, not, ◌||◌, or-false}
use mathlib.Core.Path.{◌≡◌, refl, ◌∙◌, ap, ap₂}
use mathlib.Core.List.{List, [], ◌∷◌, ◌++◌, append-nil}
use native.Mathlib.Nat.{le_of_suc-le, le_of_lt, add-zero}
use native.Mathlib.Omega.{arith}
use lib.Dec.{eqb}
use lib.ListN.{length, get_or, take, drop}
use lib.Seq.{take-suc, split_at, get_or-take, length-take-le}
use Rattle.laws.specs.Bools.{when◌then◌else◌, one}
use Rattle.laws.specs.Range.{any_to, count_to, table_to}
use Rattle.laws.specs.Sequence.{keep, holds, times_in, count_in, first_of}
use Rattle.laws.proofs.Bools.{case_bool, not_is_true, if_true}
use Rattle.laws.proofs.Sequence.{holds_append, times_append, times_single, times_count, every_from_get_or, count_in_append}
use Rattle.laws.proofs.Keep.{keep_append}
use Rattle.laws.proofs.FirstOf.{first_of_append, first_of_none}

module _ (p : ℕ → Bool) (l : List ℕ) (d : ℕ) where
  pub count_in_take : (n : ℕ) → n ≤ length l → count_in p (take n l) ≡ count_to (λ i. p (get_or l i d)) n
  unfolding count_in count_to
  count_in_take zero h = refl
  count_in_take (suc n) h =
      let e = get_or l n d in
      rw (take-suc l n d) (count_in_append p (take n l) (e ∷ []) ∙ ap₂ ◌+◌ (count_in_take n (le_of_suc-le h)) (add-zero (one (p e))))

  -- keep, one place further
  pub keep_take : (i : ℕ) → i < length l → keep p (take (suc i) l) ≡ (when p (get_or l i d) then keep p (take i l) ++ (get_or l i d ∷ []) else keep p (take i l))
  unfolding keep when◌then◌else◌
  keep_take i h =
      let e = get_or l i d in
      rw (take-suc l i d) (keep_append p (take i l) (e ∷ []) ∙ case_bool (p e) (λ t. rw t) (λ f. rw (f, append-nil)))

  -- the first place that passes
  pub first_of_at : (other j : ℕ) → j < length l → p (get_or l j d) ≡ true → ((i : ℕ) → i < j → p (get_or l i d) ≡ false) → first_of p l other ≡ get_or l j d
  unfolding first_of
  first_of_at other j h t before =
      let e = get_or l j d in
      let r = drop (suc j) l in
      let k = length-take-le j l (le_of_lt h) in
      ap (λ m. first_of p m other) (split_at l j d h)
      ∙ first_of_append p (take j l) (e ∷ r) other
      ∙ first_of_none p (take j l) (first_of p (e ∷ r) other)
      (every_from_get_or (λ x. not (p x)) (take j l) d λ i m.
      let b : i < j = omega arith in
      rw (get_or-take j l i d b) (not_is_true (before i b)))
      ∙ if_true e (first_of p r other) t

  pub first_of_none_at : (other : ℕ) → ((i : ℕ) → i < length l → p (get_or l i d) ≡ false) → first_of p l other ≡ other
  first_of_none_at other h = first_of_none p l other (every_from_get_or (λ x. not (p x)) l d λ i k. not_is_true (h i k))

module _ (x : ℕ) (l : List ℕ) (d : ℕ) where
  pub holds_take : (n : ℕ) → n ≤ length l → holds x (take n l) ≡ any_to (λ i. eqb x (get_or l i d)) n
  unfolding holds any_to
  holds_take zero h = refl
  holds_take (suc n) h =
      let e = get_or l n d in
      rw (take-suc l n d) (holds_append x (take n l) (e ∷ []) ∙ ap₂ ◌||◌ (holds_take n (le_of_suc-le h)) (or-false (eqb x e)))

  pub times_take : (n : ℕ) → n ≤ length l → times_in x (take n l) ≡ count_to (λ i. eqb x (get_or l i d)) n
  times_take n h = times_count x (take n l) ∙ count_in_take (eqb x) l d n h

-- a table as a list

module _ (f : ℕ → ℕ) (x : ℕ) where
  pub holds_table : (n : ℕ) → holds x (table_to f n) ≡ any_to (λ i. eqb x (f i)) n
  unfolding table_to any_to holds
  holds_table zero = refl
  holds_table (suc n) = holds_append x (table_to f n) (f n ∷ []) ∙ ap₂ ◌||◌ (holds_table n) (or-false (eqb x (f n)))

  pub times_table : (n : ℕ) → times_in x (table_to f n) ≡ count_to (λ i. eqb x (f i)) n
  unfolding table_to count_to times_in
  times_table zero = refl
  times_table (suc n) = times_append x (table_to f n) (f n ∷ []) ∙ ap₂ ◌+◌ (times_table n) (times_single x (f n))

-- an array with one element changed
