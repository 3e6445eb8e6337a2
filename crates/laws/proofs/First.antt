-- Laws of first_to, greatest_to and chosen_to.
use Prim.Native.Nat.{ℕ, zero, suc, ◌+◌, ◌≤◌, ◌<◌}
use mathlib.Core.Bool.{Bool, true, false, cond}
use borrow.Author.Rules.{rules}
use Rattle.std.specs.Prelude.{Some, None}
use mathlib.Core.Path.{◌≡◌, refl, sym, ◌∙◌}
use mathlib.Core.Logic.{⊎_elim}
use mathlib.Core.List.{List, [], ◌∷◌, ◌++◌}
use native.Mathlib.Nat.{le_step, lt-suc_self, not-suc-le-zero, le_refl, lt_of_le_of_lt, eq-or-lt_of_le, add-zero}
use native.Mathlib.Numerals.{add-one}
use native.Mathlib.Decide.{dec_lt}
use native.Mathlib.Omega.{arith}
use lib.Dec.{ltb}
use lib.ListN.{length, get_or, set, drop, length-append, get_or-append}
use lib.Seq.{get_or_at}
use borrow.Author.Tests.{ltb-true, ltb-false, lt-ltb}
use Rattle.laws.specs.Bools.{when◌then◌else◌, one}
use Rattle.laws.specs.Range.{any_to, count_to, first_to, first_below, greatest_to, chosen_to}
use Rattle.laws.proofs.Bools.{true_not_false, case_bool, bool_same, if_cases, one_true}
use Rattle.laws.proofs.All.{below_suc, any_of, any_witness}
use Rattle.laws.proofs.Count.{count_suc, count_more, count_miss, count_le_bound, count_injective}
use Rattle.laws.proofs.Front.{front_more}

-- x is the least number below n that passes, or n
record IsFirst (p : ℕ → Bool) (n x : ℕ) : Type 0 where
  bound : x ≤ n
  passes : x < n → p x ≡ true
  before : (i : ℕ) → i < x → p i ≡ false

first_is : (p : ℕ → Bool) (n : ℕ) → IsFirst p n (first_to p n)
unfolding first_to
first_is p zero = record { bound = le_refl 0; passes = λ l. absurd (not-suc-le-zero l); before = λ i l. absurd (not-suc-le-zero l) }
first_is p (suc n) = step (first_is p n)
  where
    step : IsFirst p n (first_to p n) → IsFirst p (suc n) (first_to p (suc n))
    step r =
        if_cases (IsFirst p (suc n)) (ltb (first_to p n) n)
        (λ t. record { bound = le_step r.bound; passes = λ l. r.passes (ltb-true (first_to p n) n t); before = r.before })
        (λ f.
        let k = ltb-false (first_to p n) n f in
        if_cases (IsFirst p (suc n)) (p n)
        (λ t. record { bound = omega arith; passes = λ l. t; before = λ i l. r.before i (omega arith) })
        (λ g.
        record {
          bound = omega arith;
          passes = λ l. absurd (omega arith);
          before = below_suc (λ i. p i ≡ false) n (λ i l. r.before i (omega arith)) g;
        }))

module _ (p : ℕ → Bool) where
  pub first_le : (n : ℕ) → first_to p n ≤ n
  first_le n = (first_is p n).bound

  pub first_holds : (n : ℕ) → first_to p n < n → p (first_to p n) ≡ true
  first_holds n = (first_is p n).passes

  pub first_before : (n i : ℕ) → i < first_to p n → p i ≡ false
  first_before n = (first_is p n).before

  pub first_some : (n i : ℕ) → p i ≡ true → first_to p n ≤ i
  first_some n i t = elim (dec_lt i (first_to p n)) [ yes l ↦ true_not_false t (first_before n i l) | no l ↦ omega arith ]

  pub first_found : (n i : ℕ) → i < n → p i ≡ true → first_to p n < n
  first_found n i l t = lt_of_le_of_lt (first_some n i t) l

  pub first_none : (n : ℕ) → ((i : ℕ) → i < n → p i ≡ false) → first_to p n ≡ n
  first_none n h =
      elim (dec_lt (first_to p n) n) [
        | yes l ↦ true_not_false (first_holds n l) (h (first_to p n) l)
        | no l ↦ let k = first_le n in omega arith
      ]

  pub first_unique : (n i : ℕ) → i < n → p i ≡ true → ((j : ℕ) → j < i → p j ≡ false) → first_to p n ≡ i
  first_unique n i l t h =
      let k = first_some n i t in
      elim (dec_lt (first_to p n) i) [
        | yes m ↦ true_not_false (first_holds n (omega arith)) (h (first_to p n) m)
        | no m ↦ omega arith
      ]

  -- one is found if there is one
  pub first_any : (n : ℕ) → ltb (first_to p n) n ≡ any_to p n
  first_any n =
      bool_same
      (λ h. let l = ltb-true (first_to p n) n h in any_of p n (first_to p n) l (first_holds n l))
      (λ h. let w = any_witness p n h in lt-ltb (first_to p n) n (first_found n w.0 w.1 w.2))

  -- what is found below n is the least
  pub first_below_some : (n i : ℕ) → first_below p n ≡ Some i → (i ≡ first_to p n) × (i < n)
  first_below_some n i = by_test (ltb (first_to p n) n) (ltb-true (first_to p n) n)
    where
      by_test : (b : Bool) → (b ≡ true → first_to p n < n) → cond b (Some (first_to p n)) None ≡ Some i → (i ≡ first_to p n) × (i < n)
      by_test true l e = let h : i ≡ first_to p n = search rules in (h, rw h (l refl))
      by_test false l e = absurd cc

  pub first_below_is : (n : ℕ) → first_to p n < n → first_below p n ≡ Some (first_to p n)
  first_below_is n l = rw (lt-ltb (first_to p n) n l) refl

  -- the greatest up to n passes, where 0 does, and none up to n that passes is above it
  pub greatest_le : (n : ℕ) → greatest_to p n ≤ n
  unfolding greatest_to
  greatest_le zero = le_refl 0
  greatest_le (suc n) = if_cases (λ x. x ≤ suc n) (p (suc n)) (λ t. le_refl (suc n)) (λ f. le_step (greatest_le n))

  pub greatest_holds : (n : ℕ) → p 0 ≡ true → p (greatest_to p n) ≡ true
  unfolding greatest_to
  greatest_holds zero z = z
  greatest_holds (suc n) z = if_cases (λ x. p x ≡ true) (p (suc n)) (λ t. t) (λ f. greatest_holds n z)

  pub greatest_most : (n i : ℕ) → i ≤ n → p i ≡ true → i ≤ greatest_to p n
  unfolding greatest_to
  greatest_most zero i l t = l
  greatest_most (suc n) i l t =
      if_cases (λ x. i ≤ x) (p (suc n)) (λ k. l)
      (λ f. ⊎_elim (λ q. true_not_false t (rw q f)) (λ m. greatest_most n i (omega arith) t) (eq-or-lt_of_le l))

  pub length_chosen : (n : ℕ) → length (chosen_to p n) ≡ count_to p n
  unfolding chosen_to count_to when◌then◌else◌ one
  length_chosen zero = refl
  length_chosen (suc n) =
      case_bool (p n) (λ t. rw (t, length-append, length_chosen n)) (λ f. rw (f, add-zero, length_chosen n))

  pub chosen_true : (n : ℕ) → p n ≡ true → chosen_to p (suc n) ≡ chosen_to p n ++ (n ∷ [])
  unfolding chosen_to when◌then◌else◌
  chosen_true n t = rw t

  pub chosen_false : (n : ℕ) → p n ≡ false → chosen_to p (suc n) ≡ chosen_to p n
  unfolding chosen_to when◌then◌else◌
  chosen_false n f = rw f

  pub length_chosen_le : (n : ℕ) → length (chosen_to p n) ≤ n
  length_chosen_le n = omega (arith, length_chosen n, count_le_bound p n)

  pub chosen_hit : (i : ℕ) → p i ≡ true → chosen_to p (i + 1) ≡ chosen_to p i ++ (i ∷ [])
  chosen_hit i t = rw add-one (chosen_true i t)

  pub chosen_miss : (i : ℕ) → p i ≡ false → chosen_to p (i + 1) ≡ chosen_to p i
  chosen_miss i f = rw add-one (chosen_false i f)

pub chosen_none : (n : ℕ) → chosen_to (λ i. false) n ≡ []
unfolding chosen_to when◌then◌else◌
chosen_none zero = refl
chosen_none (suc n) = chosen_none n

-- the chosen ones, written over the front of a list: one more, and none
module _ (p : ℕ → Bool) (l : List ℕ) (i : ℕ) where
  pub chosen_write : p i ≡ true → count_to p i < length l
      → set (chosen_to p i ++ drop (count_to p i) l) (count_to p i) i ≡ chosen_to p (i + 1) ++ drop (count_to p (i + 1)) l
  chosen_write t h =
      rw (← length_chosen p i, ← length_chosen p (i + 1), chosen_hit p i t) (front_more (chosen_to p i) l i (rw length_chosen h))

  pub chosen_skip : p i ≡ false → chosen_to p i ++ drop (count_to p i) l ≡ chosen_to p (i + 1) ++ drop (count_to p (i + 1)) l
  chosen_skip f = rw (count_miss p i f, chosen_miss p i f)

-- x passes, is below n, and k that pass are below it
record IsChosen (p : ℕ → Bool) (n k x : ℕ) : Type 0 where
  below : x < n
  passes : p x ≡ true
  place : count_to p x ≡ k

chosen_is : (p : ℕ → Bool) (d n k : ℕ) → k < count_to p n → IsChosen p n k (get_or (chosen_to p n) k d)
unfolding count_to one
chosen_is p d zero k l = absurd (not-suc-le-zero l)
chosen_is p d (suc n) k l = case_bool (p n)
    (λ t. rw (chosen_true p n t) (more t (chosen_is p d n k)))
    (λ f. rw (chosen_false p n f) (lift (chosen_is p d n k (rw (f, add-zero) at l))))
  where
    lift : {x : ℕ} → IsChosen p n k x → IsChosen p (suc n) k x
    lift r = record { below = le_step r.below; passes = r.passes; place = r.place }

    more : p n ≡ true → (k < count_to p n → IsChosen p n k (get_or (chosen_to p n) k d)) → IsChosen p (suc n) k (get_or (chosen_to p n ++ (n ∷ [])) k d)
    more t r =
        let e = length_chosen p n in
        let o = one_true t in
        ⊎_elim
        (λ q. rw (get_or_at (chosen_to p n) n [] d k (e ∙ sym q)) (record { below = lt-suc_self n; passes = t; place = sym q }))
        (λ m. rw (get_or-append (chosen_to p n) (n ∷ []) d k (omega arith)) (lift (r m)))
        (eq-or-lt_of_le (omega arith))

module _ (p : ℕ → Bool) (d : ℕ) where
  pub chosen_below : (n k : ℕ) → k < count_to p n → get_or (chosen_to p n) k d < n
  chosen_below n k l = (chosen_is p d n k l).below

  pub chosen_passes : (n k : ℕ) → k < count_to p n → p (get_or (chosen_to p n) k d) ≡ true
  chosen_passes n k l = (chosen_is p d n k l).passes

  -- how many that pass are below the k-th
  pub chosen_place : (n k : ℕ) → k < count_to p n → count_to p (get_or (chosen_to p n) k d) ≡ k
  chosen_place n k l = (chosen_is p d n k l).place

  pub chosen_at : (n i : ℕ) → i < n → p i ≡ true → get_or (chosen_to p n) (count_to p i) d ≡ i
  chosen_at n i l t =
      let r = chosen_is p d n (count_to p i) (omega (arith, count_suc p i, count_more p l, one_true t)) in
      count_injective p r.passes t r.place

  -- the first of them are the same, however far the choice goes
  pub chosen_prefix : (m n k : ℕ) → m ≤ n → k < count_to p m → get_or (chosen_to p m) k d ≡ get_or (chosen_to p n) k d
  chosen_prefix m n k h l =
      let e = chosen_at n (get_or (chosen_to p m) k d) (omega (arith, chosen_below m k l)) (chosen_passes m k l) in
      sym (rw (chosen_place m k l) at e)

  pub chosen_rises : (n i j : ℕ) → i < j → j < count_to p n → get_or (chosen_to p n) i d < get_or (chosen_to p n) j d
  chosen_rises n i j l h =
      let x = get_or (chosen_to p n) i d in
      let y = get_or (chosen_to p n) j d in
      elim (dec_lt x y) [ yes k ↦ k | no k ↦ absurd (omega (arith, chosen_place n i (omega arith), chosen_place n j h, count_more p {m = y} {n = x} (omega arith))) ]

module _ (p q : ℕ → Bool) where
  pub first_same : (n : ℕ) → ((i : ℕ) → i < n → p i ≡ q i) → first_to p n ≡ first_to q n
  unfolding first_to
  first_same zero h = refl
  first_same (suc n) h = rw (first_same n (λ i l. h i (le_step l)), h n (lt-suc_self n))

  pub chosen_same : (n : ℕ) → ((i : ℕ) → i < n → p i ≡ q i) → chosen_to p n ≡ chosen_to q n
  unfolding chosen_to
  chosen_same zero h = refl
  chosen_same (suc n) h = rw (chosen_same n (λ i l. h i (le_step l)), h n (lt-suc_self n))
