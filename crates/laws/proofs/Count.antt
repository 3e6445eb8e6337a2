-- Laws of count_to.
use Prim.Native.Nat.{ℕ, zero, suc, ◌+◌, ◌≤◌, ◌<◌}
use mathlib.Core.Bool.{Bool, true, false, not, ◌&&◌}
use mathlib.Core.Path.{◌≡◌, refl, ◌∙◌, ap, ap₂}
use mathlib.Core.Logic.{◌≢◌, ⊎_elim}
use native.Mathlib.Nat.{le_step, lt-suc_self, not-suc-le-zero, le_refl, le_of_suc-le-suc, eq-or-lt_of_le}
use native.Mathlib.Numerals.{add-one}
use native.Mathlib.Decide.{le_ind, dec_lt}
use native.Mathlib.Omega.{arith}
use lib.Dec.{ltb}
use borrow.Author.Tests.{ltb-true, lt-ltb}
use Rattle.laws.specs.Bools.{one}
use Rattle.laws.specs.Range.{any_to, count_to}
use Rattle.laws.proofs.Bools.{false_of, case_bool, bool_same, not_is_true, and_both, one_true, one_false, one_le, one_le_one, one_not, one_split}
use Rattle.laws.proofs.All.{any_of, any_witness}

module _ (p : ℕ → Bool) where
  pub count_none : (n : ℕ) → ((i : ℕ) → i < n → p i ≡ false) → count_to p n ≡ 0
  unfolding count_to
  count_none zero h = refl
  count_none (suc n) h =
      let r = count_none n (λ i l. h i (le_step l)) in
      let o = one_false (h n (lt-suc_self n)) in
      omega arith

  pub count_le_bound : (n : ℕ) → count_to p n ≤ n
  unfolding count_to
  count_le_bound zero = omega arith
  count_le_bound (suc n) = omega (arith, count_le_bound n, one_le (p n))

  pub count_suc : (n : ℕ) → count_to p (suc n) ≡ count_to p n + one (p n)
  unfolding count_to
  count_suc n = refl

  pub count_step : (i : ℕ) → count_to p (i + 1) ≡ count_to p i + one (p i)
  unfolding count_to
  count_step i = rw add-one

  pub count_hit : (i : ℕ) → p i ≡ true → count_to p (i + 1) ≡ count_to p i + 1
  count_hit i t = count_step i ∙ ap (λ k. count_to p i + k) (one_true t)

  pub count_miss : (i : ℕ) → p i ≡ false → count_to p (i + 1) ≡ count_to p i
  count_miss i f = omega (arith, count_step i, one_false f)

  -- a larger bound counts no less
  pub count_more : {m n : ℕ} → m ≤ n → count_to p m ≤ count_to p n
  unfolding count_to
  count_more {m} {n} h = le_ind (λ k. count_to p m ≤ count_to p k) (le_refl (count_to p m)) (λ k l r. omega arith) n h

  pub count_zero_at : (n : ℕ) → count_to p n ≡ 0 → (i : ℕ) → i < n → p i ≡ false
  count_zero_at n z i l = false_of λ t. let o = one_true t in let m = count_more l in let s = count_suc i in omega arith

  pub count_pos_of : (n i : ℕ) → i < n → p i ≡ true → 0 < count_to p n
  count_pos_of n i l t = let o = one_true t in let m = count_more l in let s = count_suc i in omega arith

  pub count_witness : (n : ℕ) → 0 < count_to p n → (i : ℕ) × (i < n) × (p i ≡ true)
  unfolding count_to
  count_witness zero h = absurd (omega arith)
  count_witness (suc n) h =
      case_bool (p n) (λ t. (n, lt-suc_self n, t)) λ f.
      let o = one_false f in
      let w = count_witness n (omega arith) in
      (w.0, le_step w.1, w.2)

  pub count_any : (n : ℕ) → any_to p n ≡ ltb 0 (count_to p n)
  count_any n =
      bool_same
      (λ h. let w = any_witness p n h in lt-ltb 0 (count_to p n) (count_pos_of n w.0 w.1 w.2))
      (λ h. let w = count_witness n (ltb-true 0 (count_to p n) h) in any_of p n w.0 w.1 w.2)

  -- the numbers that pass and those that do not
  pub count_not : (n : ℕ) → count_to p n + count_to (λ i. not (p i)) n ≡ n
  unfolding count_to
  count_not zero = refl
  count_not (suc n) = omega (arith, count_not n, one_not (p n))

module _ (p q : ℕ → Bool) where
  pub count_same : (n : ℕ) → ((i : ℕ) → i < n → p i ≡ q i) → count_to p n ≡ count_to q n
  unfolding count_to
  count_same zero h = refl
  count_same (suc n) h = ap₂ ◌+◌ (count_same n λ i l. h i (le_step l)) (ap one (h n (lt-suc_self n)))

  pub count_le : (n : ℕ) → ((i : ℕ) → i < n → p i ≡ true → q i ≡ true) → count_to p n ≤ count_to q n
  unfolding count_to
  count_le zero h = omega arith
  count_le (suc n) h = omega (arith, count_le n (λ i l. h i (le_step l)), one_le_one (p n) (q n) (h n (lt-suc_self n)))

  -- the tests agree but for one number
  pub count_change : (n i : ℕ) → i < n → ((j : ℕ) → j < n → j ≢ i → p j ≡ q j) → count_to q n + one (p i) ≡ count_to p n + one (q i)
  unfolding count_to
  count_change zero i l h = absurd (not-suc-le-zero l)
  count_change (suc n) i l h =
      ⊎_elim
      (λ e. let s = count_same n (λ j k. h j (le_step k) (omega arith)) in rw e (omega arith))
      (λ k. let r = count_change n i k (λ j m. h j (le_step m)) in let s = ap one (h n (lt-suc_self n) (omega arith)) in omega arith)
      (eq-or-lt_of_le (le_of_suc-le-suc l))

  pub count_lose : (n i : ℕ) → i < n → ((j : ℕ) → j < n → j ≢ i → p j ≡ q j) → p i ≡ true → q i ≡ false → count_to p n ≡ suc (count_to q n)
  count_lose n i l h t f = omega (arith, count_change n i l h, one_true t, one_false f)

  pub count_split : (n : ℕ) → count_to p n ≡ count_to (λ i. p i && q i) n + count_to (λ i. p i && not (q i)) n
  unfolding count_to
  count_split zero = refl
  count_split (suc n) = omega (arith, count_split n, one_split (p n) (q n))

-- p implies q, and q holds once more
pub count_lt_of : (p q : ℕ → Bool) (n : ℕ) → ((i : ℕ) → i < n → p i ≡ true → q i ≡ true) → (i : ℕ) → i < n → p i ≡ false → q i ≡ true → count_to p n < count_to q n
count_lt_of p q n h i l f t =
    let s = count_split q p n in
    let a = count_le p (λ j. q j && p j) n (λ j k e. and_both (h j k e) e) in
    let b = count_pos_of (λ j. q j && not (p j)) n i l (and_both t (not_is_true f)) in
    omega arith

pub count_lt_bound : (p : ℕ → Bool) (n i : ℕ) → i < n → p i ≡ false → count_to p n < n
count_lt_bound p n i l f = omega (arith, count_not p n, count_pos_of (λ j. not (p j)) n i l (not_is_true f))

-- of the numbers that pass, no two have as many below them
pub count_injective : (p : ℕ → Bool) {i j : ℕ} → p i ≡ true → p j ≡ true → count_to p i ≡ count_to p j → i ≡ j
count_injective p {i} {j} s t e =
    elim (dec_lt i j) [
      | yes l ↦ absurd (omega (arith, count_suc p i, count_more p l, one_true s))
      | no l ↦ elim (dec_lt j i) [ yes k ↦ absurd (omega (arith, count_suc p j, count_more p k, one_true t)) | no k ↦ omega arith ]
    ]
