-- Laws of holds_each_once.
use Prim.Native.Nat.{ℕ, zero, suc, ◌+◌, ◌≤◌, ◌<◌}
use mathlib.Core.Bool.{Bool, true, false, not, ◌&&◌}
use mathlib.Core.Path.{◌≡◌, refl, sym, ◌∙◌, ap}
use mathlib.Core.Logic.{◌≢◌}
use mathlib.Core.List.{List, [], ◌∷◌, ◌++◌}
use native.Mathlib.Nat.{le_step, le_trans, lt-suc_self, not-suc-le-zero}
use native.Mathlib.Omega.{arith}
use native.Mathlib.Decide.{ℕ_discrete}
use lib.Dec.{eqb, ltb}
use lib.ListN.{length}
use borrow.Author.Tests.{eqb-true, eq-eqb, ne_eqb, ltb-true, lt-ltb}
use Rattle.laws.specs.Bools.{one}
use Rattle.laws.specs.Range.{all_to, count_to}
use Rattle.laws.specs.Sequence.{keep, holds, times_in, every_in, move_before, holds_each_once}
use Rattle.laws.proofs.Bools.{true_not_false, false_of, case_bool, bool_same, and_both, and_left, and_right, one_true, one_false, one_le, one_positive, eqb_self}
use Rattle.laws.proofs.All.{all_at, all_from}
use Rattle.laws.proofs.Sequence.{holds_of_times, times_append, times_single, times_positive, times_zero, times_none, every_at, every_from}
use Rattle.laws.proofs.Keep.{keep_in, keep_passes, times_keep_true, times_keep_le, remove_lacks, remove_times_other, length_remove}
use Rattle.laws.proofs.Move.{times_move}

pub record EachOnce (p : ℕ → Bool) (n : ℕ) (l : List ℕ) : Type 0 where
  pub below : (x : ℕ) → holds x l ≡ true → x < n
  pub passes : (x : ℕ) → holds x l ≡ true → p x ≡ true
  pub once : (x : ℕ) → x < n → p x ≡ true → times_in x l ≡ 1

module _ {p : ℕ → Bool} {n : ℕ} {l : List ℕ} where
  pub once_out : EachOnce p n l → (x : ℕ) → p x ≡ false → times_in x l ≡ 0
  once_out r x f = times_zero x l (false_of λ k. true_not_false (r.passes x k) f)

  pub once_holds : EachOnce p n l → (x : ℕ) → x < n → p x ≡ true → holds x l ≡ true
  once_holds r x h t = holds_of_times x l (omega (arith, r.once x h t))

  -- all of it in one equation
  pub once_times : EachOnce p n l → (x : ℕ) → times_in x l ≡ one (ltb x n && p x)
  once_times r x =
      case_bool (ltb x n && p x)
      (λ t. r.once x (ltb-true x n (and_left (ltb x n) (p x) t)) (and_right (ltb x n) (p x) t) ∙ sym (one_true t))
      (λ f. times_zero x l (false_of λ k. true_not_false (and_both (lt-ltb x n (r.below x k)) (r.passes x k)) f) ∙ sym (one_false f))

  pub once_of_times : ((x : ℕ) → times_in x l ≡ one (ltb x n && p x)) → EachOnce p n l
  once_of_times h =
      record {
        below = λ x k. ltb-true x n (and_left (ltb x n) (p x) (inside x k));
        passes = λ x k. and_right (ltb x n) (p x) (inside x k);
        once = λ x k t. h x ∙ one_true (and_both (lt-ltb x n k) t);
      }
    where
      inside : (x : ℕ) → holds x l ≡ true → ltb x n && p x ≡ true
      inside x k = one_positive (ltb x n && p x) (rw (← h x) (times_positive x l k))

  pub once_le : EachOnce p n l → (x : ℕ) → times_in x l ≤ 1
  once_le r x = omega (arith, once_times r x, one_le (ltb x n && p x))

module _ (p : ℕ → Bool) (n : ℕ) (l : List ℕ) where
  pub once_facts : holds_each_once p n l ≡ true → EachOnce p n l
  unfolding holds_each_once
  once_facts h =
      record {
        below = λ x k. ltb-true x n (and_left (ltb x n) (p x) (inside x k));
        passes = λ x k. and_right (ltb x n) (p x) (inside x k);
        once = λ x k t. eqb-true (times_in x l) (one (p x)) (all_at (λ x. eqb (times_in x l) (one (p x))) n (and_right every all h) x k) ∙ one_true t;
      }
    where
      every : Bool
      every = every_in (λ x. ltb x n && p x) l

      all : Bool
      all = all_to (λ x. eqb (times_in x l) (one (p x))) n

      inside : (x : ℕ) → holds x l ≡ true → ltb x n && p x ≡ true
      inside = every_at (λ x. ltb x n && p x) l (and_left every all h)

  pub once_of : EachOnce p n l → holds_each_once p n l ≡ true
  unfolding holds_each_once
  once_of r =
      and_both
      (every_from (λ x. ltb x n && p x) l λ x k. and_both (lt-ltb x n (r.below x k)) (r.passes x k))
      (all_from (λ x. eqb (times_in x l) (one (p x))) n λ x k.
      eq-eqb (times_in x l) (one (p x)) (once_times r x ∙ ap (λ b. one (b && p x)) (lt-ltb x n k)))

-- the order does not matter
pub once_same_times : {p : ℕ → Bool} {n : ℕ} {l : List ℕ} (m : List ℕ) → EachOnce p n l → ((x : ℕ) → times_in x m ≡ times_in x l) → EachOnce p n m
once_same_times m r h = once_of_times λ x. h x ∙ once_times r x

pub once_move : {p : ℕ → Bool} {n : ℕ} {l : List ℕ} (x y : ℕ) → EachOnce p n l → x ≢ y → holds x l ≡ true → holds y l ≡ true → EachOnce p n (move_before x y l)
once_move {l = l} x y r ne hx hy = once_same_times (move_before x y l) r (times_move x y l ne (r.once x (r.below x hx) (r.passes x hx)) hy)

pub once_keep : {p : ℕ → Bool} {n : ℕ} {l : List ℕ} (q : ℕ → Bool) → EachOnce p n l → EachOnce (λ x. p x && q x) n (keep q l)
once_keep {p} {n} {l} q r =
    record {
      below = λ x k. r.below x (keep_in q x l k);
      passes = λ x k. and_both (r.passes x (keep_in q x l k)) (keep_passes q x l k);
      once = λ x k t. times_keep_true q x l (and_right (p x) (q x) t) ∙ r.once x k (and_left (p x) (q x) t);
    }

module _ {p : ℕ → Bool} (q : ℕ → Bool) {n : ℕ} {l : List ℕ} where
  pub once_same : EachOnce p n l → ((x : ℕ) → x < n → p x ≡ q x) → EachOnce q n l
  once_same r h =
      record {
        below = r.below;
        passes = λ x k. sym (h x (r.below x k)) ∙ r.passes x k;
        once = λ x k t. r.once x k (h x k ∙ t);
      }

  -- a list that has one x more, where the test changes at x
  pub once_more : (m : List ℕ) (x : ℕ) → EachOnce p n l → x < n → p x ≡ false → q x ≡ true → ((z : ℕ) → z < n → z ≢ x → p z ≡ q z)
      → ((z : ℕ) → times_in z m ≡ one (eqb z x) + times_in z l) → EachOnce q n m
  once_more m x r k f t same h =
      once_of_times λ z. elim (ℕ_discrete z x) [
        | yes e ↦ rw e (omega (arith, h x, one_true (eqb_self x), once_out r x f, one_true (and_both (lt-ltb x n k) t)))
        | no ne ↦ omega (arith, h z, one_false (ne_eqb z x ne), once_times r z, ap one (under z ne))
      ]
    where
      under : (z : ℕ) → z ≢ x → ltb z n && p z ≡ ltb z n && q z
      under z ne = case_bool (ltb z n) (λ s. rw (same z (ltb-true z n s) ne)) (λ s. rw s)

  pub once_append : (x : ℕ) → EachOnce p n l → x < n → p x ≡ false → q x ≡ true → ((z : ℕ) → z < n → z ≢ x → p z ≡ q z) → EachOnce q n (l ++ (x ∷ []))
  once_append x r k f t same =
      once_more (l ++ (x ∷ [])) x r k f t same λ z. omega (arith, times_append z l (x ∷ []), times_single z x)

pub once_none : (p : ℕ → Bool) (n : ℕ) → ((x : ℕ) → x < n → p x ≡ false) → EachOnce p n []
unfolding holds
once_none p n h =
    record { below = λ x k. true_not_false k refl; passes = λ x k. true_not_false k refl; once = λ x k t. true_not_false t (h x k) }

-- its length

remove_below : (n : ℕ) (l : List ℕ) → ((x : ℕ) → holds x l ≡ true → x < suc n) → (x : ℕ) → holds x (keep (λ z. not (eqb z n)) l) ≡ true → x < n
remove_below n l h x k =
    let a = h x (keep_in (λ z. not (eqb z n)) x l k) in
    let b : x ≢ n = λ e. true_not_false (rw e at k) (remove_lacks n l) in
    omega arith

pub once_length : (p : ℕ → Bool) (n : ℕ) (l : List ℕ) → EachOnce p n l → length l ≡ count_to p n
unfolding count_to
once_length p zero l r = ap length (times_none l λ x. times_zero x l (false_of λ k. not-suc-le-zero (r.below x k)))
once_length p (suc n) l r =
    omega (
      arith,
      once_length p n (keep (λ z. not (eqb z n)) l) rest,
      length_remove n l,
      once_times r n,
      ap (λ b. one (b && p n)) (lt-ltb n (suc n) (lt-suc_self n)),
    )
  where
    rest : EachOnce p n (keep (λ z. not (eqb z n)) l)
    rest =
        record {
          below = remove_below n l r.below;
          passes = λ x k. r.passes x (keep_in (λ z. not (eqb z n)) x l k);
          once = λ x k t. remove_times_other n x l (omega arith) ∙ r.once x (le_step k) t;
        }

-- a list of different numbers below b
pub distinct_length : (b : ℕ) (l : List ℕ) → ((x : ℕ) → times_in x l ≤ 1) → ((x : ℕ) → holds x l ≡ true → x < b) → length l ≤ b
distinct_length zero l h k = rw (times_none l (λ x. times_zero x l (false_of λ t. not-suc-le-zero (k x t)))) (omega arith)
distinct_length (suc b) l h k =
    omega (
      arith,
      distinct_length b (keep (λ z. not (eqb z b)) l) (λ x. le_trans (times_keep_le (λ z. not (eqb z b)) x l) (h x)) (remove_below b l k),
      length_remove b l,
      h b,
    )

-- of two tests that agree
pub each_once_same : (p q : ℕ → Bool) (n : ℕ) (l : List ℕ) → ((x : ℕ) → x < n → p x ≡ q x) → holds_each_once p n l ≡ holds_each_once q n l
each_once_same p q n l h =
    bool_same (λ t. once_of q n l (once_same q (once_facts p n l t) h)) (λ t. once_of p n l (once_same p (once_facts q n l t) (λ x b. sym (h x b))))
