-- Laws of along_chain, ends_in and first_along.
use Prim.Native.Nat.{ℕ, zero, suc, ◌≤◌, ◌<◌}
use mathlib.Core.Bool.{Bool, true, false}
use mathlib.Core.Path.{◌≡◌, refl, sym, ◌∙◌, ap, subst}
use native.Mathlib.Nat.{not-suc-le-zero, le_of_suc-le-suc, suc_inj, lt_of_lt_of_le, lt_trans, le_refl}
use native.Mathlib.Omega.{arith}
use lib.Dec.{ltb}
use borrow.Author.Tests.{ltb-true, lt-ltb, le-ltb}
use Rattle.laws.specs.Range.{count_to}
use Rattle.laws.specs.Chain.{along_chain, ends_in, first_along}
use Rattle.laws.proofs.Bools.{true_not_false, case_bool, if_true, if_false}
use Rattle.laws.proofs.Count.{count_lt_of, count_lt_bound}

-- a link leads nowhere or to an element
pub link_cases {ℓ} : (P : ℕ → Type ℓ) (k : ℕ) → P 0 → ((x : ℕ) → k ≡ suc x → P (suc x)) → P k
link_cases P zero z s = z
link_cases P (suc x) z s = s x refl

-- the chain ends

module _ (next : ℕ → ℕ) where
  pub ends_zero : (n : ℕ) → ends_in next n 0 ≡ true
  unfolding ends_in
  ends_zero zero = refl
  ends_zero (suc n) = refl

  pub ends_suc : (n x : ℕ) → ends_in next (suc n) (suc x) ≡ ends_in next n (next x)
  unfolding ends_in
  ends_suc n x = refl

  pub ends_more : (m n k : ℕ) → m ≤ n → ends_in next m k ≡ true → ends_in next n k ≡ true
  unfolding ends_in
  ends_more zero n zero h e = ends_zero n
  ends_more (suc m) n zero h e = ends_zero n
  ends_more zero n (suc x) h e = true_not_false e refl
  ends_more (suc m) zero (suc x) h e = absurd (not-suc-le-zero h)
  ends_more (suc m) (suc n) (suc x) h e = ends_more m n (next x) (le_of_suc-le-suc h) e

  -- ok is kept along the chain, and depth falls
  module _ (ok : ℕ → Type 0) (closed : (x y : ℕ) → ok x → next x ≡ suc y → ok y) where
    pub ends_falling : (depth : ℕ → ℕ) → ((x y : ℕ) → ok x → next x ≡ suc y → depth y < depth x) → (n x : ℕ) → ok x → depth x < n → ends_in next n (suc x) ≡ true
    unfolding ends_in
    ends_falling depth falls zero x o h = absurd (not-suc-le-zero h)
    ends_falling depth falls (suc n) x o h =
        link_cases (λ k. ends_in next n k ≡ true) (next x) (ends_zero n) λ y e.
        ends_falling depth falls n y (closed x y o e) (lt_of_lt_of_le (falls x y o e) (le_of_suc-le-suc h))

  -- the chain stays below n: it has at most n elements
  pub ends_below : (depth : ℕ → ℕ) (n : ℕ) → ((x y : ℕ) → x < n → next x ≡ suc y → y < n) → ((x y : ℕ) → x < n → next x ≡ suc y → depth y < depth x)
      → (x : ℕ) → x < n → ends_in next n (suc x) ≡ true
  ends_below depth n closed falls x h = ends_falling (λ x. x < n) closed (λ x. count_to (less x) n) rank n x h (count_lt_bound (less x) n x h (less_self x))
    where
      less : ℕ → ℕ → Bool
      less x z = ltb (depth z) (depth x)

      less_self : (x : ℕ) → less x x ≡ false
      less_self x = le-ltb (depth x) (depth x) (le_refl (depth x))

      rank : (x y : ℕ) → x < n → next x ≡ suc y → count_to (less y) n < count_to (less x) n
      rank x y h e =
          count_lt_of (less y) (less x) n
          (λ z k t. lt-ltb (depth z) (depth x) (lt_trans (ltb-true (depth z) (depth y) t) (falls x y h e)))
          y (closed x y h e) (less_self y) (lt-ltb (depth y) (depth x) (falls x y h e))

-- steps along the chain

module _ {ℓ} {A : Type ℓ} (next : ℕ → ℕ) (step : ℕ → A → A) where
  pub along_zero : (n : ℕ) (a : A) → along_chain next step n 0 a ≡ a
  unfolding along_chain
  along_zero zero a = refl
  along_zero (suc n) a = refl

  pub along_suc : (n x : ℕ) (a : A) → along_chain next step (suc n) (suc x) a ≡ along_chain next step n (next x) (step x a)
  unfolding along_chain
  along_suc n x a = refl

  -- more than the chain needs changes nothing
  pub along_enough : (m n k : ℕ) (a : A) → m ≤ n → ends_in next m k ≡ true → along_chain next step n k a ≡ along_chain next step m k a
  unfolding along_chain ends_in
  along_enough zero n zero a h e = along_zero n a ∙ sym (along_zero 0 a)
  along_enough (suc m) n zero a h e = along_zero n a ∙ sym (along_zero (suc m) a)
  along_enough zero n (suc x) a h e = true_not_false e refl
  along_enough (suc m) zero (suc x) a h e = absurd (not-suc-le-zero h)
  along_enough (suc m) (suc n) (suc x) a h e = along_enough m n (next x) (step x a) (le_of_suc-le-suc h) e

  -- what each step keeps holds at the end
  pub along_keeps {κ} : (ok : ℕ → Type 0) (P : A → Type κ) → ((x y : ℕ) → ok x → next x ≡ suc y → ok y) → ((x : ℕ) (a : A) → ok x → P a → P (step x a))
      → (n k : ℕ) (a : A) → ((x : ℕ) → k ≡ suc x → ok x) → P a → P (along_chain next step n k a)
  unfolding along_chain
  along_keeps ok P closed keeps zero k a o h = h
  along_keeps ok P closed keeps (suc n) zero a o h = h
  along_keeps ok P closed keeps (suc n) (suc x) a o h =
      along_keeps ok P closed keeps n (next x) (step x a) (λ y. closed x y (o x refl)) (keeps x a (o x refl) h)

-- two walks along one chain keep a relation that each pair of steps keeps
pub along_related {ℓ κ μ} : {A : Type ℓ} {B : Type κ} (R : A → B → Type μ) (next : ℕ → ℕ) (step : ℕ → A → A) (other : ℕ → B → B) (ok : ℕ → Type 0)
    → ((x y : ℕ) → ok x → next x ≡ suc y → ok y) → ((x : ℕ) (a : A) (b : B) → ok x → R a b → R (step x a) (other x b))
    → (n k : ℕ) (a : A) (b : B) → ((x : ℕ) → k ≡ suc x → ok x) → R a b → R (along_chain next step n k a) (along_chain next other n k b)
unfolding along_chain
along_related R next step other ok closed keeps zero k a b o h = h
along_related R next step other ok closed keeps (suc n) zero a b o h = h
along_related R next step other ok closed keeps (suc n) (suc x) a b o h =
    along_related R next step other ok closed keeps n (next x) (step x a) (other x b) (λ y. closed x y (o x refl)) (keeps x a b (o x refl) h)

-- the first along the chain

module _ (p : ℕ → Bool) (next : ℕ → ℕ) where
  pub first_along_zero : (n : ℕ) → first_along p next n 0 ≡ 0
  unfolding first_along
  first_along_zero zero = refl
  first_along_zero (suc n) = refl

  pub first_along_here : (n x : ℕ) → p x ≡ true → first_along p next (suc n) (suc x) ≡ suc x
  unfolding first_along
  first_along_here n x t = if_true (suc x) (first_along p next n (next x)) t

  pub first_along_next : (n x : ℕ) → p x ≡ false → first_along p next (suc n) (suc x) ≡ first_along p next n (next x)
  unfolding first_along
  first_along_next n x f = if_false (suc x) (first_along p next n (next x)) f

  pub first_along_enough : (m n k : ℕ) → m ≤ n → ends_in next m k ≡ true → first_along p next n k ≡ first_along p next m k
  unfolding first_along ends_in
  first_along_enough zero n zero h e = first_along_zero n ∙ sym (first_along_zero 0)
  first_along_enough (suc m) n zero h e = first_along_zero n ∙ sym (first_along_zero (suc m))
  first_along_enough zero n (suc x) h e = true_not_false e refl
  first_along_enough (suc m) zero (suc x) h e = absurd (not-suc-le-zero h)
  first_along_enough (suc m) (suc n) (suc x) h e = rw (first_along_enough m n (next x) (le_of_suc-le-suc h) e)

  -- what is found passes, and is ok if that is kept along the chain
  pub first_along_ok : (ok : ℕ → Type 0) → ((x y : ℕ) → ok x → next x ≡ suc y → ok y) → (n k : ℕ) → ((x : ℕ) → k ≡ suc x → ok x)
      → (x : ℕ) → first_along p next n k ≡ suc x → ok x × (p x ≡ true)
  unfolding first_along
  first_along_ok ok closed zero k o x e = absurd (omega arith)
  first_along_ok ok closed (suc n) zero o x e = absurd (omega arith)
  first_along_ok ok closed (suc n) (suc z) o x e =
      case_bool (p z)
      (λ t. let q = suc_inj (sym (first_along_here n z t) ∙ e) in (subst ok q (o z refl), rw (← q) t))
      (λ f. first_along_ok ok closed n (next z) (λ y. closed z y (o z refl)) x (sym (first_along_next n z f) ∙ e))

  pub first_along_passes : (n k x : ℕ) → first_along p next n k ≡ suc x → p x ≡ true
  first_along_passes n k x e = (first_along_ok (λ y. Unit {0}) (λ x y o e. tt) n k (λ x e. tt) x e).1

-- another next that agrees along the chain

module _ (next other : ℕ → ℕ) (ok : ℕ → Type 0) (closed : (x y : ℕ) → ok x → next x ≡ suc y → ok y) (same : (x : ℕ) → ok x → next x ≡ other x) where
  pub ends_same : (n k : ℕ) → ((x : ℕ) → k ≡ suc x → ok x) → ends_in next n k ≡ ends_in other n k
  unfolding ends_in
  ends_same zero zero o = refl
  ends_same zero (suc x) o = refl
  ends_same (suc n) zero o = refl
  ends_same (suc n) (suc x) o = ends_same n (next x) (λ y. closed x y (o x refl)) ∙ ap (ends_in other n) (same x (o x refl))

  pub along_same {ℓ} : {A : Type ℓ} (step : ℕ → A → A) (n k : ℕ) (a : A) → ((x : ℕ) → k ≡ suc x → ok x) → along_chain next step n k a ≡ along_chain other step n k a
  unfolding along_chain
  along_same step zero k a o = refl
  along_same step (suc n) zero a o = refl
  along_same step (suc n) (suc x) a o =
      along_same step n (next x) (step x a) (λ y. closed x y (o x refl)) ∙ ap (λ k. along_chain other step n k (step x a)) (same x (o x refl))

  pub first_along_same : (p : ℕ → Bool) (n k : ℕ) → ((x : ℕ) → k ≡ suc x → ok x) → first_along p next n k ≡ first_along p other n k
  unfolding first_along
  first_along_same p zero k o = refl
  first_along_same p (suc n) zero o = refl
  first_along_same p (suc n) (suc x) o = rw (first_along_same p n (next x) (λ y. closed x y (o x refl)), same x (o x refl))

-- another test that agrees along the chain
pub first_along_agree : (p q : ℕ → Bool) (next : ℕ → ℕ) (ok : ℕ → Type 0) → ((x y : ℕ) → ok x → next x ≡ suc y → ok y) → ((x : ℕ) → ok x → p x ≡ q x)
    → (n k : ℕ) → ((x : ℕ) → k ≡ suc x → ok x) → first_along p next n k ≡ first_along q next n k
unfolding first_along
first_along_agree p q next ok closed same zero k o = refl
first_along_agree p q next ok closed same (suc n) zero o = refl
first_along_agree p q next ok closed same (suc n) (suc x) o =
    rw (same x (o x refl), first_along_agree p q next ok closed same n (next x) (λ y. closed x y (o x refl)))
