-- Laws of if, one and the Boolean operations.
use Prim.Native.Nat.{ℕ, zero, suc, ◌+◌, ◌≤◌, ◌<◌}
use mathlib.Core.Bool.{Bool, true, false, not, ◌&&◌, ◌||◌, true≢false}
use mathlib.Core.Path.{◌≡◌, refl, sym, ◌∙◌, ap}
use mathlib.Core.Logic.{◌⊎◌, inl, inr}
use native.Mathlib.Omega.{arith}
use lib.Dec.{eqb}
use borrow.Author.Tests.{eqb-true, eq-eqb}
use Rattle.laws.specs.Bools.{when◌then◌else◌, one}

-- A test is true or false.

pub true_not_false {ℓ} : {P : Type ℓ} {b : Bool} → b ≡ true → b ≡ false → P
true_not_false t f = absurd (true≢false (sym t ∙ f))

pub case_bool {ℓ} : {P : Type ℓ} (b : Bool) → (b ≡ true → P) → (b ≡ false → P) → P
case_bool true t f = t refl
case_bool false t f = f refl

pub false_of : {b : Bool} → (b ≡ true → ⊥) → b ≡ false
false_of {b = true} h = absurd (h refl)
false_of {b = false} h = refl

pub true_of : {b : Bool} → (b ≡ false → ⊥) → b ≡ true
true_of {b = true} h = refl
true_of {b = false} h = absurd (h refl)

-- two tests are equal if each follows from the other
pub bool_same : {a b : Bool} → (a ≡ true → b ≡ true) → (b ≡ true → a ≡ true) → a ≡ b
bool_same {a = true} {b = true} h k = refl
bool_same {a = true} {b = false} h k = sym (h refl)
bool_same {a = false} {b = true} h k = k refl
bool_same {a = false} {b = false} h k = refl

-- Boolean operations. A negated test that is known is `not-true` and `not-false` of `borrow.Author.Tests`.

pub not_is_true : {b : Bool} → b ≡ false → not b ≡ true
not_is_true e = rw e

pub not_is_false : {b : Bool} → b ≡ true → not b ≡ false
not_is_false e = rw e

pub and_both : {a b : Bool} → a ≡ true → b ≡ true → a && b ≡ true
and_both h k = rw (h, k)

pub and_left : (a b : Bool) → a && b ≡ true → a ≡ true
and_left true b h = refl
and_left false b h = h

pub and_right : (a b : Bool) → a && b ≡ true → b ≡ true
and_right true b h = h
and_right false b h = true_not_false h refl

pub and_left_false : {a : Bool} (b : Bool) → a ≡ false → a && b ≡ false
and_left_false b h = rw h

pub and_right_false : (a : Bool) {b : Bool} → b ≡ false → a && b ≡ false
and_right_false true h = h
and_right_false false h = refl

pub and_false_cases : (a b : Bool) → a && b ≡ false → (a ≡ false) ⊎ (b ≡ false)
and_false_cases true b h = inr h
and_false_cases false b h = inl refl

pub or_left : {a : Bool} (b : Bool) → a ≡ true → a || b ≡ true
or_left b h = rw h

pub or_right : (a : Bool) {b : Bool} → b ≡ true → a || b ≡ true
or_right true h = refl
or_right false h = h

pub or_cases : (a b : Bool) → a || b ≡ true → (a ≡ true) ⊎ (b ≡ true)
or_cases true b h = inl refl
or_cases false b h = inr h

pub or_neither : {a b : Bool} → a ≡ false → b ≡ false → a || b ≡ false
or_neither h k = rw (h, k)

pub or_left_false : (a b : Bool) → a || b ≡ false → a ≡ false
or_left_false true b h = h
or_left_false false b h = refl

pub or_right_false : (a b : Bool) → a || b ≡ false → b ≡ false
or_right_false true b h = true_not_false refl h
or_right_false false b h = h

pub not_and : (a b : Bool) → not (a && b) ≡ not a || not b
not_and true b = refl
not_and false b = refl

-- if

module _ {ℓ} {A : Type ℓ} where
  pub if_true : {b : Bool} (x y : A) → b ≡ true → (when b then x else y) ≡ x
  unfolding when◌then◌else◌
  if_true x y e = rw e

  pub if_false : {b : Bool} (x y : A) → b ≡ false → (when b then x else y) ≡ y
  unfolding when◌then◌else◌
  if_false x y e = rw e

  pub if_same : (b : Bool) (x : A) → (when b then x else x) ≡ x
  unfolding when◌then◌else◌
  if_same true x = refl
  if_same false x = refl

  -- what holds in either case holds of the choice
  pub if_cases {κ} : (P : A → Type κ) (b : Bool) {x y : A} → (b ≡ true → P x) → (b ≡ false → P y) → P (when b then x else y)
  unfolding when◌then◌else◌
  if_cases P true t f = t refl
  if_cases P false t f = f refl

pub if_le : (b c : Bool) (x y : ℕ) → (b ≡ true → (c ≡ true) × (x ≤ y)) → (when b then x else 0) ≤ (when c then y else 0)
unfolding when◌then◌else◌
if_le true c x y h = rw (h refl).0 (h refl).1
if_le false c x y h = omega arith

-- two parts under two tests that agree wherever the second part counts
pub if_add : (b c : Bool) (x y : ℕ) → (1 ≤ y → b ≡ c) → (when b then x + y else 0) ≡ (when b then x else 0) + (when c then y else 0)
unfolding when◌then◌else◌
if_add b c x y h = both b ∙ ap (λ n. (when b then x else 0) + n) (same y h)
  where
    both : (b : Bool) → (when b then x + y else 0) ≡ (when b then x else 0) + (when b then y else 0)
    both true = refl
    both false = refl

    same : (y : ℕ) → (1 ≤ y → b ≡ c) → (when b then y else 0) ≡ (when c then y else 0)
    same zero h = if_same b 0 ∙ sym (if_same c 0)
    same (suc y) h = rw (h (omega arith))

-- one

pub one_within : (b : Bool) (k : ℕ) → (b ≡ true → 1 ≤ k) → one b ≤ k
unfolding one
one_within true k h = h refl
one_within false k h = omega arith

pub one_true : {b : Bool} → b ≡ true → one b ≡ 1
unfolding one
one_true e = rw e

pub one_false : {b : Bool} → b ≡ false → one b ≡ 0
unfolding one
one_false e = rw e

pub one_le : (b : Bool) → one b ≤ 1
unfolding one
one_le true = omega arith
one_le false = omega arith

pub one_positive : (b : Bool) → 0 < one b → b ≡ true
unfolding one
one_positive true h = refl
one_positive false h = absurd (omega arith)

pub one_zero : (b : Bool) → one b ≡ 0 → b ≡ false
one_zero b h = false_of λ t. let e = one_true t in omega arith

pub one_le_one : (a b : Bool) → (a ≡ true → b ≡ true) → one a ≤ one b
unfolding one
one_le_one true b h = rw (h refl) (omega arith)
one_le_one false b h = omega arith

pub one_not : (b : Bool) → one b + one (not b) ≡ 1
unfolding one
one_not true = refl
one_not false = refl

pub one_split : (a b : Bool) → one (a && b) + one (a && not b) ≡ one a
unfolding one
one_split true true = refl
one_split true false = refl
one_split false b = refl

-- equality of numbers as a test

pub eqb_self : (x : ℕ) → eqb x x ≡ true
eqb_self x = eq-eqb x x refl

pub eqb_sym : (x y : ℕ) → eqb x y ≡ eqb y x
eqb_sym x y = bool_same (λ e. eq-eqb y x (sym (eqb-true x y e))) (λ e. eq-eqb x y (sym (eqb-true y x e)))
