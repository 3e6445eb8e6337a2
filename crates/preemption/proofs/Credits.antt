-- The slot credit as a signed number, and the sizes of the products that preemption compares.
use Prim.Native.Nat.{ℕ, zero, suc, ◌+◌, ◌-◌, ◌*◌, ◌/◌, ◌≤◌, ◌<◌, ◌^◌}
use mathlib.Core.Bool.{Bool, true, false, cond}
use mathlib.Core.Path.{◌≡◌, refl, sym, ◌∙◌, ap, ap₂, subst}
use native.Mathlib.Nat.{lt_of_le_of_lt, mul-le-mul, div-le_self, le_of_lt, sub-le}
use native.Mathlib.Omega.{arith}
use lib.Dec.{T, ltb, lit<}
use lib.IntN.{ℤ, pos, negsuc, nat_abs, ◌-ℤ◌}
use lib.Signed.{le_z, non_neg}
use mir.Syntax.{w64}
use mir.Val.{Fits, SFits, to_z, of_z}
use mir.Facts.{Fits-nat_abs, to_z-of_z}
use mir.ValLaws.{to_z_pos}
use Rattle.rules.specs.Preemption.{has_credit, owned}

small : (n : ℕ) → n ≤ 65536 → n < 2 ^ 63
small n h = lt_of_le_of_lt h (lit< tt)

small_fits : (n : ℕ) → n ≤ 7000000 → n < 2 ^ 64
small_fits n h = lt_of_le_of_lt h (lit< tt)

-- a difference of small numbers fits
diff_fits : (s p : ℕ) → s ≤ 65536 → p ≤ 65536 → SFits w64 (pos s -ℤ pos p)
diff_fits s zero hs hp = record { sfits = small (s + 0) (omega arith) }
diff_fits s (suc n) hs hp = go (ltb s (suc n))
  where
    go : (b : Bool) → SFits w64 (cond b (negsuc (suc n - suc s)) (pos (s - suc n)))
    go true = record { sfits = small (suc n - suc s) (omega arith) }
    go false = record { sfits = small (s - suc n) (omega arith) }

-- z reads as s
module _ (s p : ℕ) (hs : s ≤ 65536) (hp : p ≤ 65536) (z : ℤ) (is : z ≡ pos s) where
  reads : to_z w64 (of_z w64 z) -ℤ to_z w64 p ≡ pos s -ℤ pos p
  reads =
      let kept : to_z w64 (of_z w64 (pos s)) ≡ pos s = to_z-of_z {w = w64} (record { sfits = small s hs }) in
      ap₂ (λ a b. a -ℤ b) (ap (λ a. to_z w64 (of_z w64 a)) is ∙ kept) (to_z_pos w64 p (lt_of_le_of_lt hp (lit< tt)))

  pub credit_fits : SFits w64 (to_z w64 (of_z w64 z) -ℤ to_z w64 p)
  credit_fits = subst (λ a. SFits w64 a) (sym reads) (diff_fits s p hs hp)

  pub credit_is : to_z w64 (of_z w64 (to_z w64 (of_z w64 z) -ℤ to_z w64 p)) ≡ pos s -ℤ pos p
  credit_is = to_z-of_z credit_fits ∙ reads

-- a signed local z reads as the number a

pub has_credit_is : (z a : ℤ) → z ≡ a → le_z (pos 1) z ≡ has_credit a
unfolding has_credit
has_credit_is z (pos n) e = ap (le_z (pos 1)) e
has_credit_is z (negsuc n) e = ap (le_z (pos 1)) e

pub owned_fits : (z a : ℤ) → z ≡ a → SFits w64 a → has_credit a ≡ true → T (non_neg z) × Fits w64 (nat_abs z)
unfolding has_credit
owned_fits z (pos n) e f h = subst (λ x. T (non_neg x) × Fits w64 (nat_abs x)) (sym e) (tt, Fits-nat_abs tt f)
owned_fits z (negsuc n) e f h = absurd (bad h)
  where
    bad : ◌≡◌ {A = Bool} false true → ⊥
    bad q = subst (λ b. T (cond b false true)) q tt

pub owned_is : (z a : ℤ) → z ≡ a → has_credit a ≡ true → nat_abs z ≡ owned a
unfolding has_credit owned
owned_is z (pos n) e h = ap nat_abs e
owned_is z (negsuc n) e h = absurd (subst (λ b. T (cond b false true)) h tt)

-- sizes

pub price_fits : (m d : ℕ) → m < 65536 → Fits w64 (m * (100 - d))
price_fits m d hm = record { fits = lt_of_le_of_lt (mul-le-mul (le_of_lt hm) (sub-le 100 d)) (lit< tt) }

pub worth_fits : (a c l : ℕ) → a ≤ 65536 → l ≤ 100 → Fits w64 (a / c + l) × Fits w64 (100 * (a / c + l))
worth_fits a c l ha hl =
    let q = div-le_self a c in (
      record { fits = small_fits (a / c + l) (omega (arith, q)) },
      record { fits = small_fits (100 * (a / c + l)) (omega (arith, q)) },
    )

-- plain steps, so that a proof does not search its whole record for them

pub positive : (k : ℕ) → (k ≡ 0 → ⊥) → 1 ≤ k
positive zero ne = absurd (ne refl)
positive (suc x) ne = omega arith

pub sum_fits : (m a : ℕ) → m < 65536 → a ≤ 65536 → Fits w64 (m + a)
sum_fits m a l k = record { fits = small_fits (m + a) (omega arith) }
