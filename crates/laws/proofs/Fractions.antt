-- Fractions compared by products; division rounded up.
use Prim.Native.Nat.{ℕ, suc, ◌+◌, ◌-◌, ◌*◌, ◌≤◌, ◌<◌}
use native.Mathlib.Nat.{lt-suc_self, le_of_suc-le-suc, mul-le-mul_right, lt_of_mul-lt-mul_right, mul_right_comm, suc-mul, div-mul-le_self, le-div_iff_mul-le, div-lt_iff_lt-mul}
use native.Mathlib.Decide.{dec_lt}
use native.Mathlib.Omega.{arith}
use Rattle.laws.specs.Fractions.{rounded_up}

-- k/wk is at most b/wb, which is less than x/wx
pub fraction_less : (k b x wk wb wx : ℕ) → 1 ≤ wk → k * wb ≤ b * wk → b * wx < x * wb → k * wx < x * wk
fraction_less k b x wk wb wx one h l = elim (dec_lt (k * wx) (x * wk)) [
  | yes t ↦ t
  | no t ↦
      let f : x * wk ≤ k * wx = omega arith in
      absurd
      (omega (
        arith,
        mul-le-mul_right wx h,
        mul-le-mul_right wk l,
        mul-le-mul_right wb f,
        suc-mul (b * wx) wk,
        mul_right_comm k wb wx,
        mul_right_comm b wk wx,
        mul_right_comm x wb wk,
      ))
]

-- a/b rounded up is the least number whose b-fold reaches a
module _ (a b : ℕ) (some : 1 ≤ b) where
  pub rounded_up_reaches : a ≤ rounded_up a b * b
  rounded_up_reaches =
      let n = rounded_up a b in
      omega (arith, (div-lt_iff_lt-mul {k = b} {x = a + b - 1} {y = suc n} some).0 (lt-suc_self n), suc-mul n b)

  pub rounded_up_least : rounded_up a b * b < a + b
  rounded_up_least = omega (arith, div-mul-le_self (a + b - 1) b)

-- a/b rounded up is at most c where a is at most c times b, and at least 1 where a is
pub rounded_up_bound : (a b c : ℕ) → 1 ≤ b → a ≤ c * b → rounded_up a b ≤ c
rounded_up_bound a b c some l =
    le_of_suc-le-suc (lt_of_mul-lt-mul_right b {m = rounded_up a b} {n = suc c} (omega (arith, rounded_up_least a b some, suc-mul c b)))

pub rounded_up_le : (a c b : ℕ) → 1 ≤ b → a ≤ c → rounded_up a b ≤ rounded_up c b
rounded_up_le a c b some l = rounded_up_bound a b (rounded_up c b) some (omega (arith, rounded_up_reaches c b some))

pub rounded_up_some : (a b : ℕ) → 1 ≤ b → 1 ≤ a → 1 ≤ rounded_up a b
rounded_up_some a b some l = (le-div_iff_mul-le {k = b} {x = 1} {y = a + b - 1} some).1 (omega arith)
