-- The sizes of the numbers that the search compares.
use Prim.Native.Nat.{ℕ, ◌+◌, ◌-◌, ◌≤◌}
use mathlib.Core.Path.{◌≡◌}
use native.Mathlib.Omega.{arith}

-- from an arrival to the next second is the wait plus 1
pub age_is : (time a : ℕ) → a ≤ time → time + 1 - a ≡ time - a + 1
age_is time a l = omega arith

pub age_small : (time a : ℕ) → time ≤ 4294967295 → time + 1 - a ≤ 4294967296
age_small time a l = omega arith
