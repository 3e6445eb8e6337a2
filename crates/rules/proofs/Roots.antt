-- The roots of A6's third form: the definition is the greatest of all numbers, and one test of a number tells that it is the root.
use Prim.Native.Nat.{ℕ, ◌+◌, ◌*◌, ◌≤◌}
use mathlib.Core.Path.{◌≡◌}
use mathlib.Core.Bool.{Bool, true, ◌&&◌}
use native.Mathlib.Nat.{le_antisymm, mul-le-mul, mul-le-mul_left, mul-le-mul_right}
use native.Mathlib.Decide.{dec_lt}
use native.Mathlib.Omega.{arith}
use lib.Dec.{leb, ltb}
use borrow.Author.Tests.{leb-true, le-leb, ltb-true}
use Rattle.laws.proofs.Bools.{and_left, and_right}
use Rattle.laws.proofs.First.{greatest_le, greatest_holds, greatest_most}
use Rattle.rules.specs.Sizes.{U}
use Rattle.rules.specs.Windows.{root}
use Rattle.rules.specs.WideWindows.{RootHolds}

-- squares, N times each, rise with what is squared
squares_le : (N a b : ℕ) → a ≤ b → a * a * N ≤ b * b * N
squares_le N a b l = mul-le-mul_right N (mul-le-mul l l)

pub root_le_U : (N : ℕ) → root N ≤ U
unfolding root
root_le_U N = greatest_le (λ R. leb (R * R * N) (U * U)) U

pub root_holds : RootHolds
unfolding root
root_holds N some =
    let p : ℕ → Bool = λ R. leb (R * R * N) (U * U) in
    record {
      fits = leb-true (root N * root N * N) (U * U) (greatest_holds p U (le-leb (0 * 0 * N) (U * U) (omega arith)));
      greatest =
          λ r h.
          greatest_most p U r
          (elim (dec_lt U r) [
            | yes l ↦ absurd (omega (arith, squares_le N (U + 1) r (omega arith), mul-le-mul_left ((U + 1) * (U + 1)) some))
            | no l ↦ omega arith
          ])
          (le-leb (r * r * N) (U * U) h);
    }

-- the test: "R·R·N ≤ U·U", and R + 1 fails it
abbrev pub is_root : ℕ → ℕ → Bool
is_root N R = leb (R * R * N) (U * U) && ltb (U * U) ((R + 1) * (R + 1) * N)

pub root_is : (N R : ℕ) → 1 ≤ N → is_root N R ≡ true → root N ≡ R
root_is N R some t =
    let fits = leb-true (R * R * N) (U * U) (and_left _ (ltb (U * U) ((R + 1) * (R + 1) * N)) t) in
    let fails = ltb-true (U * U) ((R + 1) * (R + 1) * N) (and_right (leb (R * R * N) (U * U)) _ t) in
    let r = root_holds N some in
    le_antisymm
    (elim (dec_lt R (root N)) [
      | yes l ↦ absurd (omega (arith, squares_le N (R + 1) (root N) (omega arith), r.fits, fails))
      | no l ↦ omega arith
    ])
    (r.greatest R fits)
