-- A quotient rounded up, as the library gives it, is the rules'.
use Rattle.std.proofs.Common.{ℕ, zero, suc, ◌≡◌, ◌+◌, ◌-◌, ◌*◌, ◌/◌, ◌%◌, ◌≤◌, refl, sym, ap, ◌∙◌, arith}
use Rattle.std.specs.Int.{div_ceil}
use Rattle.std.proofs.lemmas.Nat.{div-mul-add}
use Rattle.laws.specs.Fractions.{rounded_up}

pub ceil_is : (x y : ℕ) → 1 ≤ y → div_ceil x y ≡ rounded_up x y
ceil_is x y l = go (x % y) refl
  where
    go : (r : ℕ) → x % y ≡ r → div_ceil x y ≡ rounded_up x y
    go zero e =
        let s : x / y * y + (y - 1) ≡ x + y - 1 = omega arith in
        let q : x / y ≡ rounded_up x y = sym (div-mul-add (x / y) y (y - 1) (omega arith)) ∙ ap (λ n. n / y) s in
        omega (arith, q)
    go (suc r) e =
        let s : (x / y + 1) * y + r ≡ x + y - 1 = omega arith in
        let q : x / y + 1 ≡ rounded_up x y = sym (div-mul-add (x / y + 1) y r (omega arith)) ∙ ap (λ n. n / y) s in
        omega (arith, q)
