-- The first number that passes a test, where there is one, and where there is none.
use Prim.Native.Nat.{ℕ, ◌<◌}
use mathlib.Core.Bool.{Bool, true, false}
use mathlib.Core.Path.{◌≡◌, refl}
use Rattle.std.specs.Prelude.{Some, None}
use native.Mathlib.Omega.{arith}
use lib.Dec.{ltb}
use borrow.Author.Tests.{lt-ltb, le-ltb}
use Rattle.laws.specs.Range.{first_to, first_below}
use Rattle.laws.proofs.Bools.{case_bool}
use Rattle.laws.proofs.First.{first_unique, first_none}

pub below_some : (p : ℕ → Bool) (n i : ℕ) → i < n → p i ≡ true → ((k : ℕ) → k < i → p k ≡ false) → Some i ≡ first_below p n
below_some p n i l t h = rw (first_unique p n i l t h, lt-ltb i n l) refl

pub below_none : (p : ℕ → Bool) (n : ℕ) → ((k : ℕ) → k < n → p k ≡ false) → None ≡ first_below p n
below_none p n h = rw (first_none p n h, le-ltb n n (omega arith)) refl

-- what such an answer says

pub below_is : (p : ℕ → Bool) (n i : ℕ) → Some i ≡ first_below p n → i ≡ first_to p n
below_is p n i e = case_bool (ltb (first_to p n) n) (λ t. let q = rw t at e in cc) (λ f. let q = rw f at e in cc)

pub below_found : (p : ℕ → Bool) (n : ℕ) → None ≡ first_below p n → first_to p n < n → ⊥
below_found p n e l = let q = rw (lt-ltb (first_to p n) n l) at e in cc
