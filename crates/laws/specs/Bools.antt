-- Choosing by a test.
use Rattle.std.specs.Prelude.{ℕ, Bool, true, false}

module _ {ℓ} {A : Type ℓ} where
  infixr 10 when◌then◌else◌
  unfoldable pub when◌then◌else◌ : Bool → A → A → A
  when true then x else y = x
  when false then x else y = y

-- 1 where the test holds, else 0
unfoldable pub one : Bool → ℕ
one true = 1
one false = 0
