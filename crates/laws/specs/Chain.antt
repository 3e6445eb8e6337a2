-- Chains of links. A link is a number: 0 leads nowhere, suc x leads to x, and next x is the link that x has.
use Rattle.std.specs.Prelude.{ℕ, zero, suc, Bool, true, false}
use Rattle.laws.specs.Bools.{when◌then◌else◌}

module _ {ℓ} {A : Type ℓ} where
  -- the step is taken at each element of the chain in turn, at most n of them
  unfoldable pub along_chain : (ℕ → ℕ) → (ℕ → A → A) → ℕ → ℕ → A → A
  along_chain next step zero link a = a
  along_chain next step (suc n) zero a = a
  along_chain next step (suc n) (suc x) a = along_chain next step n (next x) (step x a)

-- the chain ends within n elements
unfoldable pub ends_in : (ℕ → ℕ) → ℕ → ℕ → Bool
ends_in next zero zero = true
ends_in next zero (suc x) = false
ends_in next (suc n) zero = true
ends_in next (suc n) (suc x) = ends_in next n (next x)

-- the link to the first element of the chain, among its first n, that passes the test; 0 where there is none
unfoldable pub first_along : (ℕ → Bool) → (ℕ → ℕ) → ℕ → ℕ → ℕ
first_along p next zero link = 0
first_along p next (suc n) zero = 0
first_along p next (suc n) (suc x) = when p x then suc x else first_along p next n (next x)
