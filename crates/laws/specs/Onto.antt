-- Chains of links: what lies on a chain, and the chain of those that pass a test.
use Rattle.std.specs.Prelude.{ℕ, zero, suc, Bool, false, ◌||◌, eqb}
use Rattle.laws.specs.Chain.{first_along}

-- r is among the first n elements of the chain
unfoldable pub on_chain : (ℕ → ℕ) → ℕ → ℕ → ℕ → Bool
on_chain next zero link r = false
on_chain next (suc n) zero r = false
on_chain next (suc n) (suc x) r = eqb x r || on_chain next n (next x) r

-- the link of x to the nearest further along, among n, that passes the test
unfoldable pub near : (ℕ → Bool) → (ℕ → ℕ) → ℕ → ℕ → ℕ
near p next n x = first_along p next n (next x)
