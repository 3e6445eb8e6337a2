-- Where a chain of links leads.
use Rattle.std.specs.Prelude.{ℕ, zero, suc, Bool, true, ◌&&◌, ltb}
use Rattle.rules.specs.Sizes.{max_jobs}

-- each of the first n elements of the chain is a job number
unfoldable pub leads_inside : (ℕ → ℕ) → ℕ → ℕ → Bool
leads_inside next zero link = true
leads_inside next (suc n) zero = true
leads_inside next (suc n) (suc x) = ltb x max_jobs && leads_inside next n (next x)
