-- A chain of names ends: depth falls along it, and some row names nobody.
use Prim.Native.Nat.{ℕ, zero, suc, ◌<◌}
use mathlib.Core.Path.{◌≡◌, refl}
use mathlib.Core.Bool.{true}
use native.Mathlib.Nat.{not-suc-le-zero}
use native.Mathlib.Omega.{arith}
use Rattle.laws.specs.Chain.{ends_in}
use Rattle.laws.proofs.Chain.{ends_zero}
use Rattle.laws.proofs.Sum.{sum_ones_miss}
use Rattle.ceiling.specs.Columns.{Columns, namers}
use Rattle.ceiling.proofs.Forest.{Forest}

module _ {cost : ℕ → ℕ} {g : Columns} (f : Forest cost g) where
  -- by the name that a row has: none, or a row less deep
  by_name : (P : ℕ → Type 0) (r : ℕ) → r < g.rows → P 0 → ((y : ℕ) → y < g.rows → g.depth r ≡ suc (g.depth y) → P (suc y)) → P (g.names r)
  by_name P r l none some = go (g.names r) refl
    where
      go : (k : ℕ) → g.names r ≡ k → P (g.names r)
      go zero e = rw e none
      go (suc y) e = let h = f.named r y l e in rw e (some y h.inside h.deeper)

  namers_miss : (r : ℕ) → r < g.rows → g.names r ≡ 0 → namers g < g.rows
  namers_miss r l e = sum_ones_miss _ g.rows r (λ i k. omega arith) l (rw e (omega arith))

  some_name_nobody : (d r : ℕ) → r < g.rows → g.depth r < d → namers g < g.rows
  some_name_nobody zero r l h = omega arith
  some_name_nobody (suc d) r l h = by_name (λ k. g.names r ≡ k → namers g < g.rows) r l (namers_miss r l) (λ y i e _. some_name_nobody d y i (omega arith)) refl

  pub chain_ends : (n y : ℕ) → y < g.rows → g.depth y < n → ends_in g.names n (suc y) ≡ true
  unfolding ends_in
  chain_ends zero y l h = absurd (not-suc-le-zero h)
  chain_ends (suc n) y l h = by_name (λ k. ends_in g.names n k ≡ true) y l (ends_zero _ n) (λ z i e. chain_ends n z i (omega arith))

  pub depth_below : (y : ℕ) → y < g.rows → g.depth y < g.rows
  depth_below y l = omega (arith, f.deep y l, some_name_nobody (suc (g.depth y)) y l (omega arith))
