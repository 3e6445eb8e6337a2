-- The places of a new job's entries filled, column by column.
use Prim.Native.Nat.{ℕ, zero, suc, ◌+◌, ◌<◌}
use mathlib.Core.Path.{◌≡◌, refl, sym}
use mathlib.Core.List.{List}
use native.Mathlib.Nat.{le_step, lt-suc_self}
use lib.ListN.{set}
use Rattle.laws.specs.Range.{fold_to}
use Rattle.laws.proofs.Table.{fold_step}
use Rattle.rules.specs.State.{at}
use Rattle.rules.specs.Taking.{filled}

-- one turn of the pass
pub filled_more : (places : List ℕ) (f : ℕ → ℕ) (column : List ℕ) (i : ℕ)
    → set (filled places f i column) (at places i) (f i) ≡ filled places f (i + 1) column
unfolding filled
filled_more places f column i = sym (fold_step (λ i l. set l (at places i) (f i)) column i)

-- the same places, and the same values there
module _ (places chosen : List ℕ) (f g : ℕ → ℕ) (column : List ℕ) where
  pub filled_same :
      (n : ℕ)
      → ((i : ℕ) → i < n → at places i ≡ at chosen i)
      → ((i : ℕ) → i < n → f i ≡ g i)
      → filled places f n column ≡ filled chosen g n column
  unfolding filled fold_to
  filled_same zero h k = refl
  filled_same (suc n) h k = rw (filled_same n (λ i l. h i (le_step l)) (λ i l. k i (le_step l)), h n (lt-suc_self n), k n (lt-suc_self n))
