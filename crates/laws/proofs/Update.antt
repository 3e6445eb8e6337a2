-- Columns with one place written.
use Prim.Native.Nat.{ℕ, suc, ◌+◌, ◌<◌}
use mathlib.Core.Path.{◌≡◌, refl, sym, subst}
use mathlib.Core.Logic.{◌≢◌}
use native.Mathlib.Decide.{ℕ_discrete}
use native.Mathlib.Omega.{arith}
use lib.Dec.{eqb}
use borrow.Author.Tests.{eq-eqb, ne_eqb}
use Rattle.laws.specs.Bools.{when◌then◌else◌, one}
use Rattle.laws.specs.Update.{upd}
use Rattle.laws.proofs.Bools.{if_true, if_false}

-- a statement on all numbers: at j, and at the others
pub at_or_off : (P : ℕ → Type 0) (j : ℕ) → P j → ((i : ℕ) → i ≢ j → P i) → (i : ℕ) → P i
at_or_off P j at off i = go (ℕ_discrete i j)
  where
    go : Dec (i ≡ j) → P i
    go (yes e) = subst P (sym e) at
    go (no h) = off i h

pub upd_same : (f : ℕ → ℕ) (j v : ℕ) → upd f j v j ≡ v
unfolding upd
upd_same f j v = if_true _ _ (eq-eqb j j refl)

pub upd_other : (f : ℕ → ℕ) (j v i : ℕ) → i ≢ j → upd f j v i ≡ f i
unfolding upd
upd_other f j v i h = if_false _ _ (ne_eqb i j h)

pub upd_below : (f : ℕ → ℕ) (j v i : ℕ) → i < j → upd f j v i ≡ f i
upd_below f j v i l = upd_other f j v i (omega arith)

pub upd_all : (P : ℕ → ℕ → Type 0) (f : ℕ → ℕ) (j v : ℕ) → P j v → ((i : ℕ) → i ≢ j → P i (f i)) → (i : ℕ) → P i (upd f j v i)
upd_all P f j v at off = at_or_off (λ i. P i (upd f j v i)) j (rw upd_same at) (λ i h. rw upd_other (off i h))

-- of two columns that agree
pub upd_agree_at : (f g : ℕ → ℕ) (j v i : ℕ) → f i ≡ g i → upd f j v i ≡ upd g j v i
unfolding upd
upd_agree_at f g j v i h = rw h

pub upd_agree : (f g : ℕ → ℕ) {j k v w : ℕ} → j ≡ k → v ≡ w → ((i : ℕ) → f i ≡ g i) → (i : ℕ) → upd f j v i ≡ upd g k w i
upd_agree f g {k = k} {w = w} p q h i = rw (p, q) (upd_agree_at f g k w i (h i))

-- one more at j
pub upd_suc : (f : ℕ → ℕ) (j i : ℕ) → upd f j (suc (f j)) i ≡ f i + one (eqb j i)
unfolding one
upd_suc f j = upd_all (λ i v. v ≡ f i + one (eqb j i)) f j (suc (f j)) (rw (eq-eqb j j refl) (omega arith)) (λ i h. rw (ne_eqb j i (λ e. h (sym e))) (omega arith))

-- k more at j
pub upd_add : (f : ℕ → ℕ) (j k i : ℕ) → upd f j (f j + k) i ≡ f i + (when eqb j i then k else 0)
unfolding when◌then◌else◌
upd_add f j k = upd_all (λ i v. v ≡ f i + (when eqb j i then k else 0)) f j (f j + k) (rw (eq-eqb j j refl)) (λ i h. rw (ne_eqb j i (λ e. h (sym e))) (omega arith))
