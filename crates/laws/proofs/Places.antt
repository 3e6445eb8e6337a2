-- A column read by places, and with one place written.
use Prim.Native.Nat.{ℕ, zero, suc, ◌+◌, ◌<◌}
use mathlib.Core.Path.{◌≡◌, refl}
use mathlib.Core.Logic.{◌≢◌}
use mathlib.Core.List.{List, [], ◌∷◌}
use native.Mathlib.Nat.{not-suc-le-zero, le_of_suc-le-suc}
use native.Mathlib.Decide.{ℕ_discrete}
use native.Mathlib.Omega.{arith}
use lib.ListN.{length, get_or, set, replicate}
use lib.Seq.{get_or-set_same, get_or-set_other}

-- inside the column the default does not matter
pub get_d_default {ℓ} : {A : Type ℓ} (l : List A) (i : ℕ) (d e : A) → i < length l → get_or l i d ≡ get_or l i e
get_d_default [] i d e h = absurd (not-suc-le-zero h)
get_d_default (x ∷ l) zero d e h = refl
get_d_default (x ∷ l) (suc i) d e h = get_d_default l i d e (le_of_suc-le-suc h)

-- a column of the default alone, inside and past its end
pub get_or_repeated {ℓ} : {A : Type ℓ} (d : A) (n i : ℕ) → get_or (replicate n d) i d ≡ d
get_or_repeated d zero i = refl
get_or_repeated d (suc n) zero = refl
get_or_repeated d (suc n) (suc i) = get_or_repeated d n i

-- what holds of the new element, and of the old ones elsewhere, holds everywhere
pub set_all {ℓ κ} : {A : Type ℓ} (P : ℕ → A → Type κ) (l : List A) (i : ℕ) (v d : A) → i < length l → P i v → ((j : ℕ) → j ≢ i → P j (get_or l j d)) → (j : ℕ) → P j (get_or (set l i v) j d)
set_all P l i v d h here there j = elim (ℕ_discrete j i) [
  | yes e ↦ rw (e, get_or-set_same l i v d h) here
  | no ne ↦ rw (get_or-set_other l i j v d ne) (there j ne)
]

-- a column that holds f below i, with one more place written
pub set_more {ℓ} : {A : Type ℓ} (f : ℕ → A) (l : List A) (i : ℕ) (v d : A) → i < length l → ((k : ℕ) → k < i → get_or l k d ≡ f k) → v ≡ f i → (k : ℕ) → k < i + 1 → get_or (set l i v) k d ≡ f k
set_more f l i v d h old new = set_all (λ k x. k < i + 1 → x ≡ f k) l i v d h (λ m. new) (λ k ne m. old k (omega arith))
