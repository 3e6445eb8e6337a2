-- A list that a pass builds in an array: what it wrote, and zeros behind that.
use Prim.Native.Nat.{ℕ, ◌+◌, ◌≤◌, ◌<◌}
use mathlib.Core.Bool.{Bool, true, false}
use mathlib.Core.Path.{◌≡◌, sym, ap, ◌∙◌}
use mathlib.Core.List.{List, [], ◌∷◌, ◌++◌}
use native.Mathlib.Numerals.{add-one}
use native.Mathlib.Omega.{arith}
use lib.ListN.{length, get_or, take, set}
use lib.Seq.{take-suc, length-take-le}
use Rattle.laws.specs.Sequence.{keep, padded}
use Rattle.laws.proofs.Bools.{if_true, if_false}
use Rattle.laws.proofs.Front.{length_snoc}
use Rattle.laws.proofs.Sequence.{set_padded_end}
use Rattle.laws.proofs.Keep.{length_keep_le}
use Rattle.laws.proofs.Index.{keep_take}

-- one more is written behind what was
module _ (n : ℕ) (l : List ℕ) {a : List ℕ} {m : ℕ} (x : ℕ) where
  pub put_at : a ≡ padded n l → m ≡ length l → m < n → set a m x ≡ padded n (l ++ (x ∷ []))
  put_at e k h = rw (e, k) (set_padded_end n l x (rw (← k) h))

-- a pass that copies
module _ (n : ℕ) (l : List ℕ) (i : ℕ) (a : List ℕ) where
  pub copy_step : a ≡ padded n (take i l) → i < length l → i < n → set a i (get_or l i 0) ≡ padded n (take (i + 1) l)
  copy_step e h k =
      let w : length (take i l) ≡ i = length-take-le i l (omega arith) in
      rw (add-one, take-suc l i 0) (put_at n (take i l) (get_or l i 0) e (sym w) k)

-- a pass that keeps what a test says
module _ (p : ℕ → Bool) (l : List ℕ) (i : ℕ) where
  pub length_keep_take : i ≤ length l → length (keep p (take i l)) ≤ i
  length_keep_take h = omega (arith, length_keep_le p (take i l), length-take-le i l h)

  pub keep_more : i < length l → p (get_or l i 0) ≡ true → keep p (take (i + 1) l) ≡ keep p (take i l) ++ (get_or l i 0 ∷ [])
  keep_more h t = rw add-one (keep_take p l 0 i h ∙ if_true _ _ t)

  pub keep_fewer : i < length l → p (get_or l i 0) ≡ false → keep p (take (i + 1) l) ≡ keep p (take i l)
  keep_fewer h f = rw add-one (keep_take p l 0 i h ∙ if_false _ _ f)

  module _ (size : ℕ) {a b : List ℕ} {m k : ℕ} (h : i < length l) where
    pub keep_put :
        a ≡ padded size (keep p (take i l))
        → m ≡ length (keep p (take i l))
        → i < size
        → p (get_or l i 0) ≡ true
        → b ≡ set a m (get_or l i 0)
        → k ≡ m + 1
        → (b ≡ padded size (keep p (take (i + 1) l))) × (k ≡ length (keep p (take (i + 1) l)))
    keep_put e f g t wrote more =
        let r = keep_more h t in
        let room : m < size = omega (arith, length_keep_take (omega arith)) in (
          wrote ∙ put_at size (keep p (take i l)) (get_or l i 0) e f room ∙ ap (padded size) (sym r),
          more ∙ ap (λ x. x + 1) f ∙ sym (length_snoc (keep p (take i l)) (get_or l i 0)) ∙ ap length (sym r),
        )

    pub keep_skip :
        a ≡ padded size (keep p (take i l))
        → m ≡ length (keep p (take i l))
        → p (get_or l i 0) ≡ false
        → b ≡ a
        → k ≡ m
        → (b ≡ padded size (keep p (take (i + 1) l))) × (k ≡ length (keep p (take (i + 1) l)))
    keep_skip e f t wrote more =
        let r = keep_fewer h t in
        (wrote ∙ e ∙ ap (padded size) (sym r), more ∙ f ∙ ap length (sym r))
