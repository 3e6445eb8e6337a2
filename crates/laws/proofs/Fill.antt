-- A list that is filled from its front with a table: the places below i hold f, the others what they held.
use Prim.Native.Nat.{ℕ, suc, ◌+◌, ◌≤◌, ◌<◌}
use mathlib.Core.Path.{◌≡◌, refl, sym, ◌∙◌}
use mathlib.Core.List.{List, ◌++◌, append_assoc, append-nil}
use native.Mathlib.Nat.{le_dest}
use native.Mathlib.Numerals.{add-one}
use native.Mathlib.Decide.{dec_lt}
use native.Mathlib.Omega.{arith}
use lib.ListN.{length, get_or, set, drop, length-append, length-drop, drop_of_length-le, get_or-append}
use lib.Seq.{set_at, drop-cons, get_or-drop, get_or-append-add}
use Rattle.laws.specs.Range.{table_to}
use Rattle.laws.proofs.Table.{length_table, get_or_table, table_is}

module _ {ℓ} {A : Type ℓ} (f : ℕ → A) where
  -- its length, what is not yet reached, one more place, the end
  pub length_fill : (l : List A) (i : ℕ) → i ≤ length l → length (table_to f i ++ drop i l) ≡ length l
  length_fill l i h = simp (length-append, length_table, length-drop) (omega arith)

  pub get_or_fill : (l : List A) (i j : ℕ) (d : A) → i ≤ j → get_or (table_to f i ++ drop i l) j d ≡ get_or l j d
  get_or_fill l i j d h =
      let w = le_dest h in
      rw (← w.1) (rw length_table at (get_or-append-add (table_to f i) (drop i l) w.0 d) ∙ get_or-drop i l w.0 d)

  pub table_drop : (l : List A) (i : ℕ) → i < length l → set (table_to f i ++ drop i l) i (f i) ≡ table_to f (suc i) ++ drop (suc i) l
  unfolding table_to
  table_drop l i h = rw (drop-cons l i (f i), append_assoc) (set_at (table_to f i) (get_or l i (f i)) (drop (suc i) l) (f i) i (length_table f i))

  pub table_drop_step : (l : List A) (i : ℕ) → i < length l → set (table_to f i ++ drop i l) i (f i) ≡ table_to f (i + 1) ++ drop (i + 1) l
  table_drop_step l i h = rw add-one (table_drop l i h)

  pub table_full : (l : List A) (n : ℕ) → length l ≤ n → table_to f n ++ drop n l ≡ table_to f n
  table_full l n h = rw (drop_of_length-le l {i = n}, append-nil)

-- the same of a list that the code holds: at the start, with one more place written, at the end
module _ {ℓ} {A : Type ℓ} (f : ℕ → A) (l : List A) where
  pub fill_none : l ≡ table_to f 0 ++ drop 0 l
  unfolding table_to
  fill_none = refl

  pub fill_more : (i : ℕ) {a : List A} {v : A} → i < length l → a ≡ table_to f i ++ drop i l → v ≡ f i → set a i v ≡ table_to f (i + 1) ++ drop (i + 1) l
  fill_more i h e k = rw (e, k) (table_drop_step f l i h)

  pub fill_all : (n : ℕ) {a : List A} → length l ≡ n → a ≡ table_to f n ++ drop n l → a ≡ table_to f n
  fill_all n h e = e ∙ table_full f l n (omega arith)

-- some elements are right as they are
module _ {ℓ} {A : Type ℓ} (f : ℕ → A) (z : A) (l : List A) where
  pub table_keep : (i : ℕ) → i < length l → f i ≡ get_or l i z → table_to f i ++ drop i l ≡ table_to f (suc i) ++ drop (suc i) l
  unfolding table_to
  table_keep i h e = rw (drop-cons l i z, append_assoc, e)

  -- from n on they all are
  pub table_rest : (n : ℕ) → n ≤ length l → ((i : ℕ) → n ≤ i → f i ≡ get_or l i z) → table_to f n ++ drop n l ≡ table_to f (length l)
  table_rest n h e = sym (table_is f z (table_to f n ++ drop n l) (length l) (length_fill f l n h) at_place)
    where
      at_place : (i : ℕ) → i < length l → get_or (table_to f n ++ drop n l) i z ≡ f i
      at_place i k = elim (dec_lt i n) [
        | yes p ↦ get_or-append (table_to f n) (drop n l) z i (rw length_table p) ∙ get_or_table f n i z p
        | no p ↦ get_or_fill f l n i z (omega arith) ∙ sym (e i (omega arith))
      ]
