-- The places of an answer: the first two, and behind them the values with their zeros.
use Prim.Native.Nat.{ℕ, suc, ◌-◌, ◌≤◌}
use mathlib.Core.Path.{◌≡◌, ◌∙◌, ap}
use mathlib.Core.List.{List, [], ◌∷◌, ◌++◌, append-nil}
use native.Mathlib.Omega.{arith}
use lib.ListN.{length, get_or, set, length-set, drop_of_length-le}
use borrow.Rule.Slice.PartMut.{put_mid, mid_of, same_len_mid, mid_len}
use Rattle.laws.specs.Range.{table_to}
use Rattle.laws.specs.Sequence.{padded}
use Rattle.laws.proofs.Table.{table_is}
use Rattle.laws.proofs.Sequence.{length_padded, get_or_padded}
use Rattle.layout.specs.Layout.{row_values, row_length}

-- a table of a list's places is the list with its zeros
pub table_padded : (n : ℕ) (vs : List ℕ) → length vs ≤ n → table_to (λ i. get_or vs i 0) n ≡ padded n vs
table_padded n vs h = table_is (λ i. get_or vs i 0) 0 (padded n vs) n (length_padded n vs h) (λ i l. get_or_padded n vs i)

behind_two : (l : List ℕ) (r n : ℕ) (z : List ℕ) → 2 ≤ length l → put_mid 2 (length (set (set l 0 r) 1 n) - 2) (set (set l 0 r) 1 n) z ≡ r ∷ n ∷ z
behind_two [] r n z h = absurd (omega (arith, h))
behind_two (_ ∷ []) r n z h = absurd (omega (arith, h))
behind_two (_ ∷ _ ∷ l) r n z h =
    let e : length l ≤ suc (suc (length l)) - 2 = omega arith in
    ap (λ rest. r ∷ n ∷ (z ++ rest)) (drop_of_length-le l e) ∙ ap (λ rest. r ∷ n ∷ rest) (append-nil z)

-- Two places are written, and the values behind them.
module _ (l : List ℕ) (r n : ℕ) (h : length l ≡ row_length) where
  abbrev begun : List ℕ
  begun = set (set l 0 r) 1 n

  begun_length : length begun ≡ length l
  begun_length = simp length-set

  pub begun_fits : 2 ≤ length begun
  begun_fits = omega (arith, begun_length, h)

  pub part_length : length (mid_of 2 (length begun - 2) begun) ≡ row_values
  part_length = mid_len 2 (length begun) begun (omega arith) ∙ omega (arith, begun_length, h)

  pub row_length_lem : (z : List ℕ) → length z ≡ length (mid_of 2 (length begun - 2) begun) → length (put_mid 2 (length begun - 2) begun z) ≡ length l
  row_length_lem z e = same_len_mid 2 (length begun - 2) begun z e ∙ begun_length

  pub row_is :
      (values z : List ℕ)
      → z ≡ padded (length (mid_of 2 (length begun - 2) begun)) values
      → put_mid 2 (length begun - 2) begun z
      ≡ r ∷ n ∷ padded row_values values
  row_is values z e = behind_two l r n z (omega (arith, h)) ∙ ap (λ x. r ∷ n ∷ x) (e ∙ ap (λ k. padded k values) part_length)
