-- Laws of table_to and fold_to.
use Prim.Native.Nat.{ℕ, zero, suc, ◌+◌, ◌<◌}
use mathlib.Core.Path.{◌≡◌, refl, sym, ◌∙◌, ap}
use mathlib.Core.Logic.{◌≢◌}
use mathlib.Core.List.{List, [], ◌∷◌}
use native.Mathlib.Nat.{le_step, lt-suc_self, not-suc-le-zero}
use native.Mathlib.Numerals.{add-one}
use native.Mathlib.Decide.{ℕ_discrete}
use lib.Dec.{eqb}
use lib.ListN.{length, get_or, set, length-append, length-set, get_or-append}
use lib.Seq.{get_or_at, get_or-set_same, get_or-set_other, ext_get_or}
use borrow.Author.Tests.{eq-eqb, ne_eqb}
use Rattle.laws.specs.Bools.{when◌then◌else◌}
use Rattle.laws.specs.Range.{table_to, fold_to}
use Rattle.laws.proofs.Bools.{if_true, if_false}
use Rattle.laws.proofs.All.{below_suc}

module _ {ℓ} {A : Type ℓ} (f : ℕ → A) where
  pub length_table : (n : ℕ) → length (table_to f n) ≡ n
  unfolding table_to
  length_table zero = refl
  length_table (suc n) = rw (length-append, length_table n, add-one)

  pub get_or_table : (n i : ℕ) (d : A) → i < n → get_or (table_to f n) i d ≡ f i
  unfolding table_to
  get_or_table zero i d l = absurd (not-suc-le-zero l)
  get_or_table (suc n) i d l =
      below_suc (λ i. get_or (table_to f (suc n)) i d ≡ f i) n
      (λ i l. get_or-append (table_to f n) (f n ∷ []) d i (rw length_table l) ∙ get_or_table n i d l)
      (get_or_at (table_to f n) (f n) [] d n (length_table n))
      i l

module _ {ℓ} {A : Type ℓ} where
  pub table_same : (f g : ℕ → A) (n : ℕ) → ((i : ℕ) → i < n → f i ≡ g i) → table_to f n ≡ table_to g n
  unfolding table_to
  table_same f g zero h = refl
  table_same f g (suc n) h = rw (table_same f g n (λ i l. h i (le_step l)), h n (lt-suc_self n))

  pub table_self : (d : A) (l : List A) → table_to (λ i. get_or l i d) (length l) ≡ l
  table_self d l =
      ext_get_or d (table_to (λ i. get_or l i d) (length l)) l (length_table (λ i. get_or l i d) (length l))
      (λ i h. get_or_table (λ i. get_or l i d) (length l) i d (rw length_table at h))

  -- a list is a table if its elements are
  pub table_is : (f : ℕ → A) (d : A) (l : List A) (n : ℕ) → length l ≡ n → ((i : ℕ) → i < n → get_or l i d ≡ f i) → table_to f n ≡ l
  table_is f d l n e h = table_same f (λ i. get_or l i d) n (λ i k. sym (h i k)) ∙ rw (← e) (table_self d l)

  pub table_set : (f : ℕ → A) (n i : ℕ) (v : A) → set (table_to f n) i v ≡ table_to (λ j. when eqb j i then v else f j) n
  table_set f n i v = sym (table_is (λ j. when eqb j i then v else f j) v (set (table_to f n) i v) n (length-set (table_to f n) i v ∙ length_table f n) at_place)
    where
      at_place : (j : ℕ) → j < n → get_or (set (table_to f n) i v) j v ≡ (when eqb j i then v else f j)
      at_place j l = elim (ℕ_discrete j i) [
        | yes e ↦ rw e (get_or-set_same (table_to f n) i v v (rw (length_table, ← e) l) ∙ sym (if_true v (f i) (eq-eqb i i refl)))
        | no ne ↦ get_or-set_other (table_to f n) i j v v ne ∙ get_or_table f n j v l ∙ sym (if_false v (f j) (ne_eqb j i ne))
      ]

  -- a table with one place written is the table of a function that differs there only
  pub table_write : (f g : ℕ → A) (n i : ℕ) (v : A) → v ≡ g i → ((j : ℕ) → j < n → j ≢ i → f j ≡ g j) → set (table_to f n) i v ≡ table_to g n
  table_write f g n i v e h =
      table_set f n i v ∙ table_same (λ j. when eqb j i then v else f j) g n λ j l.
      elim (ℕ_discrete j i) [
        | yes p ↦ if_true v (f j) (eq-eqb j i p) ∙ e ∙ ap g (sym p)
        | no p ↦ if_false v (f j) (ne_eqb j i p) ∙ h j l p
      ]

  pub fold_step : (step : ℕ → A → A) (a : A) (i : ℕ) → fold_to step a (i + 1) ≡ step i (fold_to step a i)
  unfolding fold_to
  fold_step step a i = rw add-one

  -- what each step keeps holds at the end
  pub fold_keeps {κ} : (P : ℕ → A → Type κ) (step : ℕ → A → A) (a : A) (n : ℕ) → P 0 a → ((i : ℕ) (x : A) → i < n → P i x → P (suc i) (step i x)) → P n (fold_to step a n)
  unfolding fold_to
  fold_keeps P step a zero h k = h
  fold_keeps P step a (suc n) h k = k n (fold_to step a n) (lt-suc_self n) (fold_keeps P step a n h λ i x l. k i x (le_step l))
