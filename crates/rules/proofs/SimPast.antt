-- The picks that go past rows: in the tally, and as a column.
use Prim.Native.Nat.{ℕ, zero, suc, ◌+◌, ◌<◌}
use mathlib.Core.Path.{◌≡◌, refl, sym, ◌∙◌, ap}
use mathlib.Core.Bool.{true}
use mathlib.Core.List.{List, [], ◌∷◌}
use native.Mathlib.Decide.{ℕ_discrete}
use native.Mathlib.Nat.{suc_inj}
use native.Mathlib.Omega.{arith}
use lib.ListN.{length, length-set}
use lib.Dec.{eqb}
use borrow.Author.Tests.{ne_eqb}
use Rattle.laws.specs.Bools.{one}
use Rattle.laws.specs.Range.{sum_to}
use Rattle.laws.specs.Sequence.{holds, count_in}
use Rattle.laws.proofs.Bools.{one_true, one_false, eqb_self}
use Rattle.laws.proofs.Sequence.{holds_head, holds_tail, count_in_same}
use Rattle.laws.proofs.Sum.{sum_add, sum_zero, sum_alone}
use Rattle.rules.specs.Tally.{Row, row_at, row_of, once_past, gone_by, past_rows}
use Rattle.rules.proofs.SimRows.{same_row_of, row_same, row_other, row_field}

-- how often these jobs lead to row k
abbrev pub past_at : List Row → List ℕ → ℕ → ℕ
past_at rows jobs k = count_in (λ j. eqb (row_of rows j) (suc k)) jobs

-- What stays.

module _ {B : Type 0} (f : Row → B) (h : (r : Row) → f (once_past r) ≡ f r) where
  gone_field : (link : ℕ) (rows : List Row) (k : ℕ) → f (row_at (gone_by link rows) k) ≡ f (row_at rows k)
  unfolding gone_by
  gone_field zero rows k = refl
  gone_field (suc i) rows k = row_field rows i (once_past (row_at rows i)) f (h (row_at rows i)) k

  pub past_field : (jobs : List ℕ) (rows : List Row) (k : ℕ) → f (row_at (past_rows jobs rows) k) ≡ f (row_at rows k)
  unfolding past_rows
  past_field [] rows k = refl
  past_field (j ∷ jobs) rows k = past_field jobs (gone_by (row_of rows j) rows) k ∙ gone_field (row_of rows j) rows k

gone_length : (link : ℕ) (rows : List Row) → length (gone_by link rows) ≡ length rows
unfolding gone_by
gone_length zero rows = refl
gone_length (suc i) rows = length-set rows i (once_past (row_at rows i))

pub past_length : (jobs : List ℕ) (rows : List Row) → length (past_rows jobs rows) ≡ length rows
unfolding past_rows
past_length [] rows = refl
past_length (j ∷ jobs) rows = past_length jobs (gone_by (row_of rows j) rows) ∙ gone_length (row_of rows j) rows

-- What grows.

gone_past : (link : ℕ) (rows : List Row) (k : ℕ) → k < length rows → (row_at (gone_by link rows) k).past ≡ (row_at rows k).past + one (eqb link (suc k))
unfolding gone_by
gone_past zero rows k l = omega (arith, one_false (ne_eqb 0 (suc k) (λ e. omega (arith, e))))
gone_past (suc i) rows k l = elim (ℕ_discrete k i) [
  | yes e ↦ rw (← e) (ap (λ r. r.past) (row_same rows k (once_past (row_at rows k)) l) ∙ ap (λ n. (row_at rows k).past + n) (sym (one_true (eqb_self (suc k)))))
  | no ne ↦
      omega (arith, ap (λ r. r.past) (row_other rows i (once_past (row_at rows i)) k ne), one_false (ne_eqb (suc i) (suc k) (λ e. ne (sym (suc_inj e)))))
]

pub past_column : (jobs : List ℕ) (rows : List Row) (k : ℕ) → k < length rows → (row_at (past_rows jobs rows) k).past ≡ (row_at rows k).past + past_at rows jobs k
unfolding past_rows count_in
past_column [] rows k l = omega arith
past_column (j ∷ jobs) rows k l =
    let next = gone_by (row_of rows j) rows in
    let same = same_row_of rows next (gone_length (row_of rows j) rows) (gone_field (λ r. r.job) (λ r. refl) (row_of rows j) rows) in
    omega (
      arith,
      past_column jobs next k (rw (gone_length (row_of rows j) rows) l),
      gone_past (row_of rows j) rows k l,
      count_in_same (λ j. eqb (row_of next j) (suc k)) (λ j. eqb (row_of rows j) (suc k)) jobs (λ x h. ap (λ z. eqb z (suc k)) (same x)),
    )

-- Jobs that have rows among the first n add up to their number.

pub past_sum : (rows : List Row) (n : ℕ) (jobs : List ℕ) → ((j : ℕ) → holds j jobs ≡ true → (i : ℕ) × (i < n) × (row_of rows j ≡ suc i)) → sum_to (past_at rows jobs) n ≡ length jobs
unfolding count_in
past_sum rows n [] h = sum_zero (λ k. 0) n (λ k b. refl)
past_sum rows n (j ∷ jobs) h =
    let (i, l, e) = h j (holds_head j jobs) in
    let hit = sum_alone (λ k. one (eqb (suc i) (suc k))) i n l (λ k b ne. one_false (ne_eqb (suc i) (suc k) (λ q. ne (sym (suc_inj q))))) in
    let once : sum_to (λ k. one (eqb (row_of rows j) (suc k))) n ≡ 1 = rw e (hit ∙ one_true (eqb_self (suc i))) in
    omega (arith, once, sum_add (λ k. one (eqb (row_of rows j) (suc k))) (past_at rows jobs) n, past_sum rows n jobs (λ x k. h x (holds_tail x j jobs k)))
