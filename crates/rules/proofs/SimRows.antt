-- What the simulation says of rows and jobs, and what leaves it alone.
use Prim.Native.Nat.{ℕ, zero, suc, ◌<◌}
use mathlib.Core.Path.{◌≡◌, refl, sym, ◌∙◌, ap, ap₂, subst}
use mathlib.Core.Logic.{◌≢◌}
use mathlib.Core.Bool.{true, ◌&&◌}
use mathlib.Core.List.{List}
use native.Mathlib.Nat.{suc_inj}
use lib.ListN.{length, set}
use lib.Seq.{get_or-set_same, get_or-set_other}
use lib.Dec.{eqb}
use borrow.Author.Tests.{eqb-true, eq-eqb}
use Rattle.laws.specs.Bools.{when◌then◌else◌}
use Rattle.laws.specs.Range.{sum_to}
use Rattle.laws.proofs.Bools.{and_both, and_left, and_right}
use Rattle.laws.proofs.Newest.{set_field}
use Rattle.laws.proofs.Sum.{sum_eq}
use Rattle.ceiling.specs.Columns.{Columns, of_transport}
use Rattle.rules.specs.declared.Setup.{Setup}
use Rattle.rules.specs.declared.State.{State}
use Rattle.rules.specs.State.{is_present}
use Rattle.rules.specs.Tally.{Row, Tally, no_row, row_at, row_of, sum_on}
use Rattle.rules.proofs.Rows.{row_of_is, row_of_same}
use Rattle.rules.proofs.Sim.{present_row, job_link, JobIs, Sim}

-- the row that a job's link leads to is there, and is its own
pub row_inside : {u : Setup} {s : State} {y : Tally} {g : Columns} → Sim u s y g → (j i : ℕ) → row_of y.rows j ≡ suc i → i < g.rows
row_inside {y = y} m j i e = rw m.rows at (row_of_is y.rows j i e).0

-- what the columns say of a present job, at its row
pub job_is : {u : Setup} {s : State} {y : Tally} {g : Columns} → Sim u s y g → (j i : ℕ) → is_present s j ≡ true → row_of y.rows j ≡ suc i → JobIs s y.rows g j i
job_is {s = s} {y = y} {g = g} m j i h e =
    let (l, r) = m.job j h in
    subst (JobIs s y.rows g j) (suc_inj (sym r.link ∙ e)) r

-- different jobs have different rows
pub rows_apart : (rows : List Row) (j k a b : ℕ) → row_of rows j ≡ suc a → row_of rows k ≡ suc b → j ≢ k → a ≢ b
rows_apart rows j k a b p q ne e = ne (sym (row_of_is rows j a p).1 ∙ ap (λ i. (row_at rows i).job) e ∙ (row_of_is rows k b q).1)

-- a number of each row that is a column's: summed over a transport's rows, it is the column's
pub sum_on_lem : {u : Setup} {s : State} {y : Tally} {g : Columns} → Sim u s y g → (t : ℕ) (f : Row → ℕ) (col : ℕ → ℕ)
    → ((i : ℕ) → i < g.rows → f (row_at y.rows i) ≡ col i) → sum_on t f y.rows ≡ of_transport g t col g.rows
unfolding sum_on
sum_on_lem {y = y} {g = g} m t f col h =
    ap (sum_to (λ i. when eqb (row_at y.rows i).transport t then f (row_at y.rows i) else 0)) m.rows
    ∙ sum_eq (λ i. when eqb (row_at y.rows i).transport t then f (row_at y.rows i) else 0) (λ i. when eqb (g.transport i) t then col i else 0) g.rows
    (λ i l. rw ((m.row i l).transport, h i l) refl)

-- the row of a present job is a present row
pub present_of : (s : State) (rows : List Row) (j i : ℕ) → is_present s j ≡ true → row_of rows j ≡ suc i → present_row s rows i ≡ true
unfolding present_row
present_of s rows j i h e =
    let q = (row_of_is rows j i e).1 in
    and_both (ap (is_present s) q ∙ h) (eq-eqb (row_of rows (row_at rows i).job) (suc i) (ap (row_of rows) q ∙ e))

-- a present row is the row of its job
pub present_row_is : (s : State) (rows : List Row) (i : ℕ) → present_row s rows i ≡ true
    → (is_present s (row_at rows i).job ≡ true) × (row_of rows (row_at rows i).job ≡ suc i)
unfolding present_row
present_row_is s rows i h = (
  and_left (is_present s (row_at rows i).job) (eqb (row_of rows (row_at rows i).job) (suc i)) h,
  eqb-true (row_of rows (row_at rows i).job) (suc i) (and_right (is_present s (row_at rows i).job) (eqb (row_of rows (row_at rows i).job) (suc i)) h),
)

-- the same job numbers in the same places: the same rows of jobs, present rows and links
module _ (rows other : List Row) (len : length other ≡ length rows) (jobs : (i : ℕ) → (row_at other i).job ≡ (row_at rows i).job) where
  pub same_row_of : (j : ℕ) → row_of other j ≡ row_of rows j
  same_row_of = row_of_same other rows len jobs

  pub same_link : (k : ℕ) → job_link other k ≡ job_link rows k
  unfolding job_link
  same_link zero = refl
  same_link (suc i) = ap suc (jobs i)

  pub same_present : (s s' : State) → ((j : ℕ) → is_present s' j ≡ is_present s j) → (i : ℕ) → present_row s' other i ≡ present_row s rows i
  unfolding present_row
  same_present s s' h i =
      ap₂ ◌&&◌ (ap (is_present s') (jobs i) ∙ h (row_at rows i).job)
      (ap (λ k. eqb k (suc i)) (ap (row_of other) (jobs i) ∙ same_row_of (row_at rows i).job))

-- one row is written, its job number stays
module _ (rows : List Row) (i : ℕ) (new : Row) where
  pub row_same : i < length rows → row_at (set rows i new) i ≡ new
  row_same l = get_or-set_same rows i new no_row l

  pub row_other : (k : ℕ) → k ≢ i → row_at (set rows i new) k ≡ row_at rows k
  row_other k ne = get_or-set_other rows i k new no_row ne

  pub row_field : {B : Type 0} (f : Row → B) → f new ≡ f (row_at rows i) → (k : ℕ) → f (row_at (set rows i new) k) ≡ f (row_at rows k)
  row_field = set_field no_row rows i new
