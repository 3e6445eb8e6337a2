-- The tally's rows, read by place, and the rows of jobs.
use Prim.Native.Nat.{ℕ, suc, ◌<◌}
use mathlib.Core.Path.{◌≡◌}
use mathlib.Core.Logic.{◌≢◌}
use mathlib.Core.List.{List, [], ◌∷◌, ◌++◌}
use lib.ListN.{length}
use Rattle.laws.proofs.Newest.{newest_is, newest_same, newest_new, newest_old}
use Rattle.rules.specs.Tally.{Row, no_row, row_at, row_of}

-- the newest row of the new row's job is the new one
pub row_of_new : (rows : List Row) (new : Row) → row_of (rows ++ (new ∷ [])) new.job ≡ suc (length rows)
unfolding row_of
row_of_new = newest_new (λ r. r.job) no_row

-- of another job it is the one that it was
pub row_of_old : (rows : List Row) (new : Row) (j : ℕ) → j ≢ new.job → row_of (rows ++ (new ∷ [])) j ≡ row_of rows j
unfolding row_of
row_of_old = newest_old (λ r. r.job) no_row

-- what a job's row is
pub row_of_is : (rows : List Row) (j i : ℕ) → row_of rows j ≡ suc i → (i < length rows) × ((row_at rows i).job ≡ j)
unfolding row_of
row_of_is = newest_is (λ r. r.job) no_row

-- a list of the same length with the same job numbers has the same rows of jobs
pub row_of_same : (rows other : List Row) → length rows ≡ length other → ((i : ℕ) → (row_at rows i).job ≡ (row_at other i).job) → (j : ℕ)
    → row_of rows j ≡ row_of other j
unfolding row_of
row_of_same = newest_same (λ r. r.job) no_row
