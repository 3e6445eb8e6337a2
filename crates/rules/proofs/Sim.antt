-- The simulation between a state of the rules, its tally and the columns of `ceiling`.
use Prim.Native.Nat.{ℕ, zero, suc, ◌<◌}
use mathlib.Core.Path.{◌≡◌}
use mathlib.Core.Bool.{Bool, true, false, ◌&&◌}
use mathlib.Core.List.{List}
use lib.ListN.{length, get_or}
use lib.Dec.{eqb}
use Rattle.laws.specs.Onto.{near}
use Rattle.laws.specs.Order.{Before}
use Rattle.ceiling.specs.Columns.{Columns, sold}
use Rattle.ceiling.proofs.Invariant.{Inv}
use Rattle.rules.specs.declared.Setup.{Setup}
use Rattle.rules.specs.declared.State.{State}
use Rattle.rules.specs.State.{at, zero_settings, queue_of, is_present, has_preempted, waiting_of, parent_of}
use Rattle.rules.specs.Tally.{Row, Tally, row_at, row_of}

-- the slot cost of a transport
abbrev pub cost_in : Setup → ℕ → ℕ
cost_in u t = (get_or u.settings t zero_settings).cost

-- row i is the row of a present job
unfoldable pub present_row : State → List Row → ℕ → Bool
present_row s rows i = is_present s (row_at rows i).job && eqb (row_of rows (row_at rows i).job) (suc i)

-- the link to the job of the row that a link leads to
unfoldable pub job_link : List Row → ℕ → ℕ
job_link rows zero = 0
job_link rows (suc i) = suc (row_at rows i).job

-- row a's job stands ahead of row b's in a transport's list
abbrev pub Ahead : State → List Row → ℕ → ℕ → Type 0
Ahead s rows a b =
    (t : ℕ) × (j : ℕ) × (k : ℕ) × (t < s.setup.transports) × Before j k (queue_of s t) × (row_of rows j ≡ suc a) × (row_of rows k ≡ suc b)

-- the row is what the columns say of it
pub record RowIs (g : Columns) (i : ℕ) (r : Row) : Type 0 where
  pub transport : r.transport ≡ g.transport i
  pub n : r.n ≡ g.n i
  pub upto : r.upto ≡ g.upto i
  pub overtakers : r.overtakers ≡ g.over i
  pub names : r.names ≡ g.names i
  pub past : r.past ≡ g.blocked i
  pub lastpick : r.lastpick ≡ g.last_pick i
  pub lasttotal : r.lasttotal ≡ g.last_total i
  pub lastpast : r.lastpast ≡ g.last_blocked i

-- what the state keeps of a present job is what the columns say of its row i; its stored parent is the job of the nearest row up the chain
-- of names that is still present
pub record JobIs (s : State) (rows : List Row) (g : Columns) (j i : ℕ) : Type 0 where
  pub link : row_of rows j ≡ suc i
  pub transport : at s.jobs.transport j ≡ g.transport i
  pub picked : at s.jobs.picked j ≡ g.picked i
  pub waiting : waiting_of s j ≡ g.waiting i
  pub n : at s.jobs.n j ≡ g.n i
  pub sold : at s.jobs.sold j ≡ sold g i
  pub over : at s.jobs.overtakers j ≡ g.over i
  pub unmarked : has_preempted s j ≡ false → g.names i ≡ 0
  pub parent : parent_of s j ≡ job_link rows (near (present_row s rows) g.names g.rows i)

pub record Sim (u : Setup) (s : State) (y : Tally) (g : Columns) : Type 0 where
  pub setup : s.setup ≡ u
  pub rows : length y.rows ≡ g.rows
  pub row : (i : ℕ) → i < g.rows → RowIs g i (row_at y.rows i)
  pub picks : (t : ℕ) → y.picks t ≡ g.picks t
  pub total : (t : ℕ) → y.total t ≡ g.total t
  pub job : (j : ℕ) → is_present s j ≡ true → (i : ℕ) × JobIs s y.rows g j i
  -- a row whose job has left has nothing waiting
  pub gone : (i : ℕ) → i < g.rows → present_row s y.rows i ≡ false → g.waiting i ≡ 0
  pub inv : Inv (cost_in u) g (Ahead s y.rows)
