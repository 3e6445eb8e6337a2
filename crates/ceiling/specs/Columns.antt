-- Rows of jobs as columns of numbers, and the sums over rows that the ceilings speak of.
use Rattle.std.specs.Prelude.{ℕ, suc, ◌+◌, min, Bool, ◌&&◌, eqb, ltb}
use Rattle.laws.specs.Bools.{when◌then◌else◌}
use Rattle.laws.specs.Range.{sum_to}

pub record Columns : Type 0 where
  pub rows : ℕ
  -- of a row
  pub transport : ℕ → ℕ
  pub n : ℕ → ℕ
  -- n summed over the transport's rows up to this one
  pub upto : ℕ → ℕ
  -- n, and once it has preempted, the m of that moment
  pub cap : ℕ → ℕ
  pub picked : ℕ → ℕ
  pub waiting : ℕ → ℕ
  -- 0, or suc y where it names row y
  pub names : ℕ → ℕ
  -- overtakers
  pub over : ℕ → ℕ
  -- the least row among it, the row it names, the row that one names, ..
  pub low : ℕ → ℕ
  -- how many rows these are, itself not counted
  pub depth : ℕ → ℕ
  -- the picks that went past it
  pub blocked : ℕ → ℕ
  -- of a transport: its picks, and the jobs they passed over
  pub picks : ℕ → ℕ
  pub total : ℕ → ℕ
  -- noted at a row's last pick: the transport's picks and total, and the row's blocked
  pub last_pick : ℕ → ℕ
  pub last_total : ℕ → ℕ
  pub last_blocked : ℕ → ℕ

-- cap summed over the rows that name y
abbrev pub sold : Columns → ℕ → ℕ
sold g y = sum_to (λ r. when eqb (g.names r) (suc y) then g.cap r else 0) g.rows

-- the same with their overtakers
abbrev pub bought : Columns → (ℕ → ℕ) → ℕ → ℕ
bought g over y = sum_to (λ r. when eqb (g.names r) (suc y) then g.cap r + over r else 0) g.rows

-- the rows that name a row
abbrev pub namers : Columns → ℕ
namers g = sum_to (λ r. min 1 (g.names r)) g.rows

-- f summed over the first rows of transport t
abbrev pub of_transport : Columns → ℕ → (ℕ → ℕ) → ℕ → ℕ
of_transport g t f rows = sum_to (λ r. when eqb (g.transport r) t then f r else 0) rows

-- row r is of j's transport, and its low lies above j
abbrev pub above : Columns → ℕ → ℕ → Bool
above g j r = eqb (g.transport r) (g.transport j) && ltb j (g.low r)

-- the picks from such rows
abbrev pub beyond : Columns → ℕ → ℕ
beyond g j = sum_to (λ r. when above g j r then g.picked r else 0) g.rows
