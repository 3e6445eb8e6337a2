-- The steps of the rows.
use Rattle.std.specs.Prelude.{ℕ, suc, ◌+◌, ◌*◌, ◌-◌, ◌≤◌, ◌<◌, min, ◌≡◌, ◌≢◌}
use Rattle.laws.specs.Range.{sum_to}
use Rattle.laws.specs.Chain.{along_chain}
use Rattle.laws.specs.Update.{upd}
use Rattle.ceiling.specs.Columns.{Columns, sold, of_transport}

abbrev pub fresh : Columns
fresh = record {
  rows = 0;
  transport = λ r. 0;
  n = λ r. 0;
  upto = λ r. 0;
  cap = λ r. 0;
  picked = λ r. 0;
  waiting = λ r. 0;
  names = λ r. 0;
  over = λ r. 0;
  low = λ r. 0;
  depth = λ r. 0;
  blocked = λ r. 0;
  picks = λ t. 0;
  total = λ t. 0;
  last_pick = λ r. 0;
  last_total = λ r. 0;
  last_blocked = λ r. 0;
}

-- a new row of transport t with k entries
abbrev pub add_row : Columns → ℕ → ℕ → Columns
add_row g t k = record {
  rows = suc g.rows;
  transport = upd g.transport g.rows t;
  n = upd g.n g.rows k;
  upto = upd g.upto g.rows (k + of_transport g t g.n g.rows);
  cap = upd g.cap g.rows k;
  picked = upd g.picked g.rows 0;
  waiting = upd g.waiting g.rows k;
  names = upd g.names g.rows 0;
  over = upd g.over g.rows 0;
  low = upd g.low g.rows g.rows;
  depth = upd g.depth g.rows 0;
  blocked = upd g.blocked g.rows 0;
  picks = g.picks;
  total = g.total;
  last_pick = upd g.last_pick g.rows 0;
  last_total = upd g.last_total g.rows 0;
  last_blocked = upd g.last_blocked g.rows 0;
}

-- when row x, with m waiting, may preempt row y
pub record Preempting (cost : ℕ → ℕ) (g : Columns) (x y m : ℕ) : Type 0 where
  pub inside : x < g.rows
  pub other : y < g.rows
  pub same : g.transport x ≡ g.transport y
  pub dear : 2 ≤ cost (g.transport y)
  pub unpicked : g.picked x ≡ 0
  pub unnaming : g.names x ≡ 0
  pub waits : g.waiting x ≡ m
  pub used : 1 ≤ g.picked y
  pub pays : cost (g.transport y) * (sold g y + m) ≤ g.picked y + g.waiting y

-- m more overtakers at a row
abbrev pub overtake : ℕ → ℕ → (ℕ → ℕ) → (ℕ → ℕ)
overtake m r over = upd over r (over r + m)

-- row x, with m waiting, preempts row y
abbrev pub preempt : Columns → ℕ → ℕ → ℕ → Columns
preempt g x y m = record {
  rows = g.rows;
  transport = g.transport;
  n = g.n;
  upto = g.upto;
  cap = upd g.cap x m;
  picked = g.picked;
  waiting = g.waiting;
  names = upd g.names x (suc y);
  over = along_chain (upd g.names x (suc y)) (overtake m) g.rows (suc y) g.over;
  low = upd g.low x (min x (g.low y));
  depth = upd g.depth x (suc (g.depth y));
  blocked = g.blocked;
  picks = g.picks;
  total = g.total;
  last_pick = g.last_pick;
  last_total = g.last_total;
  last_blocked = g.last_blocked;
}

-- when row x may be picked from, past k jobs: how often it goes past each row adds up to k
pub record Picking (g : Columns) (Ahead : ℕ → ℕ → Type 0) (x k : ℕ) (past : ℕ → ℕ) : Type 0 where
  pub inside : x < g.rows
  pub waits : 1 ≤ g.waiting x
  pub same : (j : ℕ) → j < g.rows → 1 ≤ past j → g.transport j ≡ g.transport x
  pub number : sum_to past g.rows ≡ k
  pub first : (j : ℕ) → j < g.rows → g.transport j ≡ g.transport x → 1 ≤ g.waiting j → j ≢ x → past j ≡ 0 → Ahead x j

-- a pick from row x, past k jobs
abbrev pub pick : Columns → ℕ → ℕ → (ℕ → ℕ) → Columns
pick g x k past = record {
  rows = g.rows;
  transport = g.transport;
  n = g.n;
  upto = g.upto;
  cap = g.cap;
  picked = upd g.picked x (suc (g.picked x));
  waiting = upd g.waiting x (g.waiting x - 1);
  names = g.names;
  over = g.over;
  low = g.low;
  depth = g.depth;
  blocked = λ j. g.blocked j + past j;
  picks = upd g.picks (g.transport x) (suc (g.picks (g.transport x)));
  total = upd g.total (g.transport x) (g.total (g.transport x) + k);
  last_pick = upd g.last_pick x (suc (g.picks (g.transport x)));
  last_total = upd g.last_total x (g.total (g.transport x) + k);
  last_blocked = upd g.last_blocked x (g.blocked x + past x);
}

-- fewer entries waiting
abbrev pub lessen : Columns → (ℕ → ℕ) → Columns
lessen g w = record {
  rows = g.rows;
  transport = g.transport;
  n = g.n;
  upto = g.upto;
  cap = g.cap;
  picked = g.picked;
  waiting = w;
  names = g.names;
  over = g.over;
  low = g.low;
  depth = g.depth;
  blocked = g.blocked;
  picks = g.picks;
  total = g.total;
  last_pick = g.last_pick;
  last_total = g.last_total;
  last_blocked = g.last_blocked;
}
