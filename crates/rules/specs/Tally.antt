-- Document 01, "The tally of demand 3", with A13's P: kept beside the rules, fed their decisions, reading nothing of a state.
use Rattle.std.specs.Prelude.{ℕ, zero, suc, ◌+◌, List, [], ◌∷◌, ◌++◌, length, get_or, set, eqb}
use Rattle.laws.specs.Bools.{when◌then◌else◌}
use Rattle.laws.specs.Range.{sum_to}
use Rattle.laws.specs.Newest.{newest}
use Rattle.laws.specs.Chain.{along_chain}
use Rattle.laws.specs.Update.{upd}
use Rattle.rules.specs.Pick.{Preemption, nobody, preemption}
use Rattle.rules.specs.Calls.{Decision, took, picked, put_off}

-- a job's row; it stays when the job leaves
pub record Row : Type 0 where
  -- "number, transport, n"
  pub job : ℕ
  pub transport : ℕ
  pub n : ℕ
  -- "N, the sum of n over that transport's rows so far, its own included"
  pub upto : ℕ
  pub overtakers : ℕ
  -- the link to the row that it names: 0 for none
  pub names : ℕ
  -- the picks that went past it (A13)
  pub past : ℕ
  -- at its last pick the transport's picks and its total, and the picks that had gone past it: A13's P; 0 before the first
  pub lastpick : ℕ
  pub lasttotal : ℕ
  pub lastpast : ℕ

pub record Tally : Type 0 where
  -- "Jobs have rows in order of taking"
  pub rows : List Row
  -- "each transport's picks and passed-over total"
  pub picks : ℕ → ℕ
  pub total : ℕ → ℕ

-- "At first there are no rows, and each transport's picks and passed-over total are 0"
unfoldable pub no_tally : Tally
no_tally = record { rows = []; picks = λ t. 0; total = λ t. 0 }

abbrev pub no_row : Row
no_row =
    record {
      job = 0;
      transport = 0;
      n = 0;
      upto = 0;
      overtakers = 0;
      names = 0;
      past = 0;
      lastpick = 0;
      lasttotal = 0;
      lastpast = 0;
    }

abbrev pub row_at : List Row → ℕ → Row
row_at rows i = get_or rows i no_row

-- "a present job's row is the newest with its number": the link to it
unfoldable pub row_of : List Row → ℕ → ℕ
row_of rows j = newest (λ r. r.job) no_row rows j

-- the row that a link leads to
unfoldable pub linked_row : List Row → ℕ → Row
linked_row rows zero = no_row
linked_row rows (suc i) = row_at rows i

-- a number of a row, summed over the rows of transport t
unfoldable pub sum_on : ℕ → (Row → ℕ) → List Row → ℕ
sum_on t f rows = sum_to (λ i. when eqb (row_at rows i).transport t then f (row_at rows i) else 0) (length rows)

-- "a new row with number, transport, n, overtakers 0, and N"
unfoldable pub new_row : List Row → ℕ → ℕ → ℕ → Row
new_row rows j t n =
    record {
      job = j;
      transport = t;
      n = n;
      upto = sum_on t (λ r. r.n) rows + n;
      overtakers = 0;
      names = 0;
      past = 0;
      lastpick = 0;
      lasttotal = 0;
      lastpast = 0;
    }

-- "Job taken, n of 1 or more: a new row .."
unfoldable pub with_job : Tally → ℕ → ℕ → ℕ → Tally
with_job y j t n = record { rows = y.rows ++ (new_row y.rows j t n ∷ []); picks = y.picks; total = y.total }

-- a row with these in the place of its own
abbrev pub with_notes : Row → ℕ → ℕ → ℕ → ℕ → ℕ → ℕ → Row
with_notes r overtakers names past lastpick lasttotal lastpast =
    record {
      job = r.job;
      transport = r.transport;
      n = r.n;
      upto = r.upto;
      overtakers = overtakers;
      names = names;
      past = past;
      lastpick = lastpick;
      lasttotal = lasttotal;
      lastpast = lastpast;
    }

abbrev pub on_row : ℕ → (Row → Row) → List Row → List Row
on_row i f rows = set rows i (f (row_at rows i))

-- the overtakers of a row grow by m
unfoldable pub overtaken_by : ℕ → ℕ → List Row → List Row
overtaken_by m i rows = on_row i (λ r. with_notes r (r.overtakers + m) r.names r.past r.lastpick r.lasttotal r.lastpast) rows

-- "X's row names Y's for good"
unfoldable pub naming : ℕ → ℕ → List Row → List Row
naming i link rows = on_row i (λ r. with_notes r r.overtakers link r.past r.lastpick r.lasttotal r.lastpast) rows

-- "The picked job's row notes both as its last pick", and with them the picks that went past it (A13)
abbrev pub with_last : ℕ → ℕ → Row → Row
with_last picks total r = with_notes r r.overtakers r.names r.past picks total r.past

unfoldable pub noting : ℕ → ℕ → ℕ → List Row → List Row
noting i picks total rows = on_row i (with_last picks total) rows

-- "the overtakers of Y's row, of the row that one names, and so on, each grow by m"
unfoldable pub overtaken : ℕ → ℕ → List Row → List Row
overtaken link m rows = along_chain (λ i. (row_at rows i).names) (overtaken_by m) (length rows) link rows

-- row x and the link to row y: "If X, with m waiting, preempted Y"
unfoldable pub with_preemption : ℕ → ℕ → ℕ → List Row → List Row
with_preemption zero y m rows = rows
with_preemption (suc x) y m rows = overtaken y m (naming x y rows)

unfoldable pub preempted_rows : Preemption → List Row → List Row
preempted_rows nobody rows = rows
preempted_rows (preemption x y m) rows = with_preemption (row_of rows x) (row_of rows y) m rows

-- one more pick went past a row (A13)
abbrev pub once_past : Row → Row
once_past r = with_notes r r.overtakers r.names (r.past + 1) r.lastpick r.lasttotal r.lastpast

-- past the row that a link leads to
unfoldable pub gone_by : ℕ → List Row → List Row
gone_by zero rows = rows
gone_by (suc i) rows = on_row i once_past rows

-- past the rows of all these jobs
unfoldable pub past_rows : List ℕ → List Row → List Row
past_rows [] rows = rows
past_rows (j ∷ jobs) rows = past_rows jobs (gone_by (row_of rows j) rows)

-- the picked job's row i: "the transport's picks grow by 1, its total by the jobs passed over"
unfoldable pub with_pick_at : Tally → ℕ → ℕ → List Row → Tally
with_pick_at y zero passed rows = y
with_pick_at y (suc i) passed rows =
    record {
      rows = noting i (y.picks t + 1) (y.total t + passed) rows;
      picks = upd y.picks t (y.picks t + 1);
      total = upd y.total t (y.total t + passed);
    }
  where
    t : ℕ
    t = (row_at y.rows i).transport

-- "Pick that finds an entry"
unfoldable pub with_pick : Tally → ℕ → ℕ → List ℕ → Preemption → Tally
with_pick y j passed past p = with_pick_at y (row_of y.rows j) passed (past_rows past (preempted_rows p y.rows))

-- fed one decision. "Any other call, refused ones too: nothing changes": it decides nothing, or nothing that counts here
unfoldable pub tallied : Tally → Decision → Tally
tallied y (took j t n) = with_job y j t n
tallied y (picked j passed past p) = with_pick y j passed past p
tallied y (put_off j) = y
