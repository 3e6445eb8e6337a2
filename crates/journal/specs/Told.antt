-- How the reader tells what it finds: each case of its answer, a job's destinations beside it, and a name's bytes.
use Rattle.std.specs.Prelude.{ℕ, ◌≡◌, ◌-◌, List, [], length, Option, Some, None, Result, Ok, Err}
use Rattle.laws.specs.Sequence.{padded}
use Rattle.rules.specs.Answers.{refusal_number}
use Rattle.rules.specs.Calls.{outcome_of}
use Rattle.journal.specs.declared.Record.{Record}
use Rattle.journal.specs.declared.Whole.{Whole}
use Rattle.journal.specs.declared.Unreadable.{Unreadable}
use Rattle.journal.specs.declared.Reading.{Reading}
use Rattle.journal.specs.Records.{Event, name, job, pick, report, end, refused, Found, event, closed}

unfoldable pub record_of : Event → Record
record_of (name d bytes) = Record.Name d (length bytes)
record_of (job clock t dests) = Record.Job clock t (length dests)
record_of (pick clock) = Record.Pick clock
record_of (report clock e ticket outcome) = Record.Report clock e ticket (outcome_of outcome)

-- a record that is refused: its number, and its offset
pub record Fault : Type 0 where
  pub number : ℕ
  pub offset : ℕ

-- a record and the offset of the next, no more, or a fault
unfoldable pub answer_of : Found → Result (Option Whole) Fault
answer_of (event e next) = Ok (Some (record { what = record_of e; next = next }))
answer_of (closed end) = Ok None
answer_of (closed (refused k offset)) = Err (record { number = k; offset = offset })

-- the code's answer, with a refusal's number in the place of the refusal
abbrev pub told : Result (Option Whole) Unreadable → Result (Option Whole) Fault
told (Ok found) = Ok found
told (Err u) = Err (record { number = refusal_number u.refusal; offset = u.offset })

-- "a job's destinations come back by value"
unfoldable pub destinations_of : Found → List ℕ
destinations_of (event (name d bytes) next) = []
destinations_of (event (job clock t dests) next) = dests
destinations_of (event (pick clock) next) = []
destinations_of (event (report clock e ticket outcome) next) = []
destinations_of (closed c) = []

-- a reading that tells it
pub record ReadingOf (f : Found) (r : Reading) : Type 0 where
  pub answer : told r.answer ≡ answer_of f
  pub destinations : r.destinations ≡ padded 256 (destinations_of f)

-- "Of a name the reader gives back that very part of the lent journal": where no name stands, the empty part
unfoldable pub name_of : Found → List ℕ
name_of (event (name d bytes) next) = bytes
name_of (event (job clock t dests) next) = []
name_of (event (pick clock) next) = []
name_of (event (report clock e ticket outcome) next) = []
name_of (closed c) = []

-- where that part begins: the name is a record's last field
unfoldable pub name_start : Found → ℕ
name_start (event (name d bytes) next) = next - length bytes
name_start (event (job clock t dests) next) = 0
name_start (event (pick clock) next) = 0
name_start (event (report clock e ticket outcome) next) = 0
name_start (closed c) = 0
