-- Request A1: what a replay uses of a journal. "A replay may be given a number of records ..; it stops there and says how many it used".
use Rattle.std.specs.Prelude.{ℕ, ◌≡◌, List, [], ◌∷◌, ◌++◌, length, take, replicate, leb}
use Rattle.laws.specs.Bools.{when◌then◌else◌}
use Rattle.rules.specs.declared.State.{State}
use Rattle.rules.specs.Sizes.{max_entries}
use Rattle.rules.specs.Calls.{Call, outcome_of}
use Rattle.rules.specs.Calls.{job as job_call, pick as pick_call, report as report_call}
use Rattle.rules.specs.History.{state_from}
use Rattle.journal.specs.Records.{Event, name, job, pick, report, Close, end}
use Rattle.journal.specs.Journals.{Journal}

-- a put-off list has room for every entry, and is not shown
abbrev pub lent : List ℕ
lent = replicate max_entries 0

-- the call of a record, if it makes one: "Names change no state"
unfoldable pub call_of : Event → List Call
call_of (name d bytes) = []
call_of (job clock t dests) = job_call clock t dests lent ∷ []
call_of (pick clock) = pick_call clock ∷ []
call_of (report clock e ticket outcome) = report_call clock e ticket (outcome_of outcome) lent ∷ []

unfoldable pub calls_of : List Event → List Call
calls_of [] = []
calls_of (e ∷ events) = call_of e ++ calls_of events

-- the records that it uses, their calls, and "how many": every record that is read counts, names too
unfoldable pub events_used : Journal → ℕ → List Event
events_used j budget = take budget j.events

unfoldable pub calls_used : Journal → ℕ → List Call
calls_used j budget = calls_of (events_used j budget)

unfoldable pub count_used : Journal → ℕ → ℕ
count_used j budget = length (events_used j budget)

-- "a refused record .. ends it, uncounted": a replay that its budget ends comes to none
unfoldable pub close_used : Journal → ℕ → Close
close_used j budget = when leb budget (length j.events) then end else j.close

-- What is claimed: "Names change no state".
pub record NamesLeave : Type 0 where
  -- a name's record leaves the state as it is
  pub state : (s : State) (d : ℕ) (word : List ℕ) → state_from s (call_of (name d word)) ≡ s
  -- and wherever it stands, the calls are those of the records without it
  pub calls : (before after : List Event) (d : ℕ) (word : List ℕ) → calls_of (before ++ (name d word ∷ after)) ≡ calls_of (before ++ after)
