-- How the inner functions tell of a record: a refusal alone, since its offset is where the record begins.
use Rattle.std.specs.Prelude.{ℕ, ◌≡◌, List, Option, Some, Result, Ok, Err}
use Rattle.rules.specs.declared.Refusal.{Refusal}
use Rattle.rules.specs.Answers.{refusal_number}
use Rattle.journal.specs.declared.Whole.{Whole}
use Rattle.journal.specs.Records.{Found}
use Rattle.journal.specs.Told.{Fault, answer_of, ReadingOf}

-- what is told of a record that begins at an offset
abbrev pub whole_at : ℕ → Result Whole Refusal → Result (Option Whole) Fault
whole_at start (Ok whole) = Ok (Some whole)
whole_at start (Err k) = Err (record { number = refusal_number k; offset = start })

-- the fields of a record, wherever it begins
abbrev pub Reads : (ℕ → Found) → Result Whole Refusal → Type 0
Reads fields r = (start : ℕ) → whole_at start r ≡ answer_of (fields start)

-- a job with its destinations in a list, or the refusal of a record that begins at an offset
abbrev pub Gives : ℕ → Found → List ℕ → Result Whole Refusal → Type 0
Gives start f list (Ok whole) = ReadingOf f (record { answer = Ok (Some whole); destinations = list })
Gives start f list (Err k) = Err (record { number = refusal_number k; offset = start }) ≡ answer_of f
