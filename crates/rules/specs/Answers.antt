-- The paper's number and values for each case of each answer.
use Rattle.std.specs.Prelude.{ℕ, ◌≡◌, ◌<◌, List, [], ◌∷◌, Option, Some, None, Result, Ok, Err}
use Rattle.rules.specs.declared.Outcome.{Outcome}
use Rattle.rules.specs.declared.Outcome.TheVariants.{Success, Failure}
use Rattle.rules.specs.declared.Refusal.{Refusal}
use Rattle.rules.specs.declared.JobAnswer.{JobAnswer}
use Rattle.rules.specs.declared.PickAnswer.{PickAnswer}
use Rattle.rules.specs.declared.ReportAnswer.{ReportAnswer}
use Rattle.rules.specs.Windows.{move_number}
use Rattle.rules.specs.Calls.{Says, refused, granted}

-- each refusal's number in the table
abbrev pub refusal_number : Refusal → ℕ
refusal_number Refusal.Unsound = 1
refusal_number Refusal.SetupOutOfRange = 2
refusal_number Refusal.Clock = 3
refusal_number Refusal.Transport = 4
refusal_number Refusal.EntryCount = 5
refusal_number Refusal.Destination = 6
refusal_number Refusal.JobNumbers = 7
refusal_number Refusal.EntryPlaces = 8
refusal_number Refusal.Entry = 9
refusal_number Refusal.Room = 10
refusal_number Refusal.Job = 11
refusal_number Refusal.CutShort = 12
refusal_number Refusal.Number = 13
refusal_number Refusal.OutOfRange = 14

-- the number of what a test found, 0 for nothing to refuse
abbrev pub refusal_in : {A : Type 0} → Result A Refusal → ℕ
refusal_in (Ok a) = 0
refusal_in (Err k) = refusal_number k

-- each outcome's number
abbrev pub outcome_number : Outcome → ℕ
outcome_number Success = 0
outcome_number Failure = 1

-- the outcome that a number tells; a number above 1 tells none, and is a field out of its range
abbrev pub TellsOutcome : ℕ → Result Outcome Refusal → Type 0
TellsOutcome n (Ok o) = n ≡ outcome_number o
TellsOutcome n (Err k) = (1 < n) × (k ≡ Refusal.OutOfRange)

abbrev pub setup_says : Result (Unit {0}) Refusal → Says
setup_says (Err k) = refused (refusal_number k)
setup_says (Ok a) = granted []

-- the job number, where a job came to be, and how many were put off
abbrev pub job_values : Option ℕ → ℕ → List ℕ
job_values (Some j) putoff = j ∷ putoff ∷ []
job_values None putoff = putoff ∷ []

abbrev pub job_says : Result JobAnswer Refusal → Says
job_says (Err k) = refused (refusal_number k)
job_says (Ok a) = granted (job_values a.job a.putoff)

abbrev pub pick_says : Result (Option PickAnswer) Refusal → Says
pick_says (Err k) = refused (refusal_number k)
pick_says (Ok (Some a)) = granted (a.job ∷ a.entry ∷ a.ticket ∷ a.passed ∷ [])
pick_says (Ok None) = granted (0 ∷ [])

abbrev pub report_says : Result ReportAnswer Refusal → Says
report_says (Err k) = refused (refusal_number k)
report_says (Ok a) = granted (a.putoff ∷ move_number a.moved ∷ [])

-- the sum of a job asked about; the length of the board text
abbrev pub number_says : Result ℕ Refusal → Says
number_says (Err k) = refused (refusal_number k)
number_says (Ok n) = granted (n ∷ [])
