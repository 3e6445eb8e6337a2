-- Request A1: what a replay prints of a call, and the call of a record as the reader tells it.
use Rattle.std.specs.Prelude.{ℕ, List, [], ◌∷◌, ◌++◌, take, Result, Ok, Err, eqb}
use Rattle.laws.specs.Bools.{when◌then◌else◌}
use Rattle.rules.specs.declared.Refusal.{Refusal}
use Rattle.rules.specs.declared.ReportAnswer.{ReportAnswer}
use Rattle.rules.specs.State.{at}
use Rattle.rules.specs.Windows.{move_number}
use Rattle.rules.specs.Answers.{refusal_number}
use Rattle.rules.specs.Board.{decimal, line_end}
use Rattle.rules.specs.Calls.{Reply, Call, ask, board}
use Rattle.rules.specs.Calls.{job as job_call, pick as pick_call, report as report_call}
use Rattle.lines.specs.Texts.{move_word}
use Rattle.journal.specs.declared.Record.{Record}
use Rattle.journal.specs.Replays.{lent}

-- a number alone on its line
abbrev pub number_line : ℕ → List ℕ
number_line x = decimal x ++ line_end

-- A7: "prints it as one word an accepted report"; of other accepted calls nothing is printed
unfoldable pub accepted_line : Call → List ℕ → List ℕ
accepted_line (job_call now t dests list) values = []
accepted_line (pick_call now) values = []
accepted_line (report_call now e ticket outcome list) values = move_word (at values 1) ++ line_end
accepted_line (ask j) values = []
accepted_line (board text) values = []

-- "a call the scheduler refuses prints its number"
unfoldable pub printed : Call → Reply → List ℕ
printed call r =
    when eqb r.says.refusal 0
    then accepted_line call r.says.values
    else number_line r.says.refusal

-- What the parts of a replay promise.

-- the call of a record as the reader tells it, with a job's destinations beside it
unfoldable pub call_told : Record → List ℕ → List Call
call_told (Record.Name d size) dests = []
call_told (Record.Job clock t count) dests = job_call clock t (take count dests) lent ∷ []
call_told (Record.Pick clock) dests = pick_call clock ∷ []
call_told (Record.Report clock e ticket outcome) dests = report_call clock e ticket outcome lent ∷ []

-- what each answer prints

-- of a job and of a pick
unfoldable pub refusal_line : {A : Type 0} → Result A Refusal → List ℕ
refusal_line (Err k) = number_line (refusal_number k)
refusal_line (Ok a) = []

unfoldable pub report_line : Result ReportAnswer Refusal → List ℕ
report_line (Err k) = number_line (refusal_number k)
report_line (Ok a) = move_word (move_number a.moved) ++ line_end
