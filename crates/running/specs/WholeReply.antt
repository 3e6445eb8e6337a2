-- What `run` gives back: the rules' replies to the calls that it was handed, laid out as layout/specs/Layout.antt says, and demand 3 of these calls.
use Rattle.std.specs.Prelude.{ℕ, ◌≡◌, true, List, length}
use Rattle.laws.specs.Bools.{when◌then◌else◌}
use Rattle.rules.specs.declared.Setup.{Setup}
use Rattle.rules.specs.declared.State.{State}
use Rattle.rules.specs.Setup.{setup_in_range, fresh_state}
use Rattle.rules.specs.Calls.{Reply, Call, written}
use Rattle.rules.specs.History.{gathered}
use Rattle.rules.specs.Demand3.{Demand3, Companions}
use Rattle.running.specs.declared.RunAnswer.{RunAnswer}
use Rattle.layout.specs.Layout.{answer_row, end_number, list_added, text_added, Reading, reading}

abbrev pub row_added : Call → Reply → List ℕ
row_added call r = answer_row r.says

-- how many calls were run, why it ended (0: the set-up was refused), and what the three slices hold at the end
pub record Ran : Type 0 where
  pub calls : ℕ
  pub end : ℕ
  pub answers : List ℕ
  pub lists : List ℕ
  pub texts : List ℕ

abbrev pub calls_read : List ℕ → List ℕ → List ℕ → List ℕ → Reading
calls_read words answers lists texts = reading (length words) words (length answers) lists texts

-- from a state; what lies past the written places is untouched
unfoldable pub ran_from : State → Reading → List ℕ → List ℕ → List ℕ → Ran
ran_from s r answers lists texts =
    record {
      calls = length r.calls;
      end = r.end;
      answers = written (gathered row_added s r.calls) answers;
      lists = written (gathered list_added s r.calls) lists;
      texts = written (gathered text_added s r.calls) texts;
    }

-- "A refused set-up runs nothing"
unfoldable pub run_reply : Setup → List ℕ → List ℕ → List ℕ → List ℕ → Ran
run_reply u words answers lists texts =
    when setup_in_range u
    then ran_from (fresh_state u) (calls_read words answers lists texts) answers lists texts
    else record { calls = 0; end = 0; answers = answers; lists = lists; texts = texts }

abbrev pub run_gave : RunAnswer → List ℕ → List ℕ → List ℕ → Ran
run_gave r answers lists texts =
    record { calls = r.calls; end = end_number r.end; answers = answers; lists = lists; texts = texts }

-- demand 3 with its companions, of the calls that were run
abbrev pub Demand3OfRun : Setup → List Call → Type 0
Demand3OfRun u calls = setup_in_range u ≡ true → Demand3 u calls × Companions u calls
