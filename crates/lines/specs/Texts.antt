-- The text of each answer, and what it is to put a text into a buffer.
use Rattle.std.specs.Prelude.{ℕ, ◌+◌, min, max, ◌≡◌, List, [], ◌∷◌, ◌++◌, map, length, get_or, take, Option, Some, None, Result, Ok, Err, eqb}
use Rattle.std.proofs.lemmas.List.Edits.{sets}
use Rattle.laws.specs.Bools.{when◌then◌else◌}
use Rattle.rules.specs.declared.Refusal.{Refusal}
use Rattle.rules.specs.declared.JobAnswer.{JobAnswer}
use Rattle.rules.specs.declared.PickAnswer.{PickAnswer}
use Rattle.rules.specs.declared.ReportAnswer.{ReportAnswer}
use Rattle.rules.specs.Windows.{move_number}
use Rattle.rules.specs.Answers.{refusal_number}
use Rattle.rules.specs.Board.{blank, line_end, numbered}
use Rattle.lines.specs.Names.{setup_name, job_name, pick_name, report_name, ask_name, board_name, nojob_name, nopick_name, refused_name, malformed_name, move_names}

-- The text is stored from a place on, byte for byte, as far as there are places; r is the next place.
pub record Put (text entry : List ℕ) (at : ℕ) (exit : List ℕ) (r : ℕ) : Type 0 where
  pub bytes : exit ≡ sets entry at text
  pub next : r ≡ max at (min (at + length text) (length entry))

-- each with a blank before it
unfoldable pub numbers : List ℕ → List ℕ
numbers [] = []
numbers (x ∷ list) = numbered x ++ numbers list

-- how many, then so many places of the list
abbrev pub counted : ℕ → List ℕ → List ℕ
counted n list = numbered n ++ numbers (take n list)

-- each byte 10 as '|'
unfoldable pub shown_byte : ℕ → ℕ
shown_byte b = when eqb b 10 then 124 else b

-- why the number moved, by the case's number
abbrev pub move_word : ℕ → List ℕ
move_word k = get_or move_names k []

-- Answers.

abbrev pub malformed_text : List ℕ
malformed_text = malformed_name ++ line_end

abbrev pub refused_text : ℕ → List ℕ
refused_text k = refused_name ++ numbered k ++ line_end

unfoldable pub setup_text : Result (Unit {0}) Refusal → List ℕ
setup_text (Err k) = refused_text (refusal_number k)
setup_text (Ok a) = setup_name ++ line_end

-- a job that came to be, or none
unfoldable pub taken_text : Option ℕ → ℕ → List ℕ → List ℕ
taken_text (Some j) putoff list = job_name ++ numbered j ++ counted putoff list ++ line_end
taken_text None putoff list = nojob_name ++ counted putoff list ++ line_end

unfoldable pub job_text : Result JobAnswer Refusal → List ℕ → List ℕ
job_text (Err k) list = refused_text (refusal_number k)
job_text (Ok a) list = taken_text a.job a.putoff list

-- an entry, or none
unfoldable pub found_text : Option PickAnswer → List ℕ
found_text (Some a) = pick_name ++ numbered a.job ++ numbered a.entry ++ numbered a.ticket ++ numbered a.passed ++ line_end
found_text None = nopick_name ++ numbered 0 ++ line_end

unfoldable pub pick_text : Result (Option PickAnswer) Refusal → List ℕ
pick_text (Err k) = refused_text (refusal_number k)
pick_text (Ok found) = found_text found

unfoldable pub report_text : Result ReportAnswer Refusal → List ℕ → List ℕ
report_text (Err k) list = refused_text (refusal_number k)
report_text (Ok a) list = report_name ++ counted a.putoff list ++ blank ++ move_word (move_number a.moved) ++ line_end

unfoldable pub ask_text : Result ℕ Refusal → List ℕ
ask_text (Err k) = refused_text (refusal_number k)
ask_text (Ok sum) = ask_name ++ numbered sum ++ line_end

-- of the lent text
unfoldable pub board_answer_text : Result ℕ Refusal → List ℕ → List ℕ
board_answer_text (Err k) text = refused_text (refusal_number k)
board_answer_text (Ok n) text = board_name ++ numbered n ++ blank ++ map shown_byte (take n text) ++ line_end
