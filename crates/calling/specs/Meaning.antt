-- What a line of the console says, and what becomes of the state.
use Rattle.std.specs.Prelude.{ℕ, ◌+◌, ◌&&◌, List, [], ◌∷◌, length, take, drop, eqb, leb}
use Rattle.laws.specs.Bools.{when◌then◌else◌}
use Rattle.rules.specs.declared.Setup.{Setup}
use Rattle.rules.specs.declared.State.{State}
use Rattle.rules.specs.State.{at}
use Rattle.rules.specs.Calls.{Call, job, pick, report, ask, board, outcome_of, setup_reply, reply_to}
use Rattle.lines.specs.Names.{setup_name, job_name, pick_name, report_name, ask_name, board_name}
use Rattle.lines.specs.Words.{words_of, same_bytes, all_numbers, numbers_of}
use Rattle.lines.specs.Setups.{announced, setup_of}

pub data Line : Type 0 where
  -- an empty line, or one that begins with '#': no call, and no answer
  nothing : Line
  malformed : Line
  setup : Setup → Line
  call : Call → Line

-- The calls: their numbers and, in the order of these, their arguments. A call is lent as many places of a buffer as the line says, or all where the
-- buffer has fewer.

-- T, T times 13 numbers, D, D transport numbers
unfoldable pub setup_line : List ℕ → Line
setup_line words = when announced words then setup (setup_of words) else malformed

-- clock transport list-places count, then count destinations
unfoldable pub job_line : List ℕ → List ℕ → Line
job_line words list =
    when eqb (length words) (4 + at words 3)
    then call (job (at words 0) (at words 1) (drop 4 words) (take (at words 2) list))
    else malformed

-- clock
unfoldable pub pick_line : List ℕ → Line
pick_line words = when eqb (length words) 1 then call (pick (at words 0)) else malformed

-- clock entry ticket outcome list-places
unfoldable pub report_line : List ℕ → List ℕ → Line
report_line words list =
    when eqb (length words) 5 && leb (at words 3) 1
    then call (report (at words 0) (at words 1) (at words 2) (outcome_of (at words 3)) (take (at words 4) list))
    else malformed

-- job
unfoldable pub ask_line : List ℕ → Line
ask_line words = when eqb (length words) 1 then call (ask (at words 0)) else malformed

-- buffer-length
unfoldable pub board_line : List ℕ → List ℕ → Line
board_line words text = when eqb (length words) 1 then call (board (take (at words 0) text)) else malformed

-- A name and its numbers.
unfoldable pub call_line : List ℕ → List ℕ → List ℕ → List ℕ → Line
call_line name words list text =
    when same_bytes name setup_name then setup_line words
    else when same_bytes name job_name then job_line words list
    else when same_bytes name pick_name then pick_line words
    else when same_bytes name report_name then report_line words list
    else when same_bytes name ask_name then ask_line words
    else when same_bytes name board_name then board_line words text
    else malformed

-- A line's words: the first is the name, each other a number.
unfoldable pub meaning_of_words : List (List ℕ) → List ℕ → List ℕ → Line
meaning_of_words [] list text = nothing
meaning_of_words (name ∷ words) list text = when all_numbers words then call_line name (numbers_of words) list text else malformed

-- A line, with what the lent list and the lent text hold.
unfoldable pub meaning_of : List ℕ → List ℕ → List ℕ → Line
meaning_of line list text = when eqb (at line 0) 35 then nothing else meaning_of_words (words_of line) list text

-- What becomes of the state.
unfoldable pub state_on : State → Line → State
state_on s nothing = s
state_on s malformed = s
state_on s (setup u) = (setup_reply u).state
state_on s (call c) = (reply_to s c).state
