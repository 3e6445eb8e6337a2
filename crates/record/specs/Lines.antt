-- What a line of `record` says, what is written for it, and what is told of it. docs/REPLAY.md, "Writing one".
use Rattle.std.specs.Prelude.{ℕ, ◌+◌, ◌≡◌, ◌&&◌, List, [], ◌∷◌, length, take, drop, Option, Some, None, Result, Ok, Err, eqb, ltb}
use Rattle.laws.specs.Bools.{when◌then◌else◌}
use Rattle.laws.specs.Sequence.{up_to}
use Rattle.rules.specs.declared.Refusal.{Refusal}
use Rattle.rules.specs.State.{at}
use Rattle.lines.specs.declared.input.Part.{Part}
use Rattle.lines.specs.Names.{job_name, pick_name, report_name}
use Rattle.lines.specs.Words.{words_of, same_bytes, is_number, value_of, all_numbers, numbers_of}
use Rattle.journal.specs.Records.{Event, name, job, pick, report}
use Rattle.journal.specs.Writes.{bytes_of, writable}
use Rattle.record.specs.declared.Unwritten.{Unwritten}

pub data Line : Type 0 where
  -- an empty line, or one that begins with '#'
  nothing : Line
  -- not a line that says a record
  none : Line
  says : Event → Line

-- "name"
abbrev pub name_name : List ℕ
name_name = 110 ∷ 97 ∷ 109 ∷ 101 ∷ []

-- the line without the blanks at its front
unfoldable pub unblanked : List ℕ → List ℕ
unblanked [] = []
unblanked (b ∷ line) = when eqb b 32 then unblanked line else b ∷ line

-- the first word of a line that begins with one, and what stands behind it
abbrev pub first_word : List ℕ → List ℕ
first_word line = up_to 32 line

abbrev pub behind : List ℕ → List ℕ
behind line = drop (length (first_word line)) line

-- behind the word: D TEXT, "the rest of the line behind one blank"
unfoldable pub name_line : List ℕ → Line
name_line line =
    when ltb 0 (length (first_word line)) && is_number (first_word line) && ltb 0 (length (behind line))
    then says (name (value_of (first_word line)) (drop 1 (behind line)))
    else none

-- clock transport count, then count destinations
unfoldable pub job_line : List ℕ → Line
job_line words = when eqb (length words) (3 + at words 2) then says (job (at words 0) (at words 1) (drop 3 words)) else none

-- clock
unfoldable pub pick_line : List ℕ → Line
pick_line words = when eqb (length words) 1 then says (pick (at words 0)) else none

-- clock entry ticket outcome
unfoldable pub report_line : List ℕ → Line
report_line words = when eqb (length words) 4 then says (report (at words 0) (at words 1) (at words 2) (at words 3)) else none

-- a word and its numbers
unfoldable pub numbers_line : List ℕ → List ℕ → Line
numbers_line word words =
    when same_bytes word job_name then job_line words
    else when same_bytes word pick_name then pick_line words
    else when same_bytes word report_name then report_line words
    else none

unfoldable pub words_line : List (List ℕ) → Line
words_line [] = nothing
words_line (word ∷ words) = when all_numbers words then numbers_line word (numbers_of words) else none

unfoldable pub line_of : List ℕ → Line
line_of line =
    when eqb (at line 0) 35 then nothing
    else when same_bytes (first_word (unblanked line)) name_name then name_line (unblanked (behind (unblanked line)))
    else words_line (words_of line)

-- of a line that was too long only its end is there: a comment where it began with '#', else no line that says a record
unfoldable pub line_in : Part → List ℕ → Line
line_in Part.Whole line = line_of line
line_in Part.TooLong line = none
line_in Part.TooLongComment line = nothing

-- what is written: a line that says no record, or one that is refused, "leaves the journal as if it were not there"
unfoldable pub bytes_for : Line → List ℕ
bytes_for nothing = []
bytes_for none = []
bytes_for (says e) = when writable e then bytes_of e else []

-- what is done: so many bytes are written, or the line is told of; there is room for every record
unfoldable pub done_with : Line → Result (Option ℕ) Unwritten
done_with nothing = Ok None
done_with none = Err Unwritten.NoRecord
done_with (says e) = when writable e then Ok (Some (length (bytes_of e))) else Err (Unwritten.Refused Refusal.OutOfRange)

-- how many bytes that is
unfoldable pub size_of : Result (Option ℕ) Unwritten → ℕ
size_of (Ok (Some n)) = n
size_of (Ok None) = 0
size_of (Err u) = 0

-- What the code promises of a line: that is what is done, and its bytes stand at the front of the buffer that is left.
pub record Done (line : Line) (r : Result (Option ℕ) Unwritten) (exit : List ℕ) : Type 0 where
  pub answer : r ≡ done_with line
  pub bytes : take (size_of r) exit ≡ bytes_for line

-- How the code tells of a line that is neither empty nor a comment.
abbrev pub of_record : Result ℕ Unwritten → Result (Option ℕ) Unwritten
of_record (Ok n) = Ok (Some n)
of_record (Err u) = Err u
