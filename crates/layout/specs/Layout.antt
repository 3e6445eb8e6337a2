-- The lists of `run`: how numbers are read as calls, and how answers are written as numbers. docs/RUN.md has the same as a table.
use Rattle.std.specs.Prelude.{ℕ, zero, suc, ◌+◌, ◌-◌, Bool, ◌||◌, List, [], ◌∷◌, length, get_or, take, drop, eqb, ltb}
use Rattle.laws.specs.Bools.{when◌then◌else◌}
use Rattle.laws.specs.Sequence.{padded}
use Rattle.rules.specs.declared.Outcome.{Outcome}
use Rattle.layout.specs.declared.RunEnd.{RunEnd}
use Rattle.layout.specs.declared.RunEnd.TheVariants.{Refused, Whole, Short, Unknown, NoRoom}
use Rattle.rules.specs.Calls.{Says, Reply, Call, job, pick, report, ask, board}

abbrev pub word : List ℕ → ℕ → ℕ
word words i = get_or words i 0

-- A call is its kind and its arguments:
--   1 job: clock, transport, places of its put-off list, count, then count destinations
--   2 pick: clock
--   3 report of a success, 4 report of a failure: clock, entry, ticket, places of its put-off list
--   5 asking about a job: its number
--   6 board text: the length of its buffer

abbrev pub is_kind : ℕ → List ℕ → Bool
is_kind k words = eqb (word words 0) k

-- how many numbers there are before a job's destinations; 0 for an unknown kind
unfoldable pub head_of : ℕ → ℕ
head_of k = when eqb k 1 || eqb k 3 || eqb k 4 then 5 else when eqb k 2 || eqb k 5 || eqb k 6 then 2 else 0

unfoldable pub tail_of : List ℕ → ℕ
tail_of words = when is_kind 1 words then word words 4 else 0

-- how many numbers the call at the front takes
unfoldable pub size_of : List ℕ → ℕ
size_of words = head_of (word words 0) + tail_of words

-- how many places of the slice of lists, and of the slice of texts, are lent to it
unfoldable pub list_places : List ℕ → ℕ
list_places words =
    when is_kind 1 words then word words 3
    else when is_kind 3 words || is_kind 4 words then word words 4
    else 0

unfoldable pub text_places : List ℕ → ℕ
text_places words = when is_kind 6 words then word words 1 else 0

-- the call at the front, with the buffers that it is lent
unfoldable pub call_of : List ℕ → List ℕ → List ℕ → Call
call_of words list text =
    when is_kind 1 words then job (word words 1) (word words 2) (take (word words 4) (drop 5 words)) list
    else when is_kind 2 words then pick (word words 1)
    else when is_kind 3 words then report (word words 1) (word words 2) (word words 3) Outcome.Success list
    else when is_kind 4 words then report (word words 1) (word words 2) (word words 3) Outcome.Failure list
    else when is_kind 5 words then ask (word words 1)
    else board text

-- An answer is its refusal, 0 for none; how many values it has; and the values, with zeros behind them up to `row_values`.

abbrev pub row_values : ℕ
row_values = 4

abbrev pub row_length : ℕ
row_length = 2 + row_values

abbrev pub answer_row : Says → List ℕ
answer_row a = a.refusal ∷ length a.values ∷ padded row_values a.values

-- the closing contents of the put-off list, and of the board's buffer, where the call was lent one
unfoldable pub list_added : Call → Reply → List ℕ
list_added (job now t dests list) r = r.buffer
list_added (pick now) r = []
list_added (report now e ticket outcome list) r = r.buffer
list_added (ask j) r = []
list_added (board buffer) r = []

unfoldable pub text_added : Call → Reply → List ℕ
text_added (job now t dests list) r = []
text_added (pick now) r = []
text_added (report now e ticket outcome list) r = []
text_added (ask j) r = []
text_added (board buffer) r = r.buffer

-- Why a run ends before the call at the front: 1 there is none; 2 the list is cut short; 3 its kind is unknown; 4 a slice has no room for its
-- answer or its buffer. 0: it does not end. The rooms are the places left for answers, for lists and for texts.

unfoldable pub lacks_room : List ℕ → ℕ → ℕ → ℕ → Bool
lacks_room words answers lists texts = ltb answers row_length || ltb lists (list_places words) || ltb texts (text_places words)

unfoldable pub end_before : List ℕ → ℕ → ℕ → ℕ → ℕ
end_before words answers lists texts =
    when eqb (length words) 0 then 1
    else when eqb (head_of (word words 0)) 0 then 3
    else when ltb (length words) (size_of words) then 2
    else when lacks_room words answers lists texts then 4
    else 0

-- each end's number: so, or 0 where the set-up was refused
abbrev pub end_number : RunEnd → ℕ
end_number Refused = 0
end_number Whole = 1
end_number Short = 2
end_number Unknown = 3
end_number NoRoom = 4

-- The calls that are run, and why it ends.

pub record Reading : Type 0 where
  pub calls : List Call
  pub end : ℕ

unfoldable pub then_read : ℕ → Call → Reading → Reading
then_read zero call rest = record { calls = call ∷ rest.calls; end = rest.end }
then_read (suc e) call rest = record { calls = []; end = suc e }

-- at most k calls: a list of k numbers holds no more. Each is lent its buffers from what those before it left of the slices
unfoldable pub reading : ℕ → List ℕ → ℕ → List ℕ → List ℕ → Reading
reading zero words answers lists texts = record { calls = []; end = 1 }
reading (suc k) words answers lists texts =
    then_read (end_before words answers (length lists) (length texts))
    (call_of words (take (list_places words) lists) (take (text_places words) texts))
    (reading k (drop (size_of words) words) (answers - row_length) (drop (list_places words) lists) (drop (text_places words) texts))
