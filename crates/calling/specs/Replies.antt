-- The text that answers a line of the console, from the rules' reply.
use Rattle.std.specs.Prelude.{ℕ, List, [], ◌++◌, map, length, take, eqb}
use Rattle.laws.specs.Bools.{when◌then◌else◌}
use Rattle.rules.specs.declared.Setup.{Setup}
use Rattle.rules.specs.declared.State.{State}
use Rattle.rules.specs.State.{at}
use Rattle.rules.specs.Setup.{setup_in_range}
use Rattle.rules.specs.Board.{blank, line_end, numbered}
use Rattle.rules.specs.Calls.{Reply, Call, job, pick, report, ask, board, setup_reply, reply_to}
use Rattle.lines.specs.Names.{setup_name, job_name, pick_name, report_name, ask_name, board_name, nojob_name, nopick_name}
use Rattle.lines.specs.Texts.{counted, shown_byte, move_word, malformed_text, refused_text}
use Rattle.calling.specs.Meaning.{Line, nothing, malformed, setup, call}

-- An accepted call: its values, and what the lent buffer holds at the end.
unfoldable pub values_text : Call → List ℕ → List ℕ → List ℕ
-- job number, how many were put off, their positions; with one value, all were put off and no job came to be
values_text (job now t dests list) values buffer =
    when eqb (length values) 1
    then nojob_name ++ counted (at values 0) buffer ++ line_end
    else job_name ++ numbered (at values 0) ++ counted (at values 1) buffer ++ line_end
-- job, entry, ticket, jobs passed over; with one value, nothing was picked
values_text (pick now) values buffer =
    when eqb (length values) 1
    then nopick_name ++ numbered (at values 0) ++ line_end
    else pick_name ++ numbered (at values 0) ++ numbered (at values 1) ++ numbered (at values 2) ++ numbered (at values 3) ++ line_end
-- how many were put off, their entry numbers, why the destination's number moved
values_text (report now e ticket outcome list) values buffer =
    report_name ++ counted (at values 0) buffer ++ blank ++ move_word (at values 1) ++ line_end
-- entries that ever preempted it
values_text (ask j) values buffer = ask_name ++ numbered (at values 0) ++ line_end
-- length and text, each byte 10 shown as '|'
values_text (board text) values buffer =
    board_name ++ numbered (at values 0) ++ blank ++ map shown_byte (take (at values 0) buffer) ++ line_end

-- A call: a refused one has no values.
unfoldable pub reply_text : Call → Reply → List ℕ
reply_text c r =
    when eqb (length r.says.values) 0
    then refused_text r.says.refusal
    else values_text c r.says.values r.buffer

-- A set-up: an accepted one has no values either.
unfoldable pub start_text : Setup → List ℕ
start_text u = when setup_in_range u then setup_name ++ line_end else refused_text (setup_reply u).says.refusal

-- What a line is answered with.
unfoldable pub text_on : State → Line → List ℕ
text_on s nothing = []
text_on s malformed = malformed_text
text_on s (setup u) = start_text u
text_on s (call c) = reply_text c (reply_to s c)
