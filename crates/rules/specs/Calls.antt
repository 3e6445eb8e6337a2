-- Each call whole: from the state and all arguments, lent buffers' contents among them, to what it answers, the closing state and the closing
-- buffer; and beside that what the rules decided.
use Rattle.std.specs.Prelude.{ℕ, zero, suc, List, [], ◌∷◌, ◌++◌, map, length, drop, eqb}
use Rattle.laws.specs.Bools.{when◌then◌else◌}
use Rattle.rules.specs.declared.Setup.{Setup}
use Rattle.rules.specs.declared.State.{State}
use Rattle.rules.specs.declared.Outcome.{Outcome}
use Rattle.rules.specs.State.{at, job_of, destination_of}
use Rattle.rules.specs.Setup.{zero_state, fresh_state}
use Rattle.rules.specs.Windows.{move_number, woken}
use Rattle.rules.specs.Taking.{put_off_positions, kept_of, n_of, new_number, taken}
use Rattle.rules.specs.Picking.{finds}
use Rattle.rules.specs.Pick.{Preemption, Found, Picked, picking}
use Rattle.rules.specs.Reporting.{Reported, reporting}
use Rattle.rules.specs.Board.{board_text}
use Rattle.rules.specs.Refusals.{setup_refusal, job_refusal, pick_refusal, report_refusal, ask_refusal, board_refusal}

-- what a call answers, in the paper's numbers: the refusal, 0 for none, and the values of an accepted call
pub record Says : Type 0 where
  pub refusal : ℕ
  pub values : List ℕ

-- what a call gives back
pub record Reply : Type 0 where
  pub says : Says
  pub state : State
  -- what the lent buffer holds at the end; nothing where none is lent
  pub buffer : List ℕ

-- an outcome that is told by a number: "0 success or 1 failure" (A1)
unfoldable pub outcome_of : ℕ → Outcome
outcome_of n = when eqb n 1 then Outcome.Failure else Outcome.Success

-- a call's arguments
pub data Call : Type 0 where
  -- clock, transport, a destination an entry, put-off list
  job : ℕ → ℕ → List ℕ → List ℕ → Call
  -- clock
  pick : ℕ → Call
  -- clock, entry, ticket, outcome, put-off list
  report : ℕ → ℕ → ℕ → Outcome → List ℕ → Call
  -- job number
  ask : ℕ → Call
  -- the board's buffer
  board : List ℕ → Call

-- the buffer that a call is lent, as it comes; nothing where none is lent
abbrev pub lent_to : Call → List ℕ
lent_to (job now t dests list) = list
lent_to (pick now) = []
lent_to (report now e ticket outcome list) = list
lent_to (ask j) = []
lent_to (board buffer) = buffer

-- the refusal that a call meets, 0 for none
abbrev pub refusal_of : State → Call → ℕ
refusal_of s (job now t dests list) = job_refusal s now t dests list
refusal_of s (pick now) = pick_refusal s now
refusal_of s (report now e ticket outcome list) = report_refusal s now e ticket list
refusal_of s (ask j) = ask_refusal s j
refusal_of s (board buffer) = board_refusal s buffer

abbrev pub refused : ℕ → Says
refused k = record { refusal = k; values = [] }

abbrev pub granted : List ℕ → Says
granted vs = record { refusal = 0; values = vs }

-- the values are written from the front; "List places past the count stay untouched"
abbrev pub written : List ℕ → List ℕ → List ℕ
written vs buffer = vs ++ drop (length vs) buffer

-- "Each returns only its number; the state and every lent buffer stay as they came"
unfoldable pub unless_refused : ℕ → State → List ℕ → Reply → Reply
unless_refused zero s buffer r = r
unless_refused (suc k) s buffer r = record { says = refused (suc k); state = s; buffer = buffer }

-- Set-up. "A refused set-up gives a state of all zeros."

unfoldable pub setup_reply : Setup → Reply
setup_reply u = unless_refused (setup_refusal u) zero_state [] (record { says = granted []; state = fresh_state u; buffer = [] })

-- What an accepted call gives back.

-- A job, from the state w after waking. "The answer is the job number and how many were put off; with n = 0 no job comes to be and only that
-- count is answered."
unfoldable pub taking_reply : State → ℕ → ℕ → List ℕ → List ℕ → Reply
taking_reply w now t dests list =
    when eqb (n_of w dests) 0
    then record {
      says = granted (length (put_off_positions w dests) ∷ []);
      state = w;
      buffer = written (put_off_positions w dests) list;
    }
    else record {
      says = granted (new_number w ∷ length (put_off_positions w dests) ∷ []);
      state = taken w (new_number w) t now (kept_of w dests);
      buffer = written (put_off_positions w dests) list;
    }

-- A pick. "A pick answers job, entry, ticket and the number of jobs passed over"; "Nothing picked: that count is 0 and no turn or ticket moves;
-- the call is still accepted, with its clock and waking."
unfoldable pub picking_reply : State → Picked → Reply
picking_reply w p =
    record {
      says = granted (p.found.job ∷ p.found.entry ∷ w.ticket ∷ p.found.passed ∷ []);
      state = p.state;
      buffer = [];
    }

-- of the state after waking
unfoldable pub after_pick : State → ℕ → Reply
after_pick w now =
    when finds w then picking_reply w (picking w now) else record { says = granted (0 ∷ []); state = w; buffer = [] }

-- A report. "A report answers how many were put off", and hands on why the destination's number moved (A7).
unfoldable pub reporting_reply : Reported → List ℕ → Reply
reporting_reply r list =
    record {
      says = granted (length r.putoff ∷ move_number r.moved ∷ []);
      state = r.state;
      buffer = written r.putoff list;
    }

-- Asking about a job: "the entries that ever preempted it". Board text: "The answer is the text's length; bytes past it stay."
abbrev pub accepted : State → Call → Reply
accepted s (job now t dests list) = taking_reply (woken s now) now t dests list
accepted s (pick now) = after_pick (woken s now) now
accepted s (report now e ticket outcome list) = reporting_reply (reporting (woken s now) now e (destination_of s e) outcome) list
accepted s (ask j) = record { says = granted (at s.jobs.overtakers j ∷ []); state = s; buffer = [] }
accepted s (board buffer) = record { says = granted (length (board_text s) ∷ []); state = s; buffer = written (board_text s) buffer }

-- Any call: it is refused, or accepted.

unfoldable pub reply_to : State → Call → Reply
reply_to s call = unless_refused (refusal_of s call) s (lent_to call) (accepted s call)

-- each call by its name

abbrev pub job_reply : State → ℕ → ℕ → List ℕ → List ℕ → Reply
job_reply s now t dests list = reply_to s (job now t dests list)

abbrev pub pick_reply : State → ℕ → Reply
pick_reply s now = reply_to s (pick now)

abbrev pub report_reply : State → ℕ → ℕ → ℕ → Outcome → List ℕ → Reply
report_reply s now e ticket outcome list = reply_to s (report now e ticket outcome list)

abbrev pub ask_reply : State → ℕ → Reply
ask_reply s j = reply_to s (ask j)

abbrev pub board_reply : State → List ℕ → Reply
board_reply s buffer = reply_to s (board buffer)

-- What the rules decide.

-- one thing that happened: what the tally and the accounts are fed
pub data Decision : Type 0 where
  -- the job taken, its transport and its n
  took : ℕ → ℕ → ℕ → Decision
  -- the job picked, the number passed over, the jobs gone past (A13), who preempted whom with how many waiting
  picked : ℕ → ℕ → List ℕ → Preemption → Decision
  -- the job of an entry that a report put off
  put_off : ℕ → Decision

unfoldable pub taking_decisions : State → ℕ → List ℕ → List Decision
taking_decisions w t dests = when eqb (n_of w dests) 0 then [] else took (new_number w) t (n_of w dests) ∷ []

abbrev pub picking_decision : Found → Decision
picking_decision f = picked f.job f.passed f.past f.preempted

unfoldable pub pick_decisions : State → ℕ → List Decision
pick_decisions w now = when finds w then picking_decision (picking w now).found ∷ [] else []

-- what happened in an accepted call, in order
abbrev pub decided : State → Call → List Decision
decided s (job now t dests list) = taking_decisions (woken s now) t dests
decided s (pick now) = pick_decisions (woken s now) now
decided s (report now e ticket outcome list) = map put_off (map (job_of s) (reporting (woken s now) now e (destination_of s e) outcome).putoff)
decided s (ask j) = []
decided s (board buffer) = []

unfoldable pub decided_unless : ℕ → List Decision → List Decision
decided_unless zero ds = ds
decided_unless (suc k) ds = []

unfoldable pub decisions_on : State → Call → List Decision
decisions_on s call = decided_unless (refusal_of s call) (decided s call)
