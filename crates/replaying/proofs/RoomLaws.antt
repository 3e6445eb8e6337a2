-- What a replay prints has room in a buffer of 4,096 bytes and five more for each byte of the journal: a record has two bytes or more.
use Prim.Native.Nat.{ℕ, zero, suc, ◌+◌, ◌*◌, ◌/◌, ◌≤◌, ◌<◌}
use mathlib.Core.Path.{◌≡◌, ◌∙◌, ap}
use mathlib.Core.Bool.{Bool}
use mathlib.Core.List.{List, [], ◌∷◌}
use native.Mathlib.Decide.{dec_lt}
use native.Mathlib.Omega.{arith}
use lib.ListN.{length, take, length-append, length-take}
use lib.Seq.{sets-eq, take_at}
use Rattle.laws.specs.Bools.{when◌then◌else◌}
use Rattle.laws.proofs.Bools.{if_cases}
use Rattle.rules.specs.declared.State.{State}
use Rattle.rules.specs.State.{at}
use Rattle.rules.specs.Setup.{fresh_state}
use Rattle.rules.specs.Board.{decimal}
use Rattle.rules.specs.Refusals.{job_refusal, pick_refusal, report_refusal, ask_refusal, board_refusal}
use Rattle.rules.specs.Calls.{Call, job, pick, report, ask, board, refusal_of, reply_to}
use Rattle.rules.specs.History.{gathered}
use Rattle.rules.proofs.Refused.{refusal_answered}
use Rattle.writing.proofs.Decimals.{decimal_length, digits_small, digits_more}
use Rattle.lines.specs.Texts.{Put, move_word}
use Rattle.journal.specs.Records.{Event, Close, end, refused}
use Rattle.journal.specs.Records.{name as name_record, job as job_record, pick as pick_record, report as report_record}
use Rattle.journal.specs.Journals.{Journal}
use Rattle.journal.specs.Replays.{call_of, calls_of, events_used, calls_used, count_used, close_used}
use Rattle.playing.specs.Plays.{accepted_line, number_line, printed}
use Rattle.replaying.specs.Replay.{replay_setup, close_line, played_text, end_text, replay_text}
use Rattle.replaying.proofs.BoardLaws.{board_after}

-- Calls: at most one a record.

call_one : (e : Event) → length (call_of e) ≤ 1
unfolding call_of
call_one (name_record d bytes) = omega arith
call_one (job_record clock t dests) = omega arith
call_one (pick_record clock) = omega arith
call_one (report_record clock e ticket outcome) = omega arith

calls_few : (es : List Event) → length (calls_of es) ≤ length es
unfolding calls_of
calls_few [] = omega arith
calls_few (e ∷ es) = rw length-append (omega (arith, call_one e, calls_few es))

-- What a call prints: a word of at most nine letters or a number of at most two digits, and a line end.

either_few : (b : Bool) {k m : ℕ} → k ≤ 11 → m ≤ 11 → (when b then k else m) ≤ 11
either_few b h l = if_cases (λ n. n ≤ 11) b (λ e. h) (λ e. l)

refusal_few : (s : State) (call : Call) → refusal_of s call ≤ 11
unfolding job_refusal pick_refusal report_refusal ask_refusal board_refusal
refusal_few s (job now t dests list) =
    either_few _ (omega arith)
    (either_few _ (omega arith)
    (either_few _ (omega arith)
    (either_few _ (omega arith)
    (either_few _ (omega arith) (either_few _ (omega arith) (either_few _ (omega arith) (either_few _ (omega arith) (omega arith))))))))
refusal_few s (pick now) = either_few _ (omega arith) (either_few _ (omega arith) (omega arith))
refusal_few s (report now e ticket outcome list) =
    either_few _ (omega arith) (either_few _ (omega arith) (either_few _ (omega arith) (either_few _ (omega arith) (omega arith))))
refusal_few s (ask j) = either_few _ (omega arith) (either_few _ (omega arith) (omega arith))
refusal_few s (board buffer) = either_few _ (omega arith) (either_few _ (omega arith) (omega arith))

word_short : (k : ℕ) → length (move_word k) ≤ 9
word_short zero = omega arith
word_short (suc zero) = omega arith
word_short (suc (suc zero)) = omega arith
word_short (suc (suc (suc zero))) = omega arith
word_short (suc (suc (suc (suc zero)))) = omega arith
word_short (suc (suc (suc (suc (suc k))))) = omega arith

accepted_short : (call : Call) (values : List ℕ) → length (accepted_line call values) ≤ 10
unfolding accepted_line
accepted_short (job now t dests list) values = omega arith
accepted_short (pick now) values = omega arith
accepted_short (report now e ticket outcome list) values = rw length-append (omega (arith, word_short (at values 1)))
accepted_short (ask j) values = omega arith
accepted_short (board buffer) values = omega arith

two_digits : (x : ℕ) → x < 100 → length (decimal x) ≤ 2
two_digits x h = elim (dec_lt x 10) [
  | yes l ↦ omega (arith, digits_small x l)
  | no l ↦ omega (arith, digits_more x (omega arith) (omega arith), digits_small (x / 10) (omega arith))
]

refused_short : (s : State) (call : Call) → length (number_line (reply_to s call).says.refusal) ≤ 10
refused_short s call =
    let h = two_digits (reply_to s call).says.refusal (omega (arith, refusal_answered s call, refusal_few s call)) in
    rw length-append (omega (arith, h))

printed_short : (s : State) (call : Call) → length (printed call (reply_to s call)) ≤ 10
unfolding printed
printed_short s call = if_cases {A = List ℕ} (λ t. length t ≤ 10) _ (λ e. accepted_short call (reply_to s call).says.values) (λ e. refused_short s call)

gathered_short : (s : State) (calls : List Call) → length (gathered printed s calls) ≤ 10 * length calls
unfolding gathered
gathered_short s [] = omega arith
gathered_short s (call ∷ calls) = rw length-append (omega (arith, printed_short s call, gathered_short (reply_to s call).state calls))

-- The whole text.

close_short : (c : Close) → length (close_line c) ≤ 42
unfolding close_line
close_short end = omega arith
close_short (refused k offset) = simp length-append (omega (arith, decimal_length k, decimal_length offset))

pub text_fits : (j : Journal) (n budget : ℕ) → 2 * length j.events ≤ n → length (replay_text j budget) ≤ 5 * n + 4096
unfolding replay_text played_text end_text calls_used events_used
text_fits j n budget h =
    let calls = gathered_short (fresh_state replay_setup) (calls_used j budget) in
    let few = calls_few (take budget j.events) in
    let used = length-take budget j.events in
    let close = close_short (close_used j budget) in
    simp length-append (omega (arith, calls, few, used, close, decimal_length (count_used j budget), board_after (calls_used j budget)))

-- A text that has room is stored whole.
pub text_whole : {text entry exit : List ℕ} {r : ℕ} → Put text entry 0 exit r → length text ≤ length entry → take r exit ≡ text
text_whole {text} {entry} {exit} {r} p h =
    ap (take r) (p.bytes ∙ sets-eq text entry 0 (omega arith)) ∙ take_at text _ r (omega (arith, p.next))
