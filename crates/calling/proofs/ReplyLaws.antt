-- What a line is answered with: the text of each answer is that of the rules' reply.
use Prim.Native.Nat.{ℕ, zero, suc, ◌≤◌}
use mathlib.Core.Path.{◌≡◌, refl, sym, ◌∙◌, ap, subst}
use mathlib.Core.List.{List, [], ◌∷◌, ◌++◌, map}
use Rattle.std.proofs.Common.{Option, Some, None, Result, Ok, Err}
use native.Mathlib.Omega.{arith}
use lib.ListN.{length, drop, length-append}
use lib.Seq.{take-append-le}
use lib.Dec.{eqb}
use Rattle.laws.specs.Bools.{when◌then◌else◌}
use Rattle.laws.proofs.Bools.{case_bool}
use Rattle.rules.specs.declared.Setup.{Setup}
use Rattle.rules.specs.declared.State.{State}
use Rattle.rules.specs.declared.Outcome.{Outcome}
use Rattle.rules.specs.declared.Refusal.{Refusal}
use Rattle.rules.specs.declared.JobAnswer.{JobAnswer}
use Rattle.rules.specs.declared.PickAnswer.{PickAnswer}
use Rattle.rules.specs.declared.ReportAnswer.{ReportAnswer}
use Rattle.rules.specs.declared.HandedBack.{HandedBack}
use Rattle.rules.specs.State.{at, destination_of}
use Rattle.rules.specs.Setup.{setup_in_range}
use Rattle.rules.specs.Windows.{move_number, woken}
use Rattle.rules.specs.Taking.{put_off_positions, n_of}
use Rattle.rules.specs.Reporting.{reporting}
use Rattle.rules.specs.Board.{blank, line_end, numbered, board_text}
use Rattle.rules.specs.Refusals.{job_refusal, report_refusal, board_refusal}
use Rattle.rules.specs.Calls.{Reply, Call, job, pick, report, ask, board, granted, written, unless_refused, setup_reply, taking_reply, job_reply, pick_reply}
use Rattle.rules.specs.Calls.{reporting_reply, report_reply, ask_reply, board_reply, reply_to}
use Rattle.rules.specs.Answers.{setup_says, job_values, job_says, pick_says, report_says, number_says}
use Rattle.rules.specs.Gave.{SetupKept, accepts, job_gave, pick_gave, report_gave, ask_gave, board_gave}
use Rattle.lines.specs.Names.{job_name, nojob_name, report_name, board_name}
use Rattle.lines.specs.Texts.{Put, numbers, shown_byte, move_word, malformed_text, refused_text, setup_text, taken_text, job_text, found_text, pick_text, report_text, ask_text, board_answer_text}
use Rattle.lines.proofs.PutLaws.{put_none, put_as}
use Rattle.calling.specs.Meaning.{Line, nothing, malformed, setup, call, state_on}
use Rattle.calling.specs.Replies.{values_text, reply_text, start_text, text_on}

-- state and text are those of the line
abbrev pub Answers : State → Line → State → List ℕ → List ℕ → ℕ → Type 0
Answers s line x e y n = (x ≡ state_on s line) × Put (text_on s line) e 0 y n

pub as_line : (s : State) {x : State} {line m : Line} {e y : List ℕ} {n : ℕ} → line ≡ m → Answers s m x e y n → Answers s line x e y n
as_line s {x} {line} {m} {e} {y} {n} h a = subst (λ l. Answers s l x e y n) (sym h) a

put_long : {t e y : List ℕ} {n m : ℕ} → n ≡ m → Put t e 0 y m → Put t e 0 y n
put_long {t} {e} {y} h p = subst (λ k. Put t e 0 y k) (sym h) p

pub nothing_said : (s : State) {x : State} {e : List ℕ} {n : ℕ} → (x ≡ s) × (n ≡ 0) → Answers s nothing x e e n
unfolding state_on text_on
nothing_said s {x} {e} {n} l = (l.0, put_long l.1 (put_none e 0))

module _ (s : State) {x : State} {e y : List ℕ} {n : ℕ} where
  pub malformed_said : (x ≡ s) × Put malformed_text e 0 y n → Answers s malformed x e y n
  unfolding state_on text_on
  malformed_said a = a

  pub setup_said : (u : Setup) → (x ≡ (setup_reply u).state) × Put (start_text u) e 0 y n → Answers s (setup u) x e y n
  unfolding state_on text_on
  setup_said u a = a

  reply_said :
      (c : Call) (g : Reply) (t : List ℕ) (m : ℕ) → g ≡ reply_to s c → t ≡ reply_text c g → Put t e 0 y m → (x ≡ g.state) × (n ≡ m)
      → Answers s (call c) x e y n
  unfolding state_on text_on
  reply_said c g t m h q p l = (l.0 ∙ ap (λ r. r.state) h, put_long l.1 (put_as (q ∙ ap (reply_text c) h) p))

-- Set-ups.

start_text_lem : (u : Setup) (a : Result (Unit {0}) Refusal) → setup_says a ≡ (setup_reply u).says → accepts a ≡ setup_in_range u → setup_text a ≡ start_text u
unfolding setup_text start_text when◌then◌else◌
start_text_lem u (Err k) h q = rw (← q) (ap (λ w. refused_text w.refusal) h)
start_text_lem u (Ok a) h q = rw (← q) refl

pub start_said :
    {x : State} {e y : List ℕ} {n m : ℕ} (u : Setup) (r : HandedBack (Unit {0})) → SetupKept u r → Put (setup_text r.answer) e 0 y m → (x ≡ r.state) × (n ≡ m)
    → (x ≡ (setup_reply u).state) × Put (start_text u) e 0 y n
start_said u r h p l =
    (l.0 ∙ ap (λ g. g.state) h.0, put_long l.1 (put_as (start_text_lem u r.answer (ap (λ g. g.says) h.0) h.1) p))

-- Where a call writes to a lent buffer, one of its values is how many places it wrote, the last of a job, the first of a report or a board; and the
-- buffer has them.

unfoldable last : List ℕ → ℕ
last [] = 0
last (k ∷ []) = k
last (j ∷ k ∷ values) = last (k ∷ values)

abbrev first : List ℕ → ℕ
first values = at values 0

abbrev Fits : (List ℕ → ℕ) → Reply → Type 0
Fits many r = many r.says.values ≤ length r.buffer

unless_fits : (many : List ℕ → ℕ) → many [] ≡ 0 → (n : ℕ) (s : State) (buffer : List ℕ) (r : Reply) → Fits many r → Fits many (unless_refused n s buffer r)
unfolding unless_refused
unless_fits many none zero s buffer r h = h
unless_fits many none (suc n) s buffer r h = omega (arith, none)

written_fits : (vs buffer : List ℕ) → length vs ≤ length (written vs buffer)
written_fits vs buffer = rw (length-append vs (drop (length vs) buffer)) (omega arith)

module _ (s : State) (now : ℕ) where
  job_fits : (t : ℕ) (dests list : List ℕ) → Fits last (job_reply s now t dests list)
  unfolding reply_to taking_reply last when◌then◌else◌
  job_fits t dests list =
      let w = written_fits (put_off_positions (woken s now) dests) list in
      unless_fits last refl (job_refusal s now t dests list) s list (taking_reply (woken s now) now t dests list)
      (case_bool (eqb (n_of (woken s now) dests) 0) (λ h. rw h w) (λ h. rw h w))

  report_fits : (i ticket : ℕ) (o : Outcome) (list : List ℕ) → Fits first (report_reply s now i ticket o list)
  unfolding reply_to reporting_reply
  report_fits i ticket o list =
      unless_fits first refl (report_refusal s now i ticket list) s list (reporting_reply (reporting (woken s now) now i (destination_of s i) o) list)
      (written_fits (reporting (woken s now) now i (destination_of s i) o).putoff list)

board_fits : (s : State) (buffer : List ℕ) → Fits first (board_reply s buffer)
unfolding reply_to
board_fits s buffer = unless_fits first refl (board_refusal s buffer) s buffer _ (written_fits (board_text s) buffer)

-- Calls. Of the list that is printed, a part was lent, from its front.

module _ (now t : ℕ) (dests list buffer rest : List ℕ) where
  taken_lem : (z : State) (j : Option ℕ) (k : ℕ) → last (job_values j k) ≤ length buffer
      → taken_text j k (buffer ++ rest) ≡ reply_text (job now t dests list) (record { says = granted (job_values j k); state = z; buffer = buffer })
  unfolding taken_text reply_text values_text last when◌then◌else◌
  taken_lem z (Some j) k h = ap (λ l. job_name ++ numbered j ++ (numbered k ++ numbers l) ++ line_end) (take-append-le k buffer rest h)
  taken_lem z None k h = ap (λ l. nojob_name ++ (numbered k ++ numbers l) ++ line_end) (take-append-le k buffer rest h)

  job_text_lem : (z : State) (a : Result JobAnswer Refusal) → last (job_says a).values ≤ length buffer
      → job_text a (buffer ++ rest) ≡ reply_text (job now t dests list) (record { says = job_says a; state = z; buffer = buffer })
  unfolding job_text reply_text when◌then◌else◌
  job_text_lem z (Err k) h = refl
  job_text_lem z (Ok a) h = taken_lem z a.job a.putoff h

  pub job_said :
      (s : State) (r : HandedBack JobAnswer) {x : State} {e y : List ℕ} {n m : ℕ} → job_gave r buffer ≡ job_reply s now t dests list
      → Put (job_text r.answer (buffer ++ rest)) e 0 y m → (x ≡ r.state) × (n ≡ m)
      → Answers s (call (job now t dests list)) x e y n
  unfolding reply_to
  job_said s r {m = m} h =
      reply_said s (job now t dests list) (job_gave r buffer) _ m h
      (job_text_lem r.state r.answer (subst (Fits last) (sym h) (job_fits s now t dests list)))

module _ (now : ℕ) where
  pick_text_lem : (z : State) (a : Result (Option PickAnswer) Refusal) → pick_text a ≡ reply_text (pick now) (record { says = pick_says a; state = z; buffer = [] })
  unfolding found_text pick_text reply_text values_text when◌then◌else◌
  pick_text_lem z (Err k) = refl
  pick_text_lem z (Ok (Some a)) = refl
  pick_text_lem z (Ok None) = refl

  pub pick_said :
      (s : State) (r : HandedBack (Option PickAnswer)) {x : State} {e y : List ℕ} {n m : ℕ} → pick_gave r ≡ pick_reply s now
      → Put (pick_text r.answer) e 0 y m → (x ≡ r.state) × (n ≡ m)
      → Answers s (call (pick now)) x e y n
  unfolding reply_to
  pick_said s r {m = m} h = reply_said s (pick now) (pick_gave r) _ m h (pick_text_lem r.state r.answer)

module _ (now i ticket : ℕ) (o : Outcome) (list buffer rest : List ℕ) where
  report_text_lem : (z : State) (a : Result ReportAnswer Refusal) → first (report_says a).values ≤ length buffer
      → report_text a (buffer ++ rest) ≡ reply_text (report now i ticket o list) (record { says = report_says a; state = z; buffer = buffer })
  unfolding report_text reply_text values_text when◌then◌else◌
  report_text_lem z (Err k) h = refl
  report_text_lem z (Ok a) h =
      ap (λ l. report_name ++ (numbered a.putoff ++ numbers l) ++ blank ++ move_word (move_number a.moved) ++ line_end) (take-append-le a.putoff buffer rest h)

  pub report_said :
      (s : State) (r : HandedBack ReportAnswer) {x : State} {e y : List ℕ} {n m : ℕ} → report_gave r buffer ≡ report_reply s now i ticket o list
      → Put (report_text r.answer (buffer ++ rest)) e 0 y m → (x ≡ r.state) × (n ≡ m)
      → Answers s (call (report now i ticket o list)) x e y n
  unfolding reply_to
  report_said s r {m = m} h =
      reply_said s (report now i ticket o list) (report_gave r buffer) _ m h
      (report_text_lem r.state r.answer (subst (Fits first) (sym h) (report_fits s now i ticket o list)))

module _ (j : ℕ) where
  ask_text_lem : (z : State) (a : Result ℕ Refusal) → ask_text a ≡ reply_text (ask j) (record { says = number_says a; state = z; buffer = [] })
  unfolding ask_text reply_text values_text when◌then◌else◌
  ask_text_lem z (Err k) = refl
  ask_text_lem z (Ok sum) = refl

  pub ask_said :
      (s : State) (a : Result ℕ Refusal) {x : State} {e y : List ℕ} {n m : ℕ} → ask_gave a s ≡ ask_reply s j
      → Put (ask_text a) e 0 y m → (x ≡ s) × (n ≡ m)
      → Answers s (call (ask j)) x e y n
  unfolding reply_to
  ask_said s a {m = m} h = reply_said s (ask j) (ask_gave a s) _ m h (ask_text_lem s a)

module _ (text buffer rest : List ℕ) where
  board_text_lem : (z : State) (a : Result ℕ Refusal) → first (number_says a).values ≤ length buffer
      → board_answer_text a (buffer ++ rest) ≡ reply_text (board text) (record { says = number_says a; state = z; buffer = buffer })
  unfolding board_answer_text reply_text values_text when◌then◌else◌
  board_text_lem z (Err k) h = refl
  board_text_lem z (Ok k) h = ap (λ l. board_name ++ numbered k ++ blank ++ map shown_byte l ++ line_end) (take-append-le k buffer rest h)

  pub board_said :
      (s : State) (a : Result ℕ Refusal) {x : State} {e y : List ℕ} {n m : ℕ} → board_gave a s buffer ≡ board_reply s text
      → Put (board_answer_text a (buffer ++ rest)) e 0 y m → (x ≡ s) × (n ≡ m)
      → Answers s (call (board text)) x e y n
  unfolding reply_to
  board_said s a {m = m} h = reply_said s (board text) (board_gave a s buffer) _ m h (board_text_lem s a (subst (Fits first) (sym h) (board_fits s text)))
