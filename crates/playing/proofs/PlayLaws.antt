-- What an answer prints is what the rules' reply prints, and one call's state and text are those of a list of one.
use Prim.Native.Nat.{ℕ}
use mathlib.Core.Path.{◌≡◌, refl, sym, ◌∙◌, ap, subst}
use mathlib.Core.Bool.{false}
use mathlib.Core.List.{List, [], ◌∷◌, append-nil}
use Rattle.std.proofs.Common.{Option, Some, None, Result, Ok, Err}
use lib.Dec.{eqb}
use borrow.Author.Tests.{ne_eqb}
use Rattle.laws.specs.Bools.{when◌then◌else◌}
use Rattle.rules.specs.declared.State.{State}
use Rattle.rules.specs.declared.Outcome.{Outcome}
use Rattle.rules.specs.declared.Refusal.{Refusal}
use Rattle.rules.specs.declared.HandedBack.{HandedBack}
use Rattle.rules.specs.declared.JobAnswer.{JobAnswer}
use Rattle.rules.specs.declared.PickAnswer.{PickAnswer}
use Rattle.rules.specs.declared.ReportAnswer.{ReportAnswer}
use Rattle.rules.specs.Calls.{Reply, Call, job, pick, report}
use Rattle.rules.specs.Calls.{reply_to}
use Rattle.rules.specs.Answers.{refusal_number, job_says, pick_says, report_says}
use Rattle.rules.proofs.Replies.{refusal_some}
use Rattle.rules.specs.Gave.{job_gave, pick_gave, report_gave}
use Rattle.rules.specs.History.{state_from, gathered}
use Rattle.lines.specs.Texts.{Put}
use Rattle.lines.proofs.PutLaws.{put_none, put_as}
use Rattle.journal.specs.declared.Record.{Record}
use Rattle.playing.specs.Plays.{printed, accepted_line, call_told, refusal_line, report_line}

-- a refusal's number is not 0
numbered : (k : Refusal) → eqb (refusal_number k) 0 ≡ false
numbered k = ne_eqb (refusal_number k) 0 (refusal_some k)

-- state and text are those of the calls
abbrev pub Plays : State → List Call → State → List ℕ → ℕ → List ℕ → ℕ → Type 0
Plays s calls x e at y n = (x ≡ state_from s calls) × Put (gathered printed s calls) e at y n

put_next : {t e y : List ℕ} {at n m : ℕ} → n ≡ m → Put t e at y m → Put t e at y n
put_next {t} {e} {y} {at} h p = subst (λ k. Put t e at y k) (sym h) p

module _ (s : State) {x : State} {e y : List ℕ} {at n : ℕ} where
  one_played :
      (call : Call) (g : Reply) (t : List ℕ) (m : ℕ) → g ≡ reply_to s call → t ≡ printed call g → Put t e at y m → (x ≡ g.state) × (n ≡ m)
      → Plays s (call ∷ []) x e at y n
  unfolding state_from gathered
  one_played call g t m h q p l =
      (l.0 ∙ ap (λ r. r.state) h, put_next l.1 (put_as (q ∙ ap (printed call) h ∙ sym (append-nil (printed call (reply_to s call)))) p))

  -- the record as it is told
  pub as_told : (dests : List ℕ) {a b : Record} → a ≡ b → Plays s (call_told b dests) x e at y n → Plays s (call_told a dests) x e at y n
  as_told dests h p = subst (λ w. Plays s (call_told w dests) x e at y n) (sym h) p

pub none_played : (s : State) {x : State} {e : List ℕ} {at n : ℕ} → (x ≡ s) × (n ≡ at) → Plays s [] x e at e n
unfolding state_from gathered
none_played s {x} {e} {at} l = (l.0, put_next l.1 (put_none e at))

-- Calls.

module _ (s : State) (now t : ℕ) (dests list buffer : List ℕ) where
  job_printed : (z : State) (a : Result JobAnswer Refusal) → refusal_line a ≡ printed (job now t dests list) (record { says = job_says a; state = z; buffer = buffer })
  unfolding refusal_line printed accepted_line when◌then◌else◌
  job_printed z (Err k) = rw (numbered k) refl
  job_printed z (Ok a) = refl

  -- the destinations lent are those told
  pub job_played :
      {told : List ℕ} (r : HandedBack JobAnswer) {x : State} {e y : List ℕ} {at n m : ℕ} → dests ≡ told → job_gave r buffer ≡ reply_to s (job now t dests list)
      → Put (refusal_line r.answer) e at y m → (x ≡ r.state) × (n ≡ m)
      → Plays s (job now t told list ∷ []) x e at y n
  job_played r {x} {e} {y} {at} {n} {m} q h p l =
      subst (λ ds. Plays s (job now t ds list ∷ []) x e at y n) q
      (one_played s (job now t dests list) (job_gave r buffer) _ m h (job_printed r.state r.answer) p l)

module _ (s : State) (now : ℕ) where
  pick_printed : (z : State) (a : Result (Option PickAnswer) Refusal) → refusal_line a ≡ printed (pick now) (record { says = pick_says a; state = z; buffer = [] })
  unfolding refusal_line printed accepted_line when◌then◌else◌
  pick_printed z (Err k) = rw (numbered k) refl
  pick_printed z (Ok (Some a)) = refl
  pick_printed z (Ok None) = refl

  pub pick_played :
      (r : HandedBack (Option PickAnswer)) {x : State} {e y : List ℕ} {at n m : ℕ} → pick_gave r ≡ reply_to s (pick now)
      → Put (refusal_line r.answer) e at y m → (x ≡ r.state) × (n ≡ m)
      → Plays s (pick now ∷ []) x e at y n
  pick_played r {m = m} h = one_played s (pick now) (pick_gave r) _ m h (pick_printed r.state r.answer)

module _ (s : State) (now i ticket : ℕ) (o : Outcome) (list buffer : List ℕ) where
  report_printed : (z : State) (a : Result ReportAnswer Refusal) → report_line a ≡ printed (report now i ticket o list) (record { says = report_says a; state = z; buffer = buffer })
  unfolding report_line printed accepted_line when◌then◌else◌
  report_printed z (Err k) = rw (numbered k) refl
  report_printed z (Ok a) = refl

  pub report_played :
      (r : HandedBack ReportAnswer) {x : State} {e y : List ℕ} {at n m : ℕ} → report_gave r buffer ≡ reply_to s (report now i ticket o list)
      → Put (report_line r.answer) e at y m → (x ≡ r.state) × (n ≡ m)
      → Plays s (report now i ticket o list ∷ []) x e at y n
  report_played r {m = m} h = one_played s (report now i ticket o list) (report_gave r buffer) _ m h (report_printed r.state r.answer)
