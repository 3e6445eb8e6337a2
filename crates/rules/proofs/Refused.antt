-- A refused call gives the state and the buffer as they came; only an unsound state is refused with 1.
use Prim.Native.Nat.{ℕ, zero, suc, ◌≤◌}
use mathlib.Core.Path.{◌≡◌, refl, subst}
use mathlib.Core.Logic.{◌≢◌}
use mathlib.Core.Bool.{Bool, true, false, not}
use mathlib.Core.List.{List, []}
use native.Mathlib.Nat.{not-suc-le-zero}
use native.Mathlib.Omega.{arith}
use lib.ListN.{length}
use lib.Dec.{eqb, ltb}
use Rattle.laws.specs.Bools.{when◌then◌else◌}
use Rattle.laws.specs.Sequence.{every_in}
use Rattle.rules.specs.declared.State.{State}
use Rattle.rules.specs.Setup.{within}
use Rattle.rules.specs.State.{is_present}
use Rattle.rules.specs.Sound.{sound}
use Rattle.rules.specs.Windows.{woken}
use Rattle.rules.specs.Taking.{n_of}
use Rattle.rules.specs.Picking.{finds}
use Rattle.rules.specs.Refusals.{job_refusal, pick_refusal, report_refusal, ask_refusal, board_refusal, bad_clock, is_destination_on, lacks_number, lacks_places, is_busy_with}
use Rattle.rules.specs.Calls.{Reply, Call, lent_to, refusal_of, accepted, unless_refused, taking_reply, picking_reply, after_pick, reporting_reply, reply_to}

-- what a refused call gives
pub record Unchanged (s : State) (lent : List ℕ) (r : Reply) : Type 0 where
  pub state : r.state ≡ s
  pub buffer : r.buffer ≡ lent
  pub values : r.says.values ≡ []

-- an accepted call's reply has no refusal

either_accepted : (b : Bool) (x y : Reply) → x.says.refusal ≡ 0 → y.says.refusal ≡ 0 → (when b then x else y).says.refusal ≡ 0
unfolding when◌then◌else◌
either_accepted true x y h k = h
either_accepted false x y h k = k

accepted_says : (s : State) (call : Call) → (accepted s call).says.refusal ≡ 0
unfolding taking_reply after_pick picking_reply reporting_reply
accepted_says s (Call.job now t dests list) = either_accepted (eqb (n_of (woken s now) dests) 0) _ _ refl refl
accepted_says s (Call.pick now) = either_accepted (finds (woken s now)) _ _ refl refl
accepted_says s (Call.report now e ticket outcome list) = refl
accepted_says s (Call.ask j) = refl
accepted_says s (Call.board buffer) = refl

-- the refusal that is tested is the one that is answered
unless_says : (k : ℕ) (s : State) (buffer : List ℕ) (r : Reply) → r.says.refusal ≡ 0 → (unless_refused k s buffer r).says.refusal ≡ k
unfolding unless_refused
unless_says zero s buffer r h = h
unless_says (suc k) s buffer r h = refl

pub refusal_answered : (s : State) (call : Call) → (reply_to s call).says.refusal ≡ refusal_of s call
unfolding reply_to
refusal_answered s call = unless_says (refusal_of s call) s (lent_to call) (accepted s call) (accepted_says s call)

unless_unchanged : (k : ℕ) (s : State) (buffer : List ℕ) (r : Reply) → 1 ≤ k → Unchanged s buffer (unless_refused k s buffer r)
unfolding unless_refused
unless_unchanged zero s buffer r h = absurd (not-suc-le-zero h)
unless_unchanged (suc k) s buffer r h = record { state = refl; buffer = refl; values = refl }

pub refused_unchanged : (s : State) (call : Call) → 1 ≤ (reply_to s call).says.refusal → Unchanged s (lent_to call) (reply_to s call)
unfolding reply_to
refused_unchanged s call h =
    unless_unchanged (refusal_of s call) s (lent_to call) (accepted s call) (subst (λ k. 1 ≤ k) (refusal_answered s call) h)

-- a refusal of a sound state comes from the later tests
later : (s : State) (k : ℕ) → sound s ≡ true → (when not (sound s) then 1 else k) ≡ k
unfolding when◌then◌else◌
later s k h = rw h

-- a list of later tests never gives 1
pub not_one : (b : Bool) (k m : ℕ) → k ≢ 1 → m ≢ 1 → (when b then k else m) ≢ 1
unfolding when◌then◌else◌
not_one true k m h1 h2 = h1
not_one false k m h1 h2 = h2

pub sound_not_1 : (s : State) (call : Call) → sound s ≡ true → refusal_of s call ≢ 1
unfolding job_refusal pick_refusal report_refusal ask_refusal board_refusal
sound_not_1 s (Call.job now t dests list) h =
    rw (later s _ h)
    (not_one (bad_clock s now) _ _ (omega arith)
    (not_one (not (ltb t s.setup.transports)) _ _ (omega arith)
    (not_one (not (within 1 256 (length dests))) _ _ (omega arith)
    (not_one (not (every_in (is_destination_on s t) dests)) _ _ (omega arith)
    (not_one (lacks_number (woken s now) dests) _ _ (omega arith)
    (not_one (lacks_places (woken s now) dests) _ _ (omega arith) (not_one (ltb (length list) (length dests)) _ _ (omega arith) (omega arith))))))))
sound_not_1 s (Call.pick now) h = rw (later s _ h) (not_one (bad_clock s now) _ _ (omega arith) (omega arith))
sound_not_1 s (Call.report now e ticket outcome list) h =
    rw (later s _ h)
    (not_one (bad_clock s now) _ _ (omega arith)
    (not_one (not (is_busy_with s e ticket)) _ _ (omega arith) (not_one (ltb (length list) 512) _ _ (omega arith) (omega arith))))
sound_not_1 s (Call.ask j) h = rw (later s _ h) (not_one (not (is_present s j)) _ _ (omega arith) (omega arith))
sound_not_1 s (Call.board buffer) h = rw (later s _ h) (not_one (ltb (length buffer) _) _ _ (omega arith) (omega arith))
