-- What a call gives back where it is refused, and where it is not: said once for all calls.
use Prim.Native.Nat.{ℕ, zero, suc}
use mathlib.Core.Path.{◌≡◌, refl, sym, ap}
use mathlib.Core.Bool.{Bool, true, false, not}
use mathlib.Core.List.{List}
use native.Mathlib.Nat.{suc-ne-zero}
use Rattle.laws.specs.Bools.{when◌then◌else◌}
use Rattle.laws.proofs.Bools.{true_not_false}
use Rattle.rules.specs.declared.Setup.{Setup}
use Rattle.rules.specs.declared.State.{State}
use Rattle.rules.specs.declared.Refusal.{Refusal}
use Rattle.rules.specs.declared.Refusal.TheVariants
use Rattle.rules.specs.Answers.{refusal_number}
use Rattle.rules.specs.Setup.{setup_in_range, fresh_state}
use Rattle.rules.specs.Sound.{sound}
use Rattle.rules.specs.Refusals.{bad_clock, setup_refusal, job_refusal, pick_refusal, report_refusal, ask_refusal, board_refusal}
use Rattle.rules.specs.Calls.{Reply, Call, lent_to, refusal_of, accepted, refused, unless_refused, setup_reply, reply_to}

refusing : (k n : ℕ) (s : State) (buffer : List ℕ) (r : Reply) → k ≡ n → (k ≡ 0 → ⊥)
    → record { says = refused k; state = s; buffer = buffer } ≡ unless_refused n s buffer r
unfolding unless_refused
refusing k zero s buffer r e h = absurd (h e)
refusing k (suc n) s buffer r e h = ap (λ k. record { says = refused k; state = s; buffer = buffer }) e

accepting : (n : ℕ) (s : State) (buffer : List ℕ) (x r : Reply) → n ≡ 0 → x ≡ r → x ≡ unless_refused n s buffer r
unfolding unless_refused
accepting zero s buffer x r e h = h
accepting (suc n) s buffer x r e h = absurd (suc-ne-zero n e)

-- the first test of every call
first_test : (b : Bool) (k : ℕ) → b ≡ false → (when not b then 1 else k) ≡ 1
unfolding when◌then◌else◌
first_test b k e = rw e

pub refusal_unsound : (s : State) (call : Call) → sound s ≡ false → refusal_of s call ≡ 1
unfolding job_refusal pick_refusal report_refusal ask_refusal board_refusal
refusal_unsound s (Call.job now t dests list) h = first_test (sound s) _ h
refusal_unsound s (Call.pick now) h = first_test (sound s) _ h
refusal_unsound s (Call.report now e ticket outcome list) h = first_test (sound s) _ h
refusal_unsound s (Call.ask j) h = first_test (sound s) _ h
refusal_unsound s (Call.board buffer) h = first_test (sound s) _ h

-- the second test of the calls that have a clock
abbrev pub bad_clock_of : State → Call → Bool
bad_clock_of s (Call.job now t dests list) = bad_clock s now
bad_clock_of s (Call.pick now) = bad_clock s now
bad_clock_of s (Call.report now e ticket outcome list) = bad_clock s now
bad_clock_of s (Call.ask j) = false
bad_clock_of s (Call.board buffer) = false

refusal_clock : (s : State) (call : Call) → sound s ≡ true → bad_clock_of s call ≡ true → refusal_of s call ≡ 3
unfolding job_refusal pick_refusal report_refusal when◌then◌else◌
refusal_clock s (Call.job now t dests list) h b = rw (h, b) refl
refusal_clock s (Call.pick now) h b = rw (h, b) refl
refusal_clock s (Call.report now e ticket outcome list) h b = rw (h, b) refl
refusal_clock s (Call.ask j) h b = true_not_false b refl
refusal_clock s (Call.board buffer) h b = true_not_false b refl

-- each refusal's number is one
pub refusal_some : (k : Refusal) → refusal_number k ≡ 0 → ⊥
refusal_some Refusal.Unsound h = suc-ne-zero 0 h
refusal_some Refusal.SetupOutOfRange h = suc-ne-zero 1 h
refusal_some Refusal.Clock h = suc-ne-zero 2 h
refusal_some Refusal.Transport h = suc-ne-zero 3 h
refusal_some Refusal.EntryCount h = suc-ne-zero 4 h
refusal_some Refusal.Destination h = suc-ne-zero 5 h
refusal_some Refusal.JobNumbers h = suc-ne-zero 6 h
refusal_some Refusal.EntryPlaces h = suc-ne-zero 7 h
refusal_some Refusal.Entry h = suc-ne-zero 8 h
refusal_some Refusal.Room h = suc-ne-zero 9 h
refusal_some Refusal.Job h = suc-ne-zero 10 h
refusal_some Refusal.CutShort h = suc-ne-zero 11 h
refusal_some Refusal.Number h = suc-ne-zero 12 h
refusal_some Refusal.OutOfRange h = suc-ne-zero 13 h

module _ (s : State) (call : Call) where
  pub reply_refused : (k : ℕ) → k ≡ refusal_of s call → (k ≡ 0 → ⊥) → record { says = refused k; state = s; buffer = lent_to call } ≡ reply_to s call
  unfolding reply_to
  reply_refused k e h = refusing k (refusal_of s call) s (lent_to call) (accepted s call) e h

  pub reply_refusal : (k : Refusal) → refusal_number k ≡ refusal_of s call → record { says = refused (refusal_number k); state = s; buffer = lent_to call } ≡ reply_to s call
  reply_refusal k e = reply_refused (refusal_number k) e (refusal_some k)

  pub reply_unsound : sound s ≡ false → record { says = refused 1; state = s; buffer = lent_to call } ≡ reply_to s call
  reply_unsound h = reply_refused 1 (sym (refusal_unsound s call h)) (suc-ne-zero 0)

  pub reply_clock : sound s ≡ true → bad_clock_of s call ≡ true → record { says = refused 3; state = s; buffer = lent_to call } ≡ reply_to s call
  reply_clock h b = reply_refused 3 (sym (refusal_clock s call h b)) (suc-ne-zero 2)

  pub reply_accepted : (x : Reply) → refusal_of s call ≡ 0 → x ≡ accepted s call → x ≡ reply_to s call
  unfolding reply_to
  reply_accepted x e h = accepting (refusal_of s call) s (lent_to call) x (accepted s call) e h

-- an accepted set-up starts from its fresh state
pub start_is : (u : Setup) → setup_in_range u ≡ true → (setup_reply u).state ≡ fresh_state u
unfolding setup_reply setup_refusal unless_refused when◌then◌else◌
start_is u h = rw h refl
