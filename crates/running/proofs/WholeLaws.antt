-- `run` whole: a refused set-up, and an accepted one with demand 3 of the calls that were read.
use Prim.Native.Nat.{ℕ}
use mathlib.Core.Path.{◌≡◌, refl, sym, ◌∙◌, ap}
use mathlib.Core.Bool.{Bool, true, false}
use mathlib.Core.List.{List}
use Rattle.laws.specs.Bools.{when◌then◌else◌}
use Rattle.laws.proofs.Bools.{true_not_false}
use Rattle.rules.specs.declared.Setup.{Setup}
use Rattle.rules.specs.declared.State.{State}
use Rattle.std.specs.Prelude.{Result}
use Rattle.rules.specs.declared.Refusal.{Refusal}
use Rattle.rules.specs.declared.HandedBack.{HandedBack}
use Rattle.rules.specs.Setup.{setup_in_range, fresh_state}
use Rattle.rules.specs.Calls.{setup_reply}
use Rattle.rules.proofs.Demand3.{demand3, companions}
use Rattle.rules.specs.Gave.{setup_gave, accepts}
use Rattle.running.specs.WholeReply.{Ran, calls_read, ran_from, run_reply, Demand3OfRun}
use Rattle.rules.proofs.Replies.{start_is}

-- whether a set-up is in range, by the answer's case
pub told : {x : Bool} (a b : Result (Unit {0}) Refusal) → accepts a ≡ x → a ≡ b → x ≡ accepts b
told a b h e = sym h ∙ ap accepts e

module _ (u : Setup) (words answers lists texts : List ℕ) where
  pub run_refused :
      setup_in_range u ≡ false
      → (record { calls = 0; end = 0; answers = answers; lists = lists; texts = texts } ≡ run_reply u words answers lists texts)
      × Demand3OfRun u (calls_read words answers lists texts).calls
  unfolding run_reply when◌then◌else◌
  run_refused h = (rw h refl, λ k. true_not_false k h)

  pub run_accepted :
      (r : HandedBack (Unit {0})) (x : Ran)
      → setup_in_range u ≡ true
      → setup_gave r ≡ setup_reply u
      → x ≡ ran_from r.state (calls_read words answers lists texts) answers lists texts
      → (x ≡ run_reply u words answers lists texts)
      × Demand3OfRun u (calls_read words answers lists texts).calls
  unfolding run_reply when◌then◌else◌
  run_accepted r x h e g =
      let first : r.state ≡ fresh_state u = ap (λ r. r.state) e ∙ start_is u h in
      (g ∙ rw (h, first) refl, λ k. (demand3 u k _, companions u k _))
