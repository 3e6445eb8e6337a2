-- Every state reached from an accepted set-up is sound, and the tally beside it is that of some columns of `ceiling`.
use Prim.Native.Nat.{ℕ}
use mathlib.Core.Path.{◌≡◌, refl}
use mathlib.Core.Bool.{true}
use mathlib.Core.List.{List, [], ◌∷◌, map, foldl}
use Rattle.ceiling.specs.Columns.{Columns}
use Rattle.ceiling.specs.Steps.{fresh, add_row, lessen}
use Rattle.rules.specs.declared.Setup.{Setup}
use Rattle.rules.specs.declared.State.{State}
use Rattle.rules.specs.State.{job_of, destination_of}
use Rattle.rules.specs.Setup.{setup_in_range, fresh_state}
use Rattle.rules.specs.SoundFacts.{Sound}
use Rattle.rules.specs.Taking.{kept_of, n_of, new_number}
use Rattle.rules.specs.Calls.{put_off, Call}
use Rattle.rules.specs.Reporting.{reporting}
use Rattle.rules.specs.Tally.{Tally, no_tally, tallied}
use Rattle.rules.specs.History.{state_after, tally_of}
use Rattle.rules.proofs.Shape.{Shaped}
use Rattle.rules.proofs.RangeFacts.{in_range_facts}
use Rattle.rules.proofs.KeptFresh.{kept_fresh}
use Rattle.rules.proofs.Taken.{fits_of}
use Rattle.rules.proofs.CallCases.{Steps, calls_keep}
use Rattle.rules.proofs.Sim.{Sim}
use Rattle.rules.proofs.SimFresh.{sim_fresh, sim_woken}
use Rattle.rules.proofs.SimTaking.{sim_taken}
use Rattle.rules.proofs.SimPicking.{sim_picking}
use Rattle.rules.proofs.SimReporting.{left, sim_reported}

-- some columns belong to the state and the tally beside it
Tied : Setup → State → Tally → Type 0
Tied u s y = (g : Columns) × Sim u s y g

-- what is put off is not counted
put_off_uncounted : (y : Tally) (jobs : List ℕ) → foldl tallied y (map put_off jobs) ≡ y
unfolding tallied
put_off_uncounted y [] = refl
put_off_uncounted y (j ∷ jobs) = put_off_uncounted y jobs

tied_steps : (u : Setup) → Steps tallied (Tied u)
unfolding Tied
tied_steps u =
    record {
      wakes = λ s y shaped sound r now. (r.0, sim_woken now r.1);
      takes =
          λ w y shaped sound r t dests p.
          unfold tallied n_of in
          (add_row r.0 t (n_of w dests), sim_taken r.1 (new_number w) t w.clock (kept_of w dests) shaped sound (fits_of w t dests p));
      picks = λ w y shaped sound r f. sim_picking r.1 shaped sound w.clock f;
      reports =
          λ w y shaped sound r e outcome l b.
          rw (put_off_uncounted y (map (job_of w) (reporting w w.clock e (destination_of w e) outcome).putoff))
          (lessen r.0 (left r.1 w.clock e outcome shaped sound l b), sim_reported r.1 w.clock e outcome shaped sound l b);
    }

-- a state reached, and the tally beside it
pub record Reached (u : Setup) (s : State) (y : Tally) : Type 0 where
  pub shaped : Shaped s
  pub sound : Sound s
  pub columns : Columns
  pub sim : Sim u s y columns

pub reached : (u : Setup) → setup_in_range u ≡ true → (calls : List Call) → Reached u (state_after u calls) (tally_of u calls)
unfolding state_after tally_of Tied
reached u h calls =
    let kept = kept_fresh u (in_range_facts u h) in
    let r = calls_keep (tied_steps u) (fresh_state u) no_tally (record { shaped = kept.0; sound = kept.1; said = (fresh, sim_fresh u) }) calls in
    record { shaped = r.shaped; sound = r.sound; columns = r.said.0; sim = r.said.1 }
