-- The entries after a job is taken: its own at the first free places, the others as they were.
use Prim.Native.Nat.{ℕ, ◌<◌}
use mathlib.Core.Path.{◌≡◌, refl, sym, ◌∙◌, ap}
use mathlib.Core.Logic.{◌≢◌}
use mathlib.Core.Bool.{true, false}
use mathlib.Core.List.{List}
use lib.ListN.{length}
use lib.Dec.{eqb}
use Rattle.laws.proofs.Bools.{true_not_false, case_bool, false_of, and_left_false, if_true, if_false}
use Rattle.laws.proofs.Count.{count_same}
use Rattle.rules.specs.declared.State.{State}
use Rattle.rules.specs.Sizes.{max_entries}
use Rattle.rules.specs.State.{at, is_free, job_of, destination_of, waits_of, busy_of, waiting_of}
use Rattle.rules.specs.Sound.{busy_on, busy_to}
use Rattle.rules.specs.SoundFacts.{Sound}
use Rattle.rules.specs.Taking.{taken}
use Rattle.rules.proofs.Shape.{Shaped}
use Rattle.rules.proofs.Filled.{among_passes, among_rank, count_among}
use Rattle.rules.proofs.Taken.{Fits, is_new, place_in, taken_kind, taken_job, taken_destination}
use Rattle.rules.proofs.EntryTests.{SameEntry, waits_of_lem, waits_job, absent_waits, free_not_waiting, free_not_busy, same_waits, same_busy_of}
use Rattle.rules.proofs.EntryTests.{same_busy_to, same_busy_on, waits_waiting}

-- entry e is one of the new job's
pub record NewEntry (w r : State) (j : ℕ) (kept : List ℕ) (e : ℕ) : Type 0 where
  pub kind : at r.entries.kind e ≡ 1
  pub job : job_of r e ≡ j
  pub destination : destination_of r e ≡ at kept (place_in w e)
  pub place : place_in w e < length kept
  pub free : is_free w e ≡ true

module _ (w : State) (j t now : ℕ) (kept : List ℕ) (shaped : Shaped w) (sound : Sound w) (fits : Fits w j t kept) where
  pub taken_entry_new : (e : ℕ) → e < max_entries → is_new w kept e ≡ true → NewEntry w (taken w j t now kept) j kept e
  unfolding is_new place_in
  taken_entry_new e l h =
      record {
        kind = taken_kind w j t now kept shaped sound fits e l ∙ if_true 1 (at w.entries.kind e) h;
        job = taken_job w j t now kept shaped sound fits e l ∙ if_true j (job_of w e) h;
        destination = taken_destination w j t now kept shaped sound fits e l ∙ if_true (at kept (place_in w e)) (destination_of w e) h;
        place = among_rank (is_free w) (length kept) e h;
        free = among_passes (is_free w) (length kept) e h;
      }

  pub taken_entry_old : (e : ℕ) → e < max_entries → is_new w kept e ≡ false → SameEntry w (taken w j t now kept) e
  taken_entry_old e l h =
      record {
        kind = taken_kind w j t now kept shaped sound fits e l ∙ if_false 1 (at w.entries.kind e) h;
        job = taken_job w j t now kept shaped sound fits e l ∙ if_false j (job_of w e) h;
        destination = taken_destination w j t now kept shaped sound fits e l ∙ if_false (at kept (place_in w e)) (destination_of w e) h;
      }

  pub taken_entry {ℓ} : {P : Type ℓ} (e : ℕ) → e < max_entries → (NewEntry w (taken w j t now kept) j kept e → P) → (SameEntry w (taken w j t now kept) e → P) → P
  taken_entry e l f g = case_bool (is_new w kept e) (λ h. f (taken_entry_new e l h)) (λ h. g (taken_entry_old e l h))

  pub taken_waits_new : (e : ℕ) → e < max_entries → waits_of (taken w j t now kept) j e ≡ is_new w kept e
  taken_waits_new e l =
      case_bool (is_new w kept e)
      (λ h. let r = taken_entry_new e l h in waits_of_lem (taken w j t now kept) j e (ap (λ k. eqb k 1) r.kind) r.job ∙ sym h)
      (λ h. same_waits w (taken w j t now kept) e (taken_entry_old e l h) j ∙ absent_waits w sound j fits.absent e l ∙ sym h)

  pub taken_waits_other : (k : ℕ) → k ≢ j → (e : ℕ) → e < max_entries → waits_of (taken w j t now kept) k e ≡ waits_of w k e
  taken_waits_other k ne e l =
      taken_entry e l
      (λ r.
      false_of (λ h. ne (sym (waits_job (taken w j t now kept) k e h) ∙ r.job))
      ∙ sym (false_of λ h. true_not_false (waits_waiting w k e h) (free_not_waiting w e r.free)))
      (λ r. same_waits w (taken w j t now kept) e r k)

  pub taken_busy_of : (k e : ℕ) → e < max_entries → busy_of (taken w j t now kept) k e ≡ busy_of w k e
  unfolding busy_of
  taken_busy_of k e l =
      taken_entry e l
      (λ r. and_left_false (eqb (job_of (taken w j t now kept) e) k) (ap (λ k. eqb k 2) r.kind) ∙ sym (and_left_false (eqb (job_of w e) k) (free_not_busy w e r.free)))
      (λ r. same_busy_of w (taken w j t now kept) e r k)

  pub taken_busy_to : (d e : ℕ) → e < max_entries → busy_to (taken w j t now kept) d e ≡ busy_to w d e
  unfolding busy_to
  taken_busy_to d e l =
      taken_entry e l
      (λ r. and_left_false (eqb (destination_of (taken w j t now kept) e) d) (ap (λ k. eqb k 2) r.kind) ∙ sym (and_left_false (eqb (destination_of w e) d) (free_not_busy w e r.free)))
      (λ r. same_busy_to w (taken w j t now kept) e r d)

  taken_setup : (taken w j t now kept).setup ≡ w.setup
  unfolding taken
  taken_setup = refl

  pub taken_busy_on : (u e : ℕ) → e < max_entries → busy_on (taken w j t now kept) u e ≡ busy_on w u e
  unfolding busy_on
  taken_busy_on u e l =
      taken_entry e l
      (λ r. and_left_false (eqb (at (taken w j t now kept).setup.home (destination_of (taken w j t now kept) e)) u) (ap (λ k. eqb k 2) r.kind)
      ∙ sym (and_left_false (eqb (at w.setup.home (destination_of w e)) u) (free_not_busy w e r.free)))
      (λ r. same_busy_on w (taken w j t now kept) e r u taken_setup)

  -- How many wait.

  pub taken_waiting_new : waiting_of (taken w j t now kept) j ≡ length kept
  unfolding waiting_of is_new
  taken_waiting_new =
      count_same (waits_of (taken w j t now kept) j) (is_new w kept) max_entries taken_waits_new ∙ count_among (is_free w) (length kept) max_entries fits.room

  pub taken_waiting_other : (k : ℕ) → k ≢ j → waiting_of (taken w j t now kept) k ≡ waiting_of w k
  unfolding waiting_of
  taken_waiting_other k ne = count_same (waits_of (taken w j t now kept) k) (waits_of w k) max_entries (taken_waits_other k ne)
