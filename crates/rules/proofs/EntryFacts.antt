-- What soundness says of entries that wait or are eligible.
use Prim.Native.Nat.{ℕ, ◌≤◌, ◌<◌}
use mathlib.Core.Bool.{true, ◌&&◌}
use mathlib.Core.Path.{◌≡◌, refl}
use lib.Dec.{eqb}
use borrow.Author.Tests.{eqb-true, eq-eqb}
use Rattle.laws.proofs.Bools.{not_is_true, and_both, and_left, and_right}
use Rattle.laws.proofs.All.{any_of, any_witness}
use Rattle.laws.proofs.Count.{count_pos_of}
use Rattle.rules.specs.declared.State.{State}
use Rattle.rules.specs.Sizes.{max_entries}
use Rattle.rules.specs.State.{transport_of, is_waiting, job_of, destination_of, waits_of, used_of, waiting_of}
use Rattle.rules.specs.SoundFacts.{EntrySound, Sound}
use Rattle.rules.specs.Picking.{has_room, has_agent, eligible, eligible_of, has_eligible}
use Rattle.rules.proofs.EntryTests.{waiting_used}

module _ (s : State) where
  pub eligible_waits : (e : ℕ) → eligible s e ≡ true → is_waiting s e ≡ true
  unfolding eligible
  eligible_waits e h =
      and_left (is_waiting s e) (has_room s (destination_of s e))
      (and_left (is_waiting s e && has_room s (destination_of s e)) (has_agent s (transport_of s (destination_of s e))) h)

  pub eligible_of_eligible : (j e : ℕ) → eligible_of s j e ≡ true → eligible s e ≡ true
  unfolding eligible_of
  eligible_of_eligible j e h = and_left (eligible s e) (eqb (job_of s e) j) h

  pub eligible_of_job : (j e : ℕ) → eligible_of s j e ≡ true → job_of s e ≡ j
  unfolding eligible_of
  eligible_of_job j e h = eqb-true (job_of s e) j (and_right (eligible s e) (eqb (job_of s e) j) h)

  pub eligible_of_waits : (j e : ℕ) → eligible_of s j e ≡ true → waits_of s j e ≡ true
  unfolding waits_of
  eligible_of_waits j e h = and_both (eligible_waits e (eligible_of_eligible j e h)) (eq-eqb (job_of s e) j (eligible_of_job j e h))

  pub waits_of_used : (j e : ℕ) → waits_of s j e ≡ true → used_of s j e ≡ true
  unfolding waits_of used_of
  waits_of_used j e h =
      and_both (not_is_true (waiting_used s e (and_left (is_waiting s e) (eqb (job_of s e) j) h))) (and_right (is_waiting s e) (eqb (job_of s e) j) h)

  -- a job with an eligible entry has a waiting one
  pub has_eligible_waits : (j : ℕ) → has_eligible s j ≡ true → 1 ≤ waiting_of s j
  unfolding has_eligible waiting_of
  has_eligible_waits j h =
      let w = any_witness (eligible_of s j) max_entries h in
      count_pos_of (waits_of s j) max_entries w.0 w.1 (eligible_of_waits j w.0 w.2)

  pub eligible_has : (e : ℕ) → e < max_entries → eligible s e ≡ true → has_eligible s (job_of s e) ≡ true
  unfolding has_eligible eligible_of
  eligible_has e l ok = any_of (eligible_of s (job_of s e)) max_entries e l (and_both ok (eq-eqb (job_of s e) (job_of s e) refl))

  pub eligible_sound : Sound s → (e : ℕ) → e < max_entries → eligible s e ≡ true → EntrySound s e
  eligible_sound h e l t = h.entries e l (waiting_used s e (eligible_waits e t))
