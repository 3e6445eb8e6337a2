-- Small laws between the tests on entries.
use Prim.Native.Nat.{ℕ, ◌<◌}
use mathlib.Core.Path.{◌≡◌, ◌∙◌, ap}
use mathlib.Core.Bool.{true, false, not}
use lib.Dec.{eqb}
use borrow.Author.Tests.{eqb-true, eq-eqb, not-true}
use Rattle.laws.proofs.Bools.{true_not_false, false_of, and_both, and_left, and_right, not_is_true}
use Rattle.laws.proofs.Count.{count_none}
use Rattle.rules.specs.declared.State.{State}
use Rattle.rules.specs.Sizes.{max_entries}
use Rattle.rules.specs.State.{at, is_free, is_waiting, is_busy, is_present, job_of, destination_of, waits_of, busy_of, used_of, waiting_of}
use Rattle.rules.specs.SoundFacts.{Sound}
use Rattle.rules.specs.Sound.{busy_on, busy_to}

module _ (s : State) (e : ℕ) where
  pub waiting_used : is_waiting s e ≡ true → is_free s e ≡ false
  waiting_used h = ap (λ k. eqb k 0) (eqb-true (at s.entries.kind e) 1 h)

  pub waiting_not_busy : is_waiting s e ≡ true → is_busy s e ≡ false
  waiting_not_busy h = ap (λ k. eqb k 2) (eqb-true (at s.entries.kind e) 1 h)

  pub busy_used : is_busy s e ≡ true → is_free s e ≡ false
  busy_used h = ap (λ k. eqb k 0) (eqb-true (at s.entries.kind e) 2 h)

  pub busy_not_waiting : is_busy s e ≡ true → is_waiting s e ≡ false
  busy_not_waiting h = ap (λ k. eqb k 1) (eqb-true (at s.entries.kind e) 2 h)

  pub free_not_waiting : is_free s e ≡ true → is_waiting s e ≡ false
  free_not_waiting h = ap (λ k. eqb k 1) (eqb-true (at s.entries.kind e) 0 h)

  pub free_not_busy : is_free s e ≡ true → is_busy s e ≡ false
  free_not_busy h = ap (λ k. eqb k 2) (eqb-true (at s.entries.kind e) 0 h)

module _ (s : State) (j e : ℕ) where
  pub waits_of_lem : is_waiting s e ≡ true → job_of s e ≡ j → waits_of s j e ≡ true
  unfolding waits_of
  waits_of_lem h q = and_both h (eq-eqb (job_of s e) j q)

  pub waits_waiting : waits_of s j e ≡ true → is_waiting s e ≡ true
  unfolding waits_of
  waits_waiting h = and_left (is_waiting s e) (eqb (job_of s e) j) h

  pub waits_job : waits_of s j e ≡ true → job_of s e ≡ j
  unfolding waits_of
  waits_job h = eqb-true (job_of s e) j (and_right (is_waiting s e) (eqb (job_of s e) j) h)

  pub busy_of_lem : is_busy s e ≡ true → job_of s e ≡ j → busy_of s j e ≡ true
  unfolding busy_of
  busy_of_lem h q = and_both h (eq-eqb (job_of s e) j q)

  pub busy_busy : busy_of s j e ≡ true → is_busy s e ≡ true
  unfolding busy_of
  busy_busy h = and_left (is_busy s e) (eqb (job_of s e) j) h

  pub busy_job : busy_of s j e ≡ true → job_of s e ≡ j
  unfolding busy_of
  busy_job h = eqb-true (job_of s e) j (and_right (is_busy s e) (eqb (job_of s e) j) h)

  pub used_of_lem : is_free s e ≡ false → job_of s e ≡ j → used_of s j e ≡ true
  unfolding used_of
  used_of_lem h q = and_both (not_is_true h) (eq-eqb (job_of s e) j q)

  pub used_not_free : used_of s j e ≡ true → is_free s e ≡ false
  unfolding used_of
  used_not_free h = not-true (is_free s e) (and_left (not (is_free s e)) (eqb (job_of s e) j) h)

  pub used_job : used_of s j e ≡ true → job_of s e ≡ j
  unfolding used_of
  used_job h = eqb-true (job_of s e) j (and_right (not (is_free s e)) (eqb (job_of s e) j) h)

  pub waits_used : waits_of s j e ≡ true → used_of s j e ≡ true
  waits_used h = used_of_lem (waiting_used s e (waits_waiting h)) (waits_job h)

  pub busy_is_used : busy_of s j e ≡ true → used_of s j e ≡ true
  busy_is_used h = used_of_lem (busy_used s e (busy_busy h)) (busy_job h)

-- a job that is not present has no entry

module _ (s : State) (sound : Sound s) (j : ℕ) (absent : is_present s j ≡ false) where
  pub absent_unused : (e : ℕ) → e < max_entries → used_of s j e ≡ false
  absent_unused e l =
      false_of λ u.
      true_not_false (sound.entries e l (used_not_free s j e u)).present (ap (is_present s) (used_job s j e u) ∙ absent)

  pub absent_waits : (e : ℕ) → e < max_entries → waits_of s j e ≡ false
  absent_waits e l = false_of λ u. true_not_false (waits_used s j e u) (absent_unused e l)

  pub absent_busy : (e : ℕ) → e < max_entries → busy_of s j e ≡ false
  absent_busy e l = false_of λ u. true_not_false (busy_is_used s j e u) (absent_unused e l)

  pub absent_waiting : waiting_of s j ≡ 0
  unfolding waiting_of
  absent_waiting = count_none (waits_of s j) max_entries absent_waits

-- two states in which an entry reads the same

pub record SameEntry (s r : State) (e : ℕ) : Type 0 where
  pub kind : at r.entries.kind e ≡ at s.entries.kind e
  pub job : job_of r e ≡ job_of s e
  pub destination : destination_of r e ≡ destination_of s e

module _ (s r : State) (e : ℕ) (same : SameEntry s r e) where
  pub same_free : is_free r e ≡ is_free s e
  same_free = ap (λ k. eqb k 0) same.kind

  pub same_waiting : is_waiting r e ≡ is_waiting s e
  same_waiting = ap (λ k. eqb k 1) same.kind

  pub same_busy : is_busy r e ≡ is_busy s e
  same_busy = ap (λ k. eqb k 2) same.kind

  pub same_waits : (j : ℕ) → waits_of r j e ≡ waits_of s j e
  unfolding waits_of
  same_waits j = rw (same.kind, same.job)

  pub same_busy_of : (j : ℕ) → busy_of r j e ≡ busy_of s j e
  unfolding busy_of
  same_busy_of j = rw (same.kind, same.job)

  pub same_used : (j : ℕ) → used_of r j e ≡ used_of s j e
  unfolding used_of
  same_used j = rw (same.kind, same.job)

  pub same_busy_to : (d : ℕ) → busy_to r d e ≡ busy_to s d e
  unfolding busy_to
  same_busy_to d = rw (same.kind, same.destination)

  pub same_busy_on : (t : ℕ) → r.setup ≡ s.setup → busy_on r t e ≡ busy_on s t e
  unfolding busy_on
  same_busy_on t q = rw (same.kind, same.destination, q)
