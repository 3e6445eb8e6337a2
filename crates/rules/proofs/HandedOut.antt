-- An entry handed out: what that does to the entries, and to what is counted of them.
use Prim.Native.Nat.{ℕ, suc, ◌+◌, ◌<◌}
use mathlib.Core.Bool.{Bool, true, false, not, ◌&&◌}
use mathlib.Core.Path.{◌≡◌, refl, sym, ◌∙◌, ap}
use mathlib.Core.Logic.{◌≢◌}
use native.Mathlib.Omega.{arith}
use lib.ListN.{length}
use lib.Seq.{get_or-set_same, get_or-set_other}
use lib.Dec.{eqb}
use borrow.Author.Tests.{eq-eqb, ne_eqb}
use Rattle.laws.specs.Bools.{one}
use Rattle.laws.specs.Range.{count_to}
use Rattle.laws.proofs.Bools.{one_true, one_false}
use Rattle.laws.proofs.Count.{count_change}
use Rattle.laws.proofs.Places.{set_all}
use Rattle.rules.specs.declared.State.{State}
use Rattle.rules.specs.Sizes.{max_jobs, max_entries}
use Rattle.rules.specs.State.{at, transport_of, is_free, is_waiting, is_busy, job_of, destination_of, waits_of, busy_of, used_of, waiting_of}
use Rattle.rules.specs.Sound.{busy_on, busy_to}
use Rattle.rules.specs.Pick.{handed_out}
use Rattle.rules.proofs.Shape.{Shaped, picked_length}
use Rattle.rules.proofs.EntryTests.{waiting_not_busy, waiting_used}

-- entry e of job j, at this place of its order, can be handed out on transport t
pub record CanHandOut (w : State) (t j place e : ℕ) : Type 0 where
  pub below : e < max_entries
  pub waits : is_waiting w e ≡ true
  pub job : job_of w e ≡ j
  pub ordered : place < at w.jobs.places j
  pub transport : transport_of w (destination_of w e) ≡ t

module _ (w : State) (t j place e : ℕ) (shape : Shaped w) (can : CanHandOut w t j place e) where
  inside : e < length w.entries.kind
  inside = omega (arith, shape.entries.kind, can.below)

  pub handed_free : (i : ℕ) → is_free (handed_out w t j place e) i ≡ is_free w i
  unfolding handed_out
  handed_free = set_all (λ i v. eqb v 0 ≡ is_free w i) w.entries.kind e 2 0 inside (sym (waiting_used w e can.waits)) (λ i ne. refl)

  pub handed_waiting_here : is_waiting (handed_out w t j place e) e ≡ false
  unfolding handed_out
  handed_waiting_here = ap (λ v. eqb v 1) (get_or-set_same w.entries.kind e 2 0 inside)

  pub handed_waiting_other : (i : ℕ) → i ≢ e → is_waiting (handed_out w t j place e) i ≡ is_waiting w i
  unfolding handed_out
  handed_waiting_other i ne = ap (λ v. eqb v 1) (get_or-set_other w.entries.kind e i 2 0 ne)

  pub handed_busy_here : is_busy (handed_out w t j place e) e ≡ true
  unfolding handed_out
  handed_busy_here = ap (λ v. eqb v 2) (get_or-set_same w.entries.kind e 2 0 inside)

  pub handed_busy_other : (i : ℕ) → i ≢ e → is_busy (handed_out w t j place e) i ≡ is_busy w i
  unfolding handed_out
  handed_busy_other i ne = ap (λ v. eqb v 2) (get_or-set_other w.entries.kind e i 2 0 ne)

  pub handed_used : (i x : ℕ) → used_of (handed_out w t j place e) i x ≡ used_of w i x
  unfolding used_of handed_out
  handed_used i x = ap (λ b. not b && eqb (job_of w x) i) (handed_free x)

  -- one waiting entry less, one busy entry more, where the test holds of it
  pub handed_waiting : (q : ℕ → Bool) → count_to (λ x. is_waiting w x && q x) max_entries ≡ count_to (λ x. is_waiting (handed_out w t j place e) x && q x) max_entries + one (q e)
  handed_waiting q =
      let c =
      count_change (λ x. is_waiting w x && q x) (λ x. is_waiting (handed_out w t j place e) x && q x) max_entries e can.below
      (λ i l ne. ap (λ b. b && q i) (sym (handed_waiting_other i ne)))
      in
      omega (arith, ap (λ b. one (b && q e)) can.waits, ap (λ b. one (b && q e)) handed_waiting_here, one_false {b = false} refl)

  pub handed_busy : (q : ℕ → Bool) → count_to (λ x. is_busy (handed_out w t j place e) x && q x) max_entries ≡ count_to (λ x. is_busy w x && q x) max_entries + one (q e)
  handed_busy q =
      let c =
      count_change (λ x. is_busy w x && q x) (λ x. is_busy (handed_out w t j place e) x && q x) max_entries e can.below
      (λ i l ne. ap (λ b. b && q i) (sym (handed_busy_other i ne)))
      in
      omega (arith, ap (λ b. one (b && q e)) (waiting_not_busy w e can.waits), ap (λ b. one (b && q e)) handed_busy_here, one_false {b = false} refl)

  -- by job

  pub handed_waits : (i : ℕ) → waiting_of w i ≡ waiting_of (handed_out w t j place e) i + one (eqb (job_of w e) i)
  unfolding waiting_of waits_of handed_out
  handed_waits i = handed_waiting (λ x. eqb (job_of w x) i)

  pub handed_waits_own : waiting_of w j ≡ suc (waiting_of (handed_out w t j place e) j)
  handed_waits_own = omega (arith, handed_waits j, one_true (eq-eqb (job_of w e) j can.job))

  pub handed_waits_other : (i : ℕ) → i ≢ j → waiting_of (handed_out w t j place e) i ≡ waiting_of w i
  handed_waits_other i ne = omega (arith, handed_waits i, one_false (ne_eqb (job_of w e) i (λ q. ne (sym q ∙ can.job))))

  pub handed_busy_of : (i : ℕ) → count_to (busy_of (handed_out w t j place e) i) max_entries ≡ count_to (busy_of w i) max_entries + one (eqb (job_of w e) i)
  unfolding busy_of handed_out
  handed_busy_of i = handed_busy (λ x. eqb (job_of w x) i)

  pub handed_busy_own : count_to (busy_of (handed_out w t j place e) j) max_entries ≡ suc (count_to (busy_of w j) max_entries)
  handed_busy_own = omega (arith, handed_busy_of j, one_true (eq-eqb (job_of w e) j can.job))

  pub handed_busy_of_other : (i : ℕ) → i ≢ j → count_to (busy_of (handed_out w t j place e) i) max_entries ≡ count_to (busy_of w i) max_entries
  handed_busy_of_other i ne = omega (arith, handed_busy_of i, one_false (ne_eqb (job_of w e) i (λ q. ne (sym q ∙ can.job))))

  -- by transport and destination

  pub handed_busy_on : (u : ℕ) → count_to (busy_on (handed_out w t j place e) u) max_entries ≡ count_to (busy_on w u) max_entries + one (eqb (transport_of w (destination_of w e)) u)
  unfolding busy_on handed_out
  handed_busy_on u = handed_busy (λ x. eqb (transport_of w (destination_of w x)) u)

  pub handed_busy_to : (d : ℕ) → count_to (busy_to (handed_out w t j place e) d) max_entries ≡ count_to (busy_to w d) max_entries + one (eqb (destination_of w e) d)
  unfolding busy_to handed_out
  handed_busy_to d = handed_busy (λ x. eqb (destination_of w x) d)

  -- the other columns

  pub handed_picked_own : j < max_jobs → at (handed_out w t j place e).jobs.picked j ≡ suc (at w.jobs.picked j)
  unfolding handed_out
  handed_picked_own l = omega (arith, get_or-set_same w.jobs.picked j (at w.jobs.picked j + 1) 0 (omega (arith, picked_length shape.jobs)))

  pub handed_picked_other : (i : ℕ) → i ≢ j → at (handed_out w t j place e).jobs.picked i ≡ at w.jobs.picked i
  unfolding handed_out
  handed_picked_other i ne = get_or-set_other w.jobs.picked j i (at w.jobs.picked j + 1) 0 ne
