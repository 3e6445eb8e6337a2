-- The busy counts after the destination's step of a report fall by one where the entry was busy.
use Prim.Native.Nat.{ℕ, suc, ◌-◌, ◌<◌}
use mathlib.Core.Path.{◌≡◌, refl, sym, ◌∙◌, ap, subst}
use mathlib.Core.Logic.{◌≢◌}
use mathlib.Core.Bool.{Bool, true, false, ◌&&◌}
use native.Mathlib.Omega.{arith}
use native.Mathlib.Decide.{ℕ_discrete}
use lib.Seq.{get_or-set_same, get_or-set_other}
use lib.Dec.{eqb}
use borrow.Author.Tests.{ne_eqb}
use Rattle.laws.specs.Range.{count_to}
use Rattle.laws.proofs.Bools.{true_not_false, and_both, and_left, and_left_false, and_right_false, eqb_self, and_right}
use Rattle.laws.proofs.Count.{count_same, count_lose}
use Rattle.rules.specs.declared.Health.{Health}
use Rattle.rules.specs.declared.State.{State}
use Rattle.rules.specs.Sizes.{max_entries}
use Rattle.rules.specs.State.{at, transport_of, is_busy, job_of, destination_of, busy_of}
use Rattle.rules.specs.Sound.{busy_on, busy_to}
use Rattle.rules.specs.SoundFacts.{EntrySound, Sound}
use Rattle.rules.specs.Reporting.{settled}
use Rattle.rules.proofs.Shape.{Shaped}
use Rattle.rules.proofs.EntryTests.{busy_used, waiting_not_busy, same_busy}
use Rattle.rules.proofs.Settled.{freed, put_off_waiting, settled_entry}

module _ (w : State) (e : ℕ) (health : Health) (died : Bool) (shaped : Shaped w) (sound : Sound w) (inside : e < max_entries) (busy : is_busy w e ≡ true) where
  -- the reported entry's job, destination and transport
  pub reported_entry : EntrySound w e
  reported_entry = sound.entries e inside (busy_used w e busy)

  pub reported_transport : transport_of w (destination_of w e) < w.setup.transports
  reported_transport = sound.setup.home (destination_of w e) reported_entry.destination

  -- Which are busy.

  pub settled_busy : (i : ℕ) → i < max_entries → i ≢ e → is_busy (freed w e health died) i ≡ is_busy w i
  settled_busy i l ne =
      settled_entry w e health died shaped sound inside busy i l (λ q. absurd (ne q))
      (λ n t r. ap (λ k. eqb k 2) r.kind ∙ sym (waiting_not_busy w i (put_off_waiting w died (destination_of w e) i t)))
      (λ n t r. same_busy w (freed w e health died) i r)

  pub settled_busy_self : is_busy (freed w e health died) e ≡ false
  settled_busy_self =
      settled_entry w e health died shaped sound inside busy e inside (λ q r. ap (λ k. eqb k 2) r.kind)
      (λ n t r. absurd (n refl)) (λ n t r. absurd (n refl))

  settled_busy_imp : (i : ℕ) → i < max_entries → is_busy (freed w e health died) i ≡ true → is_busy w i ≡ true
  settled_busy_imp i l h = elim (ℕ_discrete i e) [
    | yes q ↦ true_not_false h (ap (is_busy (freed w e health died)) q ∙ settled_busy_self)
    | no ne ↦ sym (settled_busy i l ne) ∙ h
  ]

  pub settled_busy_of : (j i : ℕ) → i < max_entries → busy_of (freed w e health died) j i ≡ true → busy_of w j i ≡ true
  unfolding settled busy_of
  settled_busy_of j i l h =
      and_both (settled_busy_imp i l (and_left (is_busy (freed w e health died) i) (eqb (job_of w i) j) h))
      (and_right (is_busy (freed w e health died) i) (eqb (job_of w i) j) h)

  -- A test q on busy entries, true of the reported one or not.

  module _ (q : ℕ → Bool) where
    pub count_busy_hit : q e ≡ true → count_to (λ i. is_busy w i && q i) max_entries ≡ suc (count_to (λ i. is_busy (freed w e health died) i && q i) max_entries)
    count_busy_hit h =
        count_lose (λ i. is_busy w i && q i) (λ i. is_busy (freed w e health died) i && q i) max_entries e inside
        (λ i l ne. ap (λ b. b && q i) (sym (settled_busy i l ne)))
        (and_both busy h)
        (and_left_false (q e) settled_busy_self)

    pub count_busy_miss : q e ≡ false → count_to (λ i. is_busy w i && q i) max_entries ≡ count_to (λ i. is_busy (freed w e health died) i && q i) max_entries
    count_busy_miss h =
        count_same (λ i. is_busy w i && q i) (λ i. is_busy (freed w e health died) i && q i) max_entries
        λ i l. elim (ℕ_discrete i e) [
          | yes z ↦ rw z (and_right_false (is_busy w e) h ∙ sym (and_right_false (is_busy (freed w e health died) e) h))
          | no ne ↦ ap (λ b. b && q i) (sym (settled_busy i l ne))
        ]

  -- The counts.

  count_to_self : count_to (busy_to w (destination_of w e)) max_entries ≡ suc (count_to (busy_to (freed w e health died) (destination_of w e)) max_entries)
  unfolding settled busy_to
  count_to_self = count_busy_hit (λ i. eqb (destination_of w i) (destination_of w e)) (eqb_self (destination_of w e))

  count_to_other : (d : ℕ) → d ≢ (destination_of w e) → count_to (busy_to w d) max_entries ≡ count_to (busy_to (freed w e health died) d) max_entries
  unfolding settled busy_to
  count_to_other d ne = count_busy_miss (λ i. eqb (destination_of w i) d) (ne_eqb (destination_of w e) d λ z. ne (sym z))

  pub settled_destination_self : at (freed w e health died).busy.destination (destination_of w e) ≡ at w.busy.destination (destination_of w e) - 1
  unfolding settled
  settled_destination_self =
      let l = reported_entry.destination in
      let b = sound.setup.destinations.1 in
      get_or-set_same w.busy.destination (destination_of w e) (at w.busy.destination (destination_of w e) - 1) 0 (rw shaped.busy.destination (omega arith))

  pub settled_destination_other : (d : ℕ) → d ≢ (destination_of w e) → at (freed w e health died).busy.destination d ≡ at w.busy.destination d
  unfolding settled
  settled_destination_other d ne = get_or-set_other w.busy.destination (destination_of w e) d (at w.busy.destination (destination_of w e) - 1) 0 ne

  busy_destination_self : at (freed w e health died).busy.destination (destination_of w e) ≡ count_to (busy_to (freed w e health died) (destination_of w e)) max_entries
  busy_destination_self =
      let a = settled_destination_self in
      let b = count_to_self in
      let c = sound.busy_destination (destination_of w e) reported_entry.destination in
      omega arith

  pub settled_busy_destination : (d : ℕ) → d < w.setup.destinations → at (freed w e health died).busy.destination d ≡ count_to (busy_to (freed w e health died) d) max_entries
  settled_busy_destination d l = elim (ℕ_discrete d (destination_of w e)) [
    | yes q ↦ subst (λ x. at (freed w e health died).busy.destination x ≡ count_to (busy_to (freed w e health died) x) max_entries) (sym q) busy_destination_self
    | no ne ↦ settled_destination_other d ne ∙ sound.busy_destination d l ∙ count_to_other d ne
  ]

  count_on_self : count_to (busy_on w (transport_of w (destination_of w e))) max_entries ≡ suc (count_to (busy_on (freed w e health died) (transport_of w (destination_of w e))) max_entries)
  unfolding settled busy_on
  count_on_self = count_busy_hit (λ i. eqb (transport_of w (destination_of w i)) (transport_of w (destination_of w e))) (eqb_self (transport_of w (destination_of w e)))

  count_on_other : (t : ℕ) → t ≢ transport_of w (destination_of w e) → count_to (busy_on w t) max_entries ≡ count_to (busy_on (freed w e health died) t) max_entries
  unfolding settled busy_on
  count_on_other t ne = count_busy_miss (λ i. eqb (transport_of w (destination_of w i)) t) (ne_eqb (transport_of w (destination_of w e)) t λ z. ne (sym z))

  pub settled_transport_self : at (freed w e health died).busy.transport (transport_of w (destination_of w e)) ≡ at w.busy.transport (transport_of w (destination_of w e)) - 1
  unfolding settled
  settled_transport_self =
      let l = reported_transport in
      let b = sound.setup.transports.1 in
      get_or-set_same w.busy.transport (transport_of w (destination_of w e)) (at w.busy.transport (transport_of w (destination_of w e)) - 1) 0 (rw shaped.busy.transport (omega arith))

  pub settled_transport_other : (t : ℕ) → t ≢ transport_of w (destination_of w e) → at (freed w e health died).busy.transport t ≡ at w.busy.transport t
  unfolding settled
  settled_transport_other t ne =
      get_or-set_other w.busy.transport (transport_of w (destination_of w e)) t (at w.busy.transport (transport_of w (destination_of w e)) - 1) 0 ne

  busy_transport_self : at (freed w e health died).busy.transport (transport_of w (destination_of w e)) ≡ count_to (busy_on (freed w e health died) (transport_of w (destination_of w e))) max_entries
  busy_transport_self =
      let a = settled_transport_self in
      let b = count_on_self in
      let c = sound.busy_transport (transport_of w (destination_of w e)) reported_transport in
      omega arith

  pub settled_busy_transport : (t : ℕ) → t < w.setup.transports → at (freed w e health died).busy.transport t ≡ count_to (busy_on (freed w e health died) t) max_entries
  settled_busy_transport t l = elim (ℕ_discrete t (transport_of w (destination_of w e))) [
    | yes q ↦ subst (λ x. at (freed w e health died).busy.transport x ≡ count_to (busy_on (freed w e health died) x) max_entries) (sym q) busy_transport_self
    | no ne ↦ settled_transport_other t ne ∙ sound.busy_transport t l ∙ count_on_other t ne
  ]
