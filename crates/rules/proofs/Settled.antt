-- The entries and counts after the destination's step of a report: the reported entry is free, and where the destination died its waiting entries too.
use Prim.Native.Nat.{ℕ, ◌+◌, ◌<◌}
use mathlib.Core.Path.{◌≡◌, refl, sym, ◌∙◌, ap, subst}
use mathlib.Core.Logic.{◌≢◌}
use mathlib.Core.Bool.{Bool, true, false, not, ◌&&◌, and-true}
use native.Mathlib.Omega.{arith}
use native.Mathlib.Decide.{ℕ_discrete}
use lib.Dec.{eqb}
use borrow.Author.Tests.{eqb-true, eq-eqb, ne_eqb}
use Rattle.laws.specs.Bools.{when◌then◌else◌}
use Rattle.laws.proofs.Bools.{true_not_false, case_bool, false_of, bool_same, and_both, and_left, and_right, and_left_false, and_right_false}
use Rattle.laws.proofs.Bools.{if_true, if_false, eqb_self}
use Rattle.laws.proofs.Joined.{and_3}
use Rattle.laws.proofs.Count.{count_same, count_split}
use Rattle.laws.proofs.Table.{get_or_table}
use Rattle.rules.specs.declared.Health.{Health}
use Rattle.rules.specs.declared.State.{State}
use Rattle.rules.specs.Sizes.{max_entries}
use Rattle.rules.specs.State.{at, is_free, is_waiting, is_busy, job_of, destination_of, waits_of, used_of, waiting_of}
use Rattle.rules.specs.SoundFacts.{Sound}
use Rattle.rules.specs.Reporting.{is_put_off, put_off_of, kind_after, settled}
use Rattle.rules.proofs.Shape.{Shaped}
use Rattle.rules.proofs.EntryTests.{SameEntry, waits_of_lem, waits_waiting, waits_job, used_not_free, busy_not_waiting, same_waits, same_used}

-- an entry that is put off

module _ (s : State) (died : Bool) (d e : ℕ) where
  pub put_off_waiting : is_put_off s died d e ≡ true → is_waiting s e ≡ true
  unfolding is_put_off
  put_off_waiting h = (and_3 died (is_waiting s e) (eqb (destination_of s e) d) h).1

  pub put_off_destination : is_put_off s died d e ≡ true → destination_of s e ≡ d
  unfolding is_put_off
  put_off_destination h = eqb-true (destination_of s e) d (and_3 died (is_waiting s e) (eqb (destination_of s e) d) h).2

  pub put_off_of_lem : died ≡ true → is_waiting s e ≡ true → destination_of s e ≡ d → is_put_off s died d e ≡ true
  unfolding is_put_off
  put_off_of_lem h k q = and_both (and_both h k) (eq-eqb (destination_of s e) d q)

-- entry e, whichever its destination is, settled
abbrev pub freed : State → ℕ → Health → Bool → State
freed w e health died = settled w e (destination_of w e) health died

-- an entry that is free afterwards
pub record Ended (w r : State) (e : ℕ) : Type 0 where
  pub kind : at r.entries.kind e ≡ 0
  pub job : job_of r e ≡ job_of w e
  pub destination : destination_of r e ≡ destination_of w e

module _ (w : State) (e : ℕ) (health : Health) (died : Bool) (shaped : Shaped w) (sound : Sound w) (inside : e < max_entries) (busy : is_busy w e ≡ true) where
  settled_kind : (i : ℕ) → i < max_entries → at (freed w e health died).entries.kind i ≡ kind_after w died (destination_of w e) e i
  unfolding settled
  settled_kind i l = get_or_table (kind_after w died (destination_of w e) e) max_entries i 0 l

  settled_self : Ended w (freed w e health died) e
  unfolding settled kind_after
  settled_self =
      record {
        kind = settled_kind e inside ∙ if_true 0 (when is_put_off w died (destination_of w e) e then 0 else at w.entries.kind e) (eqb_self e);
        job = refl;
        destination = refl;
      }

  settled_off : (i : ℕ) → i < max_entries → i ≢ e → is_put_off w died (destination_of w e) i ≡ true → Ended w (freed w e health died) i
  unfolding settled kind_after
  settled_off i l ne h =
      record {
        kind =
            settled_kind i l ∙ if_false 0 (when is_put_off w died (destination_of w e) i then 0 else at w.entries.kind i) (ne_eqb i e ne)
            ∙ if_true 0 (at w.entries.kind i) h;
        job = refl;
        destination = refl;
      }

  settled_same : (i : ℕ) → i < max_entries → i ≢ e → is_put_off w died (destination_of w e) i ≡ false → SameEntry w (freed w e health died) i
  unfolding settled kind_after
  settled_same i l ne h =
      record {
        kind =
            settled_kind i l ∙ if_false 0 (when is_put_off w died (destination_of w e) i then 0 else at w.entries.kind i) (ne_eqb i e ne)
            ∙ if_false 0 (at w.entries.kind i) h;
        job = refl;
        destination = refl;
      }

  -- the reported entry, one that is put off, or another
  pub settled_entry {ℓ} : {P : Type ℓ} (i : ℕ) → i < max_entries
      → (i ≡ e → Ended w (freed w e health died) i → P)
      → (i ≢ e → is_put_off w died (destination_of w e) i ≡ true → Ended w (freed w e health died) i → P)
      → (i ≢ e → is_put_off w died (destination_of w e) i ≡ false → SameEntry w (freed w e health died) i → P) → P
  settled_entry i l f g h = elim (ℕ_discrete i e) [
    | yes q ↦ f q (subst (Ended w (freed w e health died)) (sym q) settled_self)
    | no ne ↦ case_bool (is_put_off w died (destination_of w e) i) (λ t. g ne t (settled_off i l ne t)) (λ t. h ne t (settled_same i l ne t))
  ]

  -- What is used afterwards was used, and is unchanged.

  pub settled_used_same : (i : ℕ) → i < max_entries → is_free (freed w e health died) i ≡ false → (i ≢ e) × (is_put_off w died (destination_of w e) i ≡ false) × SameEntry w (freed w e health died) i
  settled_used_same i l f =
      settled_entry i l (λ q r. true_not_false (ap (λ k. eqb k 0) r.kind) f) (λ ne t r. true_not_false (ap (λ k. eqb k 0) r.kind) f) (λ ne t r. (ne, t, r))

  pub settled_used : (j i : ℕ) → i < max_entries → used_of (freed w e health died) j i ≡ true → used_of w j i ≡ true
  settled_used j i l u =
      let r = settled_used_same i l (used_not_free (freed w e health died) j i u) in
      sym (same_used w (freed w e health died) i r.2 j) ∙ u

  -- The waiting ones.

  pub settled_waits : (j i : ℕ) → i < max_entries → waits_of (freed w e health died) j i ≡ waits_of w j i && not (is_put_off w died (destination_of w e) i)
  settled_waits j i l =
      settled_entry i l
      (λ q r.
      false_of (λ h. true_not_false (waits_waiting (freed w e health died) j i h) (ap (λ k. eqb k 1) r.kind))
      ∙ sym (and_left_false (not (is_put_off w died (destination_of w e) i)) (false_of λ h. true_not_false (waits_waiting w j i h) (ap (is_waiting w) q ∙ busy_not_waiting w e busy))))
      (λ ne t r.
      false_of (λ h. true_not_false (waits_waiting (freed w e health died) j i h) (ap (λ k. eqb k 1) r.kind))
      ∙ sym (and_right_false (waits_of w j i) (ap not t)))
      (λ ne t r. same_waits w (freed w e health died) i r j ∙ sym (rw t (and-true (waits_of w j i))))

  pub put_off_waits : (j i : ℕ) → waits_of w j i && is_put_off w died (destination_of w e) i ≡ is_put_off w died (destination_of w e) i && eqb (job_of w i) j
  put_off_waits j i =
      bool_same
      (λ h.
      and_both (and_right (waits_of w j i) (is_put_off w died (destination_of w e) i) h)
      (eq-eqb (job_of w i) j (waits_job w j i (and_left (waits_of w j i) (is_put_off w died (destination_of w e) i) h))))
      (λ h.
      let t = and_left (is_put_off w died (destination_of w e) i) (eqb (job_of w i) j) h in
      and_both (waits_of_lem w j i (put_off_waiting w died (destination_of w e) i t) (eqb-true (job_of w i) j (and_right (is_put_off w died (destination_of w e) i) (eqb (job_of w i) j) h))) t)

  -- what waited is put off or waits still
  pub settled_waiting : (j : ℕ) → waiting_of w j ≡ put_off_of w died (destination_of w e) j + waiting_of (freed w e health died) j
  unfolding waiting_of put_off_of
  settled_waiting j =
      let a = count_split (waits_of w j) (is_put_off w died (destination_of w e)) max_entries in
      let b =
      count_same (λ i. waits_of w j i && is_put_off w died (destination_of w e) i) (λ i. is_put_off w died (destination_of w e) i && eqb (job_of w i) j) max_entries (λ i l. put_off_waits j i) in
      let c = count_same (waits_of (freed w e health died) j) (λ i. waits_of w j i && not (is_put_off w died (destination_of w e) i)) max_entries (settled_waits j) in
      omega arith
