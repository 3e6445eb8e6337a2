-- After a job is taken it is sound, and so are the others.
use Prim.Native.Nat.{ℕ, ◌<◌}
use mathlib.Core.Path.{◌≡◌, refl, sym, ◌∙◌, ap, subst}
use mathlib.Core.Logic.{◌≢◌, ◌⊎◌, inl, inr}
use mathlib.Core.Bool.{true}
use mathlib.Core.List.{List}
use native.Mathlib.Nat.{mul-zero}
use native.Mathlib.Omega.{arith}
use native.Mathlib.Decide.{ℕ_discrete}
use lib.ListN.{length, get_or}
use borrow.Author.Tests.{eq-eqb}
use lib.Dec.{eqb}
use Rattle.laws.specs.Range.{any_to}
use Rattle.laws.specs.Sequence.{holds, times_in}
use Rattle.laws.proofs.Bools.{true_not_false}
use Rattle.laws.proofs.All.{any_of, any_imp}
use Rattle.laws.proofs.Count.{count_same, count_none, count_witness}
use Rattle.laws.proofs.Sequence.{times_positive}
use Rattle.laws.proofs.Firsts.{firsts_once, firsts_holds}
use Rattle.laws.proofs.Chain.{ends_zero}
use Rattle.laws.proofs.ChainChange.{ends_cut}
use Rattle.rules.specs.declared.State.{State}
use Rattle.rules.specs.Sizes.{max_jobs, max_entries}
use Rattle.rules.specs.State.{at, settings_of, is_present, destination_of, waits_of, busy_of, used_of, waiting_of, parent_of}
use Rattle.rules.specs.Sound.{cost_of}
use Rattle.rules.specs.SoundFacts.{ChildOf, JobSound, Sound}
use Rattle.rules.specs.Taking.{new_order, taken}
use Rattle.rules.proofs.Shape.{Shaped}
use Rattle.rules.proofs.EntryTests.{SameEntry, waits_used, used_not_free, used_job, absent_unused, absent_busy, same_used}
use Rattle.rules.proofs.Taken.{Fits, present_other, place_in, taken_others, taken_new, new_order_few, taken_order_new, taken_order_other}
use Rattle.rules.proofs.TakenEntries.{taken_entry, taken_busy_of, taken_waiting_new, taken_waiting_other}

module _ (w : State) (j t now : ℕ) (kept : List ℕ) (shaped : Shaped w) (sound : Sound w) (fits : Fits w j t kept) where
  -- The new job.

  new_distinct : (d : ℕ) → holds d (new_order kept) ≡ true → times_in d (new_order kept) ≡ 1
  unfolding new_order
  new_distinct d h = omega (arith, times_positive d (new_order kept) h, firsts_once kept (length kept) d)

  pub new_complete : (i : ℕ) → i < length kept → holds (at kept i) (new_order kept) ≡ true
  unfolding new_order
  new_complete i l =
      firsts_holds kept (length kept) (at kept i) ∙ any_of (λ k. eqb (at kept i) (get_or kept k 0)) (length kept) i l (eq-eqb (at kept i) (at kept i) refl)

  new_covers : (e : ℕ) → e < max_entries → used_of (taken w j t now kept) j e ≡ true → holds (destination_of (taken w j t now kept) e) (new_order kept) ≡ true
  new_covers e l u =
      taken_entry w j t now kept shaped sound fits e l
      (λ r. ap (λ d. holds d (new_order kept)) r.destination ∙ new_complete (place_in w e) r.place)
      (λ r. true_not_false u (same_used w (taken w j t now kept) e r j ∙ absent_unused w sound j fits.absent e l))

  new_used : any_to (used_of (taken w j t now kept) j) max_entries ≡ true
  unfolding waiting_of
  new_used =
      let n = taken_waiting_new w j t now kept shaped sound fits in
      let m = fits.some in
      let v = count_witness (waits_of (taken w j t now kept) j) max_entries (omega arith) in
      any_of (used_of (taken w j t now kept) j) max_entries v.0 v.1 (waits_used (taken w j t now kept) j v.0 v.2)

  pub job_new : JobSound (taken w j t now kept) j
  job_new =
      let g = taken_new w j t now kept shaped sound fits in
      let o = taken_order_new w j t now kept shaped sound fits in
      record {
        adds =
            let q = taken_waiting_new w j t now kept shaped sound fits in
            let a = g.picked in
            let b = g.dropped in
            let c = g.n in
            omega arith;
        n = rw g.n (fits.some, fits.few);
        busy =
            rw
            (count_none (busy_of (taken w j t now kept) j) max_entries λ e l.
            taken_busy_of w j t now kept shaped sound fits j e l ∙ absent_busy w sound j fits.absent e l)
            (omega arith);
        places = rw g.places (new_order_few w j t now kept shaped sound fits);
        distinct = rw o new_distinct;
        complete = rw o new_covers;
        sold = rw (g.sold, mul-zero) (omega arith);
        unsold = λ z. g.sold;
        parent = λ p e. let q = g.parent in absurd (omega arith);
        ends = rw g.parent (ends_zero (parent_of (taken w j t now kept)) 32);
        overtakers = rw g.overtakers (omega arith);
        turn = rw g.turn (omega arith);
      }

  -- Another job.

  used_other : (k : ℕ) → k ≢ j → (e : ℕ) → e < max_entries → used_of (taken w j t now kept) k e ≡ true → SameEntry w (taken w j t now kept) e
  used_other k ne e l u =
      taken_entry w j t now kept shaped sound fits e l (λ r. absurd (ne (sym (used_job (taken w j t now kept) k e u) ∙ r.job))) (λ r. r)

  used_before : (k e : ℕ) → e < max_entries → used_of w k e ≡ true → used_of (taken w j t now kept) k e ≡ true
  used_before k e l u =
      taken_entry w j t now kept shaped sound fits e l (λ r. true_not_false r.free (used_not_free w k e u)) (λ r. same_used w (taken w j t now kept) e r k ∙ u)

  cost_other : (k : ℕ) → k ≢ j → cost_of (taken w j t now kept) k ≡ cost_of w k
  unfolding taken
  cost_other k ne = ap (λ u. (settings_of w u).cost) (taken_others w j t now kept shaped sound fits k ne).transport

  child_other : (k p : ℕ) → k ≢ j → ChildOf w k p → ChildOf (taken w j t now kept) k p
  child_other k p ne c =
      let g = taken_others w j t now kept shaped sound fits k ne in
      let f = taken_others w j t now kept shaped sound fits p (present_other w j t kept fits p c.present) in
      record {
        present = f.present ∙ c.present;
        transport = f.transport ∙ c.transport ∙ sym g.transport;
        picked = rw f.picked c.picked;
        marked = g.preempted ∙ c.marked;
      }

  parent_cut : (x : ℕ) → (parent_of (taken w j t now kept) x ≡ parent_of w x) ⊎ (parent_of (taken w j t now kept) x ≡ 0)
  parent_cut x = elim (ℕ_discrete x j) [
    | yes e ↦ inr (ap (parent_of (taken w j t now kept)) e ∙ (taken_new w j t now kept shaped sound fits).parent)
    | no ne ↦ inl (taken_others w j t now kept shaped sound fits x ne).parent
  ]

  pub job_other : (k : ℕ) → k ≢ j → JobSound w k → JobSound (taken w j t now kept) k
  job_other k ne h =
      let g = taken_others w j t now kept shaped sound fits k ne in
      let o = taken_order_other w j t now kept shaped sound fits k ne h.places in
      record {
        adds =
            let q = taken_waiting_other w j t now kept shaped sound fits k ne in
            let a = g.picked in
            let b = g.dropped in
            let c = g.n in
            let z = h.adds in
            omega arith;
        n = rw g.n h.n;
        busy =
            rw (count_same (busy_of (taken w j t now kept) k) (busy_of w k) max_entries (taken_busy_of w j t now kept shaped sound fits k), g.picked)
            h.busy;
        places = rw g.places h.places;
        distinct = rw o h.distinct;
        complete =
            λ e l u.
            let r = used_other k ne e l u in
            rw (o, r.destination) (h.complete e l (sym (same_used w (taken w j t now kept) e r k) ∙ u));
        sold = rw (cost_other k ne, g.sold, g.n) h.sold;
        unsold = λ z. g.sold ∙ h.unsold (sym (cost_other k ne) ∙ z);
        parent = λ p e. child_other k p ne (h.parent p (sym g.parent ∙ e));
        ends = rw g.parent (ends_cut (parent_of w) (parent_of (taken w j t now kept)) parent_cut 32 (parent_of w k) h.ends);
        overtakers = rw g.overtakers h.overtakers;
        turn = rw (g.turn, g.places) h.turn;
      }

  pub jobs_taken : (k : ℕ) → k < max_jobs → is_present (taken w j t now kept) k ≡ true → JobSound (taken w j t now kept) k
  jobs_taken k l h = elim (ℕ_discrete k j) [
    | yes e ↦ subst (JobSound (taken w j t now kept)) (sym e) job_new
    | no ne ↦ job_other k ne (sound.jobs k l (sym (taken_others w j t now kept shaped sound fits k ne).present ∙ h))
  ]

  pub used_taken : (k : ℕ) → k < max_jobs → is_present (taken w j t now kept) k ≡ true → any_to (used_of (taken w j t now kept) k) max_entries ≡ true
  used_taken k l h = elim (ℕ_discrete k j) [
    | yes e ↦ subst (λ k. any_to (used_of (taken w j t now kept) k) max_entries ≡ true) (sym e) new_used
    | no ne ↦
        any_imp (used_of w k) (used_of (taken w j t now kept) k) max_entries (used_before k)
        (sound.used k l (sym (taken_others w j t now kept shaped sound fits k ne).present ∙ h))
  ]
