-- The test of a job, `job_sound`, and the facts `JobSound` say the same.
use Prim.Native.Nat.{ℕ, zero, suc, ◌+◌, ◌*◌}
use mathlib.Core.Path.{◌≡◌, refl, sym}
use mathlib.Core.Bool.{Bool, true}
use native.Mathlib.Nat.{suc_inj, suc-ne-zero}
use lib.Dec.{eqb, leb}
use borrow.Author.Tests.{leb-true, eqb-true, le-leb, eq-eqb}
use Rattle.laws.specs.Range.{all_to, any_to, count_to}
use Rattle.laws.specs.Chain.{ends_in}
use Rattle.laws.specs.Sequence.{holds, times_in, every_in}
use Rattle.laws.proofs.Bools.{and_both, and_left, and_right}
use Rattle.laws.proofs.Joined.{and_3, and_4, and_8}
use Rattle.laws.proofs.All.{all_at, all_from}
use Rattle.laws.proofs.Sequence.{every_at, every_from}
use Rattle.rules.specs.declared.State.{State}
use Rattle.rules.specs.Sizes.{sum_limit, max_destinations, max_entries, max_length}
use Rattle.rules.specs.State.{at, destination_of, is_present, has_preempted, busy_of, used_of, waiting_of, parent_of}
use Rattle.rules.specs.Setup.{within}
use Rattle.rules.specs.Sound.{implies, order_of, order_sound, counts_sound, cost_of, sold_sound, child_of, job_sound}
use Rattle.rules.specs.SoundFacts.{ChildOf, JobSound}
use Rattle.rules.proofs.RangeFacts.{within_facts, within_of, implies_at, implies_of}

module _ (s : State) where
  child_facts : (j link : ℕ) → child_of s j link ≡ true → (p : ℕ) → link ≡ suc p → ChildOf s j p
  unfolding child_of
  child_facts j zero h p e = absurd (suc-ne-zero p (sym e))
  child_facts j (suc q) h p e = rw (suc_inj e) at (facts q h)
    where
      facts : (q : ℕ) → child_of s j (suc q) ≡ true → ChildOf s j q
      facts q h =
          let f =
          and_4 (is_present s q) (eqb (at s.jobs.transport q) (at s.jobs.transport j)) (leb 1 (at s.jobs.picked q))
          (has_preempted s j) h in
          record {
            present = f.0;
            transport = eqb-true (at s.jobs.transport q) (at s.jobs.transport j) f.1;
            picked = leb-true 1 (at s.jobs.picked q) f.2;
            marked = f.3;
          }

  child_of_lem : (j link : ℕ) → ((p : ℕ) → link ≡ suc p → ChildOf s j p) → child_of s j link ≡ true
  unfolding child_of
  child_of_lem j zero h = refl
  child_of_lem j (suc q) h =
      let r = h q refl in
      and_both
      (and_both (and_both r.present (eq-eqb (at s.jobs.transport q) (at s.jobs.transport j) r.transport))
      (le-leb 1 (at s.jobs.picked q) r.picked))
      r.marked

  once_in_order : ℕ → ℕ → Bool
  once_in_order j d = eqb (times_in d (order_of s j)) 1

  in_order : ℕ → ℕ → Bool
  in_order j e = implies (used_of s j e) (holds (destination_of s e) (order_of s j))

  adds_up : ℕ → Bool
  adds_up j = eqb (waiting_of s j + at s.jobs.picked j + at s.jobs.dropped j) (at s.jobs.n j)

  busy_few : ℕ → Bool
  busy_few j = leb (count_to (busy_of s j) max_entries) (at s.jobs.picked j)

  sold_few : ℕ → Bool
  sold_few j = leb (cost_of s j * at s.jobs.sold j) (at s.jobs.n j)

  pub job_facts : (j : ℕ) → job_sound s j ≡ true → JobSound s j
  unfolding job_sound counts_sound order_sound sold_sound once_in_order in_order adds_up busy_few sold_few
  job_facts j h =
      let f =
      and_8 (counts_sound s j) (order_sound s j) (sold_sound s j) (any_to (used_of s j) max_entries) (child_of s j (parent_of s j))
      (ends_in (parent_of s) 32 (parent_of s j)) (leb (at s.jobs.overtakers j) sum_limit)
      (leb (at s.jobs.turn j) (at s.jobs.places j)) h in
      let c = and_3 (adds_up j) (within 1 max_length (at s.jobs.n j)) (busy_few j) f.0 in
      let o =
      and_3 (leb (at s.jobs.places j) max_destinations) (every_in (once_in_order j) (order_of s j)) (all_to (in_order j) max_entries) f.1 in
      let unsoldTest = implies (eqb (cost_of s j) 0) (eqb (at s.jobs.sold j) 0) in
      record {
        adds = eqb-true (waiting_of s j + at s.jobs.picked j + at s.jobs.dropped j) (at s.jobs.n j) c.0;
        n = within_facts c.1;
        busy = leb-true (count_to (busy_of s j) max_entries) (at s.jobs.picked j) c.2;
        places = leb-true (at s.jobs.places j) max_destinations o.0;
        distinct = λ d k. eqb-true (times_in d (order_of s j)) 1 (every_at (once_in_order j) (order_of s j) o.1 d k);
        complete = λ e l k. implies_at (all_at (in_order j) max_entries o.2 e l) k;
        sold = leb-true (cost_of s j * at s.jobs.sold j) (at s.jobs.n j) (and_left (sold_few j) unsoldTest f.2);
        unsold = λ z. eqb-true (at s.jobs.sold j) 0 (implies_at (and_right (sold_few j) unsoldTest f.2) (eq-eqb (cost_of s j) 0 z));
        parent = child_facts j (parent_of s j) f.4;
        ends = f.5;
        overtakers = leb-true (at s.jobs.overtakers j) sum_limit f.6;
        turn = leb-true (at s.jobs.turn j) (at s.jobs.places j) f.7;
      }

  pub job_used : (j : ℕ) → job_sound s j ≡ true → any_to (used_of s j) max_entries ≡ true
  unfolding job_sound
  job_used j h =
      (and_8 (counts_sound s j) (order_sound s j) (sold_sound s j) (any_to (used_of s j) max_entries) (child_of s j (parent_of s j))
      (ends_in (parent_of s) 32 (parent_of s j)) (leb (at s.jobs.overtakers j) sum_limit)
      (leb (at s.jobs.turn j) (at s.jobs.places j)) h).3

  counts_of : (j : ℕ) → JobSound s j → counts_sound s j ≡ true
  unfolding counts_sound
  counts_of j r =
      and_both
      (and_both (eq-eqb (waiting_of s j + at s.jobs.picked j + at s.jobs.dropped j) (at s.jobs.n j) r.adds) (within_of r.n))
      (le-leb (count_to (busy_of s j) max_entries) (at s.jobs.picked j) r.busy)

  order_of_lem : (j : ℕ) → JobSound s j → order_sound s j ≡ true
  unfolding order_sound once_in_order in_order
  order_of_lem j r =
      and_both
      (and_both (le-leb (at s.jobs.places j) max_destinations r.places)
      (every_from (once_in_order j) (order_of s j) λ d k. eq-eqb (times_in d (order_of s j)) 1 (r.distinct d k)))
      (all_from (in_order j) max_entries λ e l. implies_of (used_of s j e) (r.complete e l))

  sold_of : (j : ℕ) → JobSound s j → sold_sound s j ≡ true
  unfolding sold_sound
  sold_of j r =
      and_both (le-leb (cost_of s j * at s.jobs.sold j) (at s.jobs.n j) r.sold)
      (implies_of (eqb (cost_of s j) 0) λ z. eq-eqb (at s.jobs.sold j) 0 (r.unsold (eqb-true (cost_of s j) 0 z)))

  pub job_of_lem : (j : ℕ) → JobSound s j → any_to (used_of s j) max_entries ≡ true → job_sound s j ≡ true
  unfolding job_sound
  job_of_lem j r u =
      and_both
      (and_both
      (and_both
      (and_both (and_both (and_both (and_both (counts_of j r) (order_of_lem j r)) (sold_of j r)) u) (child_of_lem j (parent_of s j) r.parent))
      r.ends)
      (le-leb (at s.jobs.overtakers j) sum_limit r.overtakers))
      (le-leb (at s.jobs.turn j) (at s.jobs.places j) r.turn)
