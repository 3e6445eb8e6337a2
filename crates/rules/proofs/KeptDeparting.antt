-- When the jobs without an entry leave, the state is sound.
use Prim.Native.Nat.{ℕ, suc, ◌≤◌, ◌<◌}
use mathlib.Core.Path.{◌≡◌, refl, sym, ◌∙◌, ap, subst}
use mathlib.Core.Logic.{◌≢◌}
use mathlib.Core.Bool.{true, false}
use native.Mathlib.Omega.{arith}
use native.Mathlib.Decide.{ℕ_discrete}
use lib.ListN.{length, get_or, length-set}
use Rattle.laws.specs.Chain.{ends_in, first_along}
use Rattle.laws.specs.Sequence.{keep, holds}
use Rattle.laws.proofs.All.{any_of}
use Rattle.laws.proofs.Chain.{link_cases, first_along_zero, first_along_ok}
use Rattle.laws.proofs.ChainSkip.{ends_first}
use Rattle.laws.proofs.Falling.{falling_keep}
use Rattle.laws.proofs.Keep.{keep_in}
use Rattle.laws.proofs.Once.{once_of}
use Rattle.laws.proofs.Sequence.{length_padded}
use Rattle.laws.proofs.Table.{length_table}
use Rattle.rules.specs.declared.State.{State}
use Rattle.rules.specs.Sizes.{max_transports, max_jobs, max_entries}
use Rattle.rules.specs.State.{at, zero_list, list_of, listed, queue_of, is_free, is_present, has_preempted, job_of, waits_of, busy_of, used_of, waiting_of}
use Rattle.rules.specs.State.{parent_of}
use Rattle.rules.specs.Sound.{busy_on, busy_to, is_job_on, order_of}
use Rattle.rules.specs.SoundFacts.{EntrySound, QueueSound, ArrivalsSound, ChildOf, JobSound, DestinationSound, Sound, SoundBesides}
use Rattle.rules.specs.Reporting.{stays, nearest_staying, parent_after, departed}
use Rattle.rules.proofs.Shape.{Shaped, JobsShaped, present_length, parent_length, present_below}
use Rattle.rules.proofs.EntryTests.{used_of_lem}
use Rattle.rules.proofs.Departed.{stays_present, stays_used, stays_of, departed_present, departed_parent_stays, departed_arrivals}
use Rattle.rules.proofs.Departed.{departed_arrivals_once, departed_queue_list, departed_queue, departed_queue_list_other, departed_queue_other}
use Rattle.rules.proofs.Departed.{departed_queue_once, departed_queue_once_other}
use Rattle.rules.proofs.ListFacts.{once_few}

module _ (s : State) (t : ℕ) (shaped : Shaped s) (sound : SoundBesides t s) (inside : t < s.setup.transports) where
  below_four : t < max_transports
  below_four = let b = sound.setup.transports.1 in omega arith

  -- Shape.

  jobs_shaped : JobsShaped (departed s t).jobs
  unfolding departed
  jobs_shaped =
      let g = shaped.jobs in
      record {
        lengths =
            rw (length_table (stays s) max_jobs ∙ sym (present_length g), length_table (parent_after s) max_jobs ∙ sym (parent_length g)) g.lengths;
      }

  pub shaped_departed : Shaped (departed s t)
  unfolding departed
  shaped_departed =
      record {
        destinations = shaped.destinations;
        busy = shaped.busy;
        queues = length-set s.queues t (listed (keep (stays s) (queue_of s t))) ∙ shaped.queues;
        queue =
            λ u l. elim (ℕ_discrete u t) [
              | yes e ↦
                  ap (λ x. length (get_or (departed s t).queues x zero_list).jobs) e ∙ ap (λ q. length q.jobs) (departed_queue_list s t shaped below_four)
                  ∙ length_padded max_jobs (keep (stays s) (queue_of s t)) (once_few (departed_queue_once s t shaped below_four (sound.queues t inside)))
              | no ne ↦ ap (λ q. length q.jobs) (departed_queue_list_other s t shaped below_four u ne) ∙ shaped.queue u l
            ];
        arrivals = length_padded max_jobs (keep (stays s) (list_of s.arrivals)) (once_few (departed_arrivals_once s t shaped sound.arrivals));
        jobs = jobs_shaped;
        entries = shaped.entries;
      }

  -- Entries.

  entry_present : (e : ℕ) → e < max_entries → is_free s e ≡ false → is_present (departed s t) (job_of s e) ≡ true
  entry_present e l f =
      departed_present s t shaped (job_of s e)
      ∙ stays_of s (job_of s e) (sound.entries e l f).present (any_of (used_of s (job_of s e)) max_entries e l (used_of_lem s (job_of s e) e f refl))

  entries_departed : (e : ℕ) → e < max_entries → is_free s e ≡ false → EntrySound (departed s t) e
  unfolding departed
  entries_departed e l f =
      let h = sound.entries e l f in
      record { kind = h.kind; present = entry_present e l f; destination = h.destination; transport = h.transport }

  -- Lists.

  queue_self : QueueSound (departed s t) t
  queue_self =
      let o = departed_queue_once s t shaped below_four (sound.queues t inside) in
      record {
        count = rw (departed_queue_list s t shaped below_four) (once_few o);
        once = rw (departed_queue s t shaped below_four) (once_of (is_job_on (departed s t) t) max_jobs (keep (stays s) (queue_of s t)) o);
      }

  queue_other : (u : ℕ) → u ≢ t → u < s.setup.transports → QueueSound (departed s t) u
  queue_other u ne l =
      record {
        count = rw (departed_queue_list_other s t shaped below_four u ne) (sound.queues u l).count;
        once =
            rw (departed_queue_other s t shaped below_four u ne)
            (once_of (is_job_on (departed s t) u) max_jobs (queue_of s u) (departed_queue_once_other s t shaped below_four sound.used u ne (sound.queues u l)));
      }

  queues_departed : (u : ℕ) → u < s.setup.transports → QueueSound (departed s t) u
  queues_departed u l = elim (ℕ_discrete u t) [ yes e ↦ subst (QueueSound (departed s t)) (sym e) queue_self | no ne ↦ queue_other u ne l ]

  arrivals_departed : ArrivalsSound (departed s t)
  unfolding departed
  arrivals_departed =
      let e = departed_arrivals s t shaped in
      let o = departed_arrivals_once s t shaped sound.arrivals in
      record {
        count = once_few o;
        once = rw e (once_of (is_present (departed s t)) max_jobs (keep (stays s) (list_of s.arrivals)) o);
        rising = rw e (falling_keep (at s.jobs.arrival) (stays s) (list_of s.arrivals) sound.arrivals.rising);
        past = λ k h. sound.arrivals.past k (keep_in (stays s) k (list_of s.arrivals) (sym (ap (holds k) e) ∙ h));
      }

  -- Parents.

  -- an ancestor of a job of transport u
  Ancestor : ℕ → ℕ → Type 0
  Ancestor u p = (is_present s p ≡ true) × (at s.jobs.transport p ≡ u) × (1 ≤ at s.jobs.picked p)

  up : (u x y : ℕ) → Ancestor u x → parent_of s x ≡ suc y → Ancestor u y
  unfolding Ancestor
  up u x y a e =
      let c = (sound.jobs x (present_below s shaped x a.0) a.0).parent y e in
      (c.present, c.transport ∙ a.1, c.picked)

  first_up : (j : ℕ) → JobSound s j → (p : ℕ) → nearest_staying s j ≡ suc p
      → Ancestor (at s.jobs.transport j) p × (stays s p ≡ true)
  unfolding Ancestor
  first_up j h =
      first_along_ok (stays s) (parent_of s) (Ancestor (at s.jobs.transport j)) (up (at s.jobs.transport j)) _ (parent_of s j)
      λ x e. let c = h.parent x e in (c.present, c.transport, c.picked)

  had_parent : (j : ℕ) → JobSound s j → (p : ℕ) → nearest_staying s j ≡ suc p → has_preempted s j ≡ true
  had_parent j h p e =
      link_cases (λ k. (parent_of s j ≡ k → has_preempted s j ≡ true)) (parent_of s j)
      (λ q. let z : nearest_staying s j ≡ 0 = ap (first_along (stays s) (parent_of s) _) q ∙ first_along_zero (stays s) (parent_of s) _ in absurd (omega arith))
      (λ x k q. (h.parent x q).marked)
      refl

  child_departed : (j : ℕ) → stays s j ≡ true → JobSound s j → (p : ℕ) → parent_of (departed s t) j ≡ suc p → ChildOf (departed s t) j p
  unfolding departed Ancestor
  child_departed j k h p e =
      let q = sym (departed_parent_stays s t shaped j k) ∙ e in
      let a = first_up j h p q in
      record { present = departed_present s t shaped p ∙ a.1; transport = a.0.1; picked = a.0.2; marked = had_parent j h p q }

  ends_departed : (j : ℕ) → stays s j ≡ true → JobSound s j → ends_in (parent_of (departed s t)) 32 (parent_of (departed s t) j) ≡ true
  ends_departed j k h =
      rw (departed_parent_stays s t shaped j k)
      (ends_first (stays s) (parent_of s) (parent_of (departed s t)) _ (departed_parent_stays s t shaped) 32 _ (parent_of s j) h.ends)

  -- Jobs.

  job_departed : (j : ℕ) → stays s j ≡ true → JobSound s j → JobSound (departed s t) j
  unfolding departed order_of waiting_of waits_of busy_of used_of
  job_departed j k h =
      record {
        adds = h.adds;
        n = h.n;
        busy = h.busy;
        places = h.places;
        distinct = h.distinct;
        complete = h.complete;
        sold = h.sold;
        unsold = h.unsold;
        parent = child_departed j k h;
        ends = ends_departed j k h;
        overtakers = h.overtakers;
        turn = h.turn;
      }

  jobs_departed : (j : ℕ) → j < max_jobs → is_present (departed s t) j ≡ true → JobSound (departed s t) j
  jobs_departed j l h =
      let k = sym (departed_present s t shaped j) ∙ h in
      job_departed j k (sound.jobs j l (stays_present s j k))

  destination_departed : (d : ℕ) → DestinationSound s d → DestinationSound (departed s t) d
  unfolding departed
  destination_departed d h = record { live = h.live; dead = h.dead }

  pub sound_departed : Sound (departed s t)
  unfolding departed busy_on busy_to used_of
  sound_departed =
      record {
        setup = sound.setup;
        entries = entries_departed;
        busy_transport = sound.busy_transport;
        busy_destination = sound.busy_destination;
        queues = queues_departed;
        arrivals = arrivals_departed;
        jobs = jobs_departed;
        used = λ j l h. stays_used s j (sym (departed_present s t shaped j) ∙ h);
        destinations = λ d l. destination_departed d (sound.destinations d l);
        turn = sound.turn;
      }
