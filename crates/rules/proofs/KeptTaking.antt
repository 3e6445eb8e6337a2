-- Taking a job keeps the shape and the soundness of a state.
use Prim.Native.Nat.{ℕ, ◌<◌}
use mathlib.Core.Path.{◌≡◌, sym, ◌∙◌, ap, subst}
use mathlib.Core.Logic.{inl, inr, ⊎_elim}
use mathlib.Core.Bool.{true, false}
use mathlib.Core.List.{List, [], ◌∷◌, ◌++◌}
use native.Mathlib.Decide.{ℕ_discrete}
use lib.ListN.{length, get_or, length-set}
use lib.Dec.{eqb}
use Rattle.laws.specs.Sequence.{holds}
use Rattle.laws.proofs.Bools.{true_not_false}
use Rattle.laws.proofs.Count.{count_same}
use Rattle.laws.proofs.Sequence.{length_padded}
use Rattle.laws.proofs.Once.{once_of}
use Rattle.rules.specs.declared.State.{State}
use Rattle.rules.specs.Sizes.{max_jobs, max_entries}
use Rattle.rules.specs.State.{at, zero_list, health_of, is_live, list_of, listed, queue_of, is_free, is_present, job_of}
use Rattle.rules.specs.Sound.{busy_on, busy_to, is_job_on}
use Rattle.rules.specs.SoundFacts.{EntrySound, QueueSound, ArrivalsSound, DestinationSound, Sound}
use Rattle.rules.specs.Taking.{new_order, kept_of, new_number, taken}
use Rattle.rules.proofs.Shape.{Shaped, JobsShaped, order_length, EntriesShaped}
use Rattle.rules.proofs.Filled.{length_filled, length_with_order}
use Rattle.rules.proofs.EntryTests.{SameEntry, same_free, same_waiting, same_busy}
use Rattle.rules.proofs.Taken.{Fits, present_other, Passed, fits_of, place_in, taken_others, taken_new, new_order_few}
use Rattle.rules.proofs.TakenEntries.{NewEntry, taken_entry, taken_busy_to, taken_busy_on}
use Rattle.rules.proofs.TakenJobs.{jobs_taken, used_taken}
use Rattle.rules.proofs.TakenLists.{taken_queue_list, taken_queue, taken_queue_list_other, taken_queue_other, taken_arrivals}
use Rattle.rules.proofs.TakenLists.{taken_queue_once, taken_queue_once_other, taken_arrivals_once, taken_rising, taken_past}
use Rattle.rules.proofs.ListFacts.{once_few}

module _ (w : State) (j t now : ℕ) (kept : List ℕ) (shaped : Shaped w) (sound : Sound w) (fits : Fits w j t kept) where
  -- Shape.

  jobs_shaped : JobsShaped (taken w j t now kept).jobs
  unfolding taken
  jobs_shaped =
      let g = w.jobs in
      record {
        lengths =
            rw (
              length-set g.present j true,
              length-set g.transport j t,
              length-set g.n j (length kept),
              length-set g.picked j 0,
              length-set g.dropped j 0,
              length-set g.sold j 0,
              length-set g.parent j 0,
              length-set g.preempted j false,
              length-set g.arrival j now,
              length-set g.overtakers j 0,
              length-set g.turn j 0,
              length-set g.places j (length (new_order kept)),
              length_with_order g.order j (new_order kept) (order_length shaped.jobs) fits.number (new_order_few w j t now kept shaped sound fits)
                  ∙ sym (order_length shaped.jobs),
            )
            shaped.jobs.lengths;
      }

  entries_shaped : EntriesShaped (taken w j t now kept).entries
  unfolding taken
  entries_shaped =
      let g = shaped.entries in
      record {
        kind = length_filled _ _ (length kept) w.entries.kind ∙ g.kind;
        job = length_filled _ _ (length kept) w.entries.job ∙ g.job;
        destination = length_filled _ _ (length kept) w.entries.destination ∙ g.destination;
        ticket = g.ticket;
      }

  pub shaped_taken : Shaped (taken w j t now kept)
  unfolding taken
  shaped_taken =
      record {
        destinations = shaped.destinations;
        busy = shaped.busy;
        queues = length-set w.queues t (listed (queue_of w t ++ (j ∷ []))) ∙ shaped.queues;
        queue =
            λ u l. elim (ℕ_discrete u t) [
              | yes e ↦
                  ap (λ x. length (get_or (taken w j t now kept).queues x zero_list).jobs) e ∙ ap (λ q. length q.jobs) (taken_queue_list w j t now kept shaped sound fits)
                  ∙ length_padded max_jobs (queue_of w t ++ (j ∷ [])) (once_few (taken_queue_once w j t now kept shaped sound fits))
              | no ne ↦ ap (λ q. length q.jobs) (taken_queue_list_other w j t now kept shaped sound fits u ne) ∙ shaped.queue u l
            ];
        arrivals = length_padded max_jobs (list_of w.arrivals ++ (j ∷ [])) (once_few (taken_arrivals_once w j t now kept shaped sound fits));
        jobs = jobs_shaped;
        entries = entries_shaped;
      }

  -- Entries.

  entry_new : (e : ℕ) → NewEntry w (taken w j t now kept) j kept e → EntrySound (taken w j t now kept) e
  unfolding taken
  entry_new e r =
      let g = taken_new w j t now kept shaped sound fits in
      record {
        kind = inl (ap (λ k. eqb k 1) r.kind);
        present = ap (is_present (taken w j t now kept)) r.job ∙ g.present;
        destination = rw r.destination (fits.destination (place_in w e) r.place);
        transport = ap (at (taken w j t now kept).jobs.transport) r.job ∙ g.transport ∙ sym (ap (at w.setup.home) r.destination ∙ fits.home (place_in w e) r.place);
      }

  entry_old : (e : ℕ) → SameEntry w (taken w j t now kept) e → EntrySound w e → EntrySound (taken w j t now kept) e
  unfolding taken
  entry_old e r h =
      let g = taken_others w j t now kept shaped sound fits (job_of w e) (present_other w j t kept fits (job_of w e) h.present) in
      record {
        kind = ⊎_elim (λ k. inl (same_waiting w (taken w j t now kept) e r ∙ k)) (λ k. inr (same_busy w (taken w j t now kept) e r ∙ k)) h.kind;
        present = ap (is_present (taken w j t now kept)) r.job ∙ g.present ∙ h.present;
        destination = rw r.destination h.destination;
        transport = ap (at (taken w j t now kept).jobs.transport) r.job ∙ g.transport ∙ h.transport ∙ sym (ap (at w.setup.home) r.destination);
      }

  entries_sound : (e : ℕ) → e < max_entries → is_free (taken w j t now kept) e ≡ false → EntrySound (taken w j t now kept) e
  entries_sound e l f =
      taken_entry w j t now kept shaped sound fits e l (entry_new e) λ r. entry_old e r (sound.entries e l (sym (same_free w (taken w j t now kept) e r) ∙ f))

  -- Lists.

  queue_sound_lem : (u : ℕ) → u < w.setup.transports → QueueSound (taken w j t now kept) u
  queue_sound_lem u l = elim (ℕ_discrete u t) [
    | yes e ↦ subst (QueueSound (taken w j t now kept)) (sym e) at_t
    | no ne ↦
        record {
          count = rw (taken_queue_list_other w j t now kept shaped sound fits u ne) (sound.queues u l).count;
          once =
              rw (taken_queue_other w j t now kept shaped sound fits u ne)
              (once_of (is_job_on (taken w j t now kept) u) max_jobs (queue_of w u) (taken_queue_once_other w j t now kept shaped sound fits u ne l));
        }
  ]
    where
      at_t : QueueSound (taken w j t now kept) t
      at_t =
          record {
            count = rw (taken_queue_list w j t now kept shaped sound fits) (once_few (taken_queue_once w j t now kept shaped sound fits));
            once =
                rw (taken_queue w j t now kept shaped sound fits)
                (once_of (is_job_on (taken w j t now kept) t) max_jobs (queue_of w t ++ (j ∷ [])) (taken_queue_once w j t now kept shaped sound fits));
          }

  arrivals_sound_lem : w.clock ≡ now → ArrivalsSound (taken w j t now kept)
  unfolding taken
  arrivals_sound_lem clock =
      let e = taken_arrivals w j t now kept shaped sound fits in
      let o = taken_arrivals_once w j t now kept shaped sound fits in
      record {
        count = once_few o;
        once = rw e (once_of (is_present (taken w j t now kept)) max_jobs (list_of w.arrivals ++ (j ∷ [])) o);
        rising = rw e (taken_rising w j t now kept shaped sound fits clock);
        past = λ k h. taken_past w j t now kept shaped sound fits clock k (sym (ap (holds k) e) ∙ h);
      }

  -- Destinations.

  destination_sound : (d : ℕ) → d < w.setup.destinations → DestinationSound (taken w j t now kept) d
  unfolding taken is_live
  destination_sound d l =
      record {
        live = (sound.destinations d l).live;
        dead =
            λ end e i k h q.
            taken_entry w j t now kept shaped sound fits i k
            (λ r.
            true_not_false (fits.live (place_in w i) r.place)
            (ap (λ x. is_live (health_of w x)) (sym r.destination ∙ q) ∙ ap is_live e))
            (λ r. (sound.destinations d l).dead end e i k (sym (same_waiting w (taken w j t now kept) i r) ∙ h) (sym r.destination ∙ q));
      }

  -- The whole.

  pub sound_taken : w.clock ≡ now → Sound (taken w j t now kept)
  unfolding taken
  sound_taken clock =
      record {
        setup = sound.setup;
        entries = entries_sound;
        busy_transport =
            λ u l.
            sound.busy_transport u l
            ∙ sym (count_same (busy_on (taken w j t now kept) u) (busy_on w u) max_entries (taken_busy_on w j t now kept shaped sound fits u));
        busy_destination =
            λ d l.
            sound.busy_destination d l
            ∙ sym (count_same (busy_to (taken w j t now kept) d) (busy_to w d) max_entries (taken_busy_to w j t now kept shaped sound fits d));
        queues = queue_sound_lem;
        arrivals = arrivals_sound_lem clock;
        jobs = jobs_taken w j t now kept shaped sound fits;
        used = used_taken w j t now kept shaped sound fits;
        destinations = destination_sound;
        turn = sound.turn;
      }

-- a job that passed the tests
pub kept_taken : (w : State) (t now : ℕ) (dests : List ℕ) → Shaped w → Sound w → w.clock ≡ now → Passed w t dests
    → Shaped (taken w (new_number w) t now (kept_of w dests)) × Sound (taken w (new_number w) t now (kept_of w dests))
kept_taken w t now dests shaped sound clock h =
    let f = fits_of w t dests h in
    (shaped_taken w (new_number w) t now (kept_of w dests) shaped sound f, sound_taken w (new_number w) t now (kept_of w dests) shaped sound f clock)
