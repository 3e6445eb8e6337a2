-- The destination's step of a report keeps the shape, and soundness but that the jobs of its transport have an entry each.
use Prim.Native.Nat.{ℕ, ◌+◌, ◌-◌, ◌≤◌, ◌<◌}
use mathlib.Core.Path.{◌≡◌, sym, ◌∙◌, ap, subst}
use mathlib.Core.Logic.{◌≢◌, ◌⊎◌, inl, inr, ⊎_elim}
use mathlib.Core.Bool.{Bool, true, false}
use native.Mathlib.Omega.{arith}
use native.Mathlib.Nat.{le_trans}
use native.Mathlib.Decide.{ℕ_discrete}
use lib.ListN.{length, length-set}
use lib.Seq.{get_or-set_same, get_or-set_other}
use Rattle.laws.specs.Range.{any_to, count_to}
use Rattle.laws.specs.Sequence.{holds}
use Rattle.laws.proofs.Bools.{true_not_false}
use Rattle.laws.proofs.All.{any_imp}
use Rattle.laws.proofs.Count.{count_le}
use Rattle.laws.proofs.Table.{get_or_table, length_table}
use Rattle.rules.specs.declared.Health.{Health}
use Rattle.rules.specs.declared.Health.TheVariants.{Live, Dead}
use Rattle.rules.specs.declared.Sums.{Sums}
use Rattle.rules.specs.declared.State.{State}
use Rattle.rules.specs.Sizes.{max_jobs, max_entries}
use Rattle.rules.specs.State.{at, zero_destination, health_of, settings_for, transport_of, is_free, is_waiting, is_busy, is_present, destination_of}
use Rattle.rules.specs.State.{busy_of, used_of, waiting_of}
use Rattle.rules.specs.Sound.{is_job_on, order_of}
use Rattle.rules.specs.SoundFacts.{EntrySound, QueueSound, ArrivalsSound, JobSound, LiveSound, DestinationSound, Sound, SoundBesides}
use Rattle.rules.specs.Reporting.{is_put_off, put_off_of, kind_after, settled}
use Rattle.rules.proofs.Shape.{Shaped, dropped_length}
use Rattle.rules.proofs.EntryTests.{waiting_used, used_job, used_not_free, same_free, same_waiting, same_busy, same_used}
use Rattle.rules.proofs.Settled.{freed, put_off_of_lem, put_off_destination, settled_entry, settled_used_same, settled_used, settled_waiting}
use Rattle.rules.proofs.SettledCounts.{reported_entry, settled_busy_of, settled_busy_destination, settled_busy_transport}

-- what a destination's step has to give
pub record Stepped (w : State) (d : ℕ) (health : Health) (died : Bool) : Type 0 where
  pub live : (u : Sums) → health ≡ Live u → LiveSound (settings_for w d) u
  pub dead : (end : ℕ) → health ≡ Dead end → (died ≡ true) ⊎ ((i : ℕ) → i < max_entries → is_waiting w i ≡ true → destination_of w i ≡ d → ⊥)

-- Destinations, in any state whatever.

module _ (w : State) (e : ℕ) (health : Health) (died : Bool) where
  pub settled_health : destination_of w e < length w.destinations → health_of (freed w e health died) (destination_of w e) ≡ health
  unfolding settled
  settled_health l = ap (λ d. d.health) (get_or-set_same w.destinations (destination_of w e) (record { health = health }) zero_destination l)

  pub settled_health_other : (d : ℕ) → d ≢ destination_of w e → health_of (freed w e health died) d ≡ health_of w d
  unfolding settled
  settled_health_other d ne = ap (λ d. d.health) (get_or-set_other w.destinations (destination_of w e) d (record { health = health }) zero_destination ne)

module _ (w : State) (e : ℕ) (health : Health) (died : Bool) (shaped : Shaped w) (sound : Sound w) (inside : e < max_entries) (busy : is_busy w e ≡ true) where
  -- Shape.

  pub shaped_settled : Shaped (freed w e health died)
  unfolding settled
  shaped_settled =
      record {
        destinations = length-set w.destinations (destination_of w e) (record { health = health }) ∙ shaped.destinations;
        busy =
            record {
              transport = length-set w.busy.transport (transport_of w (destination_of w e)) (at w.busy.transport (transport_of w (destination_of w e)) - 1) ∙ shaped.busy.transport;
              destination = length-set w.busy.destination (destination_of w e) (at w.busy.destination (destination_of w e) - 1) ∙ shaped.busy.destination;
            };
        queues = shaped.queues;
        queue = shaped.queue;
        arrivals = shaped.arrivals;
        jobs =
            record {
              lengths =
                  rw (length_table (λ j. at w.jobs.dropped j + put_off_of w died (destination_of w e) j) max_jobs ∙ sym (dropped_length shaped.jobs))
                  shaped.jobs.lengths;
            };
        entries =
            record {
              kind = length_table (kind_after w died (destination_of w e) e) max_entries;
              job = shaped.entries.job;
              destination = shaped.entries.destination;
              ticket = shaped.entries.ticket;
            };
      }

  -- Entries.

  pub settled_entries : (i : ℕ) → i < max_entries → is_free (freed w e health died) i ≡ false → EntrySound (freed w e health died) i
  unfolding settled
  settled_entries i l f =
      let r = (settled_used_same w e health died shaped sound inside busy i l f).2 in
      let h = sound.entries i l (sym (same_free w (freed w e health died) i r) ∙ f) in
      record {
        kind = ⊎_elim (λ k. inl (same_waiting w (freed w e health died) i r ∙ k)) (λ k. inr (same_busy w (freed w e health died) i r ∙ k)) h.kind;
        present = h.present;
        destination = h.destination;
        transport = h.transport;
      }

  -- Lists.

  queue_settled : (t : ℕ) → QueueSound w t → QueueSound (freed w e health died) t
  unfolding settled is_job_on
  queue_settled t q = record { count = q.count; once = q.once }

  arrivals_settled : ArrivalsSound (freed w e health died)
  unfolding settled
  arrivals_settled = let a = sound.arrivals in record { count = a.count; once = a.once; rising = a.rising; past = a.past }

  -- Jobs.

  pub settled_dropped : (j : ℕ) → j < max_jobs → at (freed w e health died).jobs.dropped j ≡ at w.jobs.dropped j + put_off_of w died (destination_of w e) j
  unfolding settled
  settled_dropped j l = get_or_table (λ j. at w.jobs.dropped j + put_off_of w died (destination_of w e) j) max_jobs j 0 l

  settled_adds : (j : ℕ) → j < max_jobs → JobSound w j → waiting_of (freed w e health died) j + at w.jobs.picked j + at (freed w e health died).jobs.dropped j ≡ at w.jobs.n j
  settled_adds j l h =
      let a = settled_dropped j l in
      let b = settled_waiting w e health died shaped sound inside busy j in
      let c = h.adds in
      omega arith

  settled_busy_le : (j : ℕ) → JobSound w j → count_to (busy_of (freed w e health died) j) max_entries ≤ at w.jobs.picked j
  settled_busy_le j h =
      le_trans (count_le (busy_of (freed w e health died) j) (busy_of w j) max_entries (settled_busy_of w e health died shaped sound inside busy j)) h.busy

  settled_complete : (j : ℕ) → JobSound w j → (i : ℕ) → i < max_entries → used_of (freed w e health died) j i ≡ true → holds (destination_of w i) (order_of w j) ≡ true
  settled_complete j h i l u = h.complete i l (settled_used w e health died shaped sound inside busy j i l u)

  job_settled : (j : ℕ) → j < max_jobs → JobSound w j → JobSound (freed w e health died) j
  unfolding settled order_of
  job_settled j l h =
      record {
        adds = settled_adds j l h;
        n = h.n;
        busy = settled_busy_le j h;
        places = h.places;
        distinct = h.distinct;
        complete = settled_complete j h;
        sold = h.sold;
        unsold = h.unsold;
        parent =
            λ p e.
            let c = h.parent p e in
            record { present = c.present; transport = c.transport; picked = c.picked; marked = c.marked };
        ends = h.ends;
        overtakers = h.overtakers;
        turn = h.turn;
      }

  -- jobs of other transports keep their entries
  settled_others : (j : ℕ) → j < max_jobs → is_present w j ≡ true → at w.jobs.transport j ≢ transport_of w (destination_of w e) → any_to (used_of (freed w e health died) j) max_entries ≡ true
  settled_others j l h ne = any_imp (used_of w j) (used_of (freed w e health died) j) max_entries still (sound.used j l h)
    where
      elsewhere : (i : ℕ) → i < max_entries → used_of w j i ≡ true → destination_of w i ≡ (destination_of w e) → ⊥
      elsewhere i k u q =
          ne
          (sym (ap (at w.jobs.transport) (used_job w j i u)) ∙ (sound.entries i k (used_not_free w j i u)).transport
          ∙ ap (transport_of w) q)

      still : (i : ℕ) → i < max_entries → used_of w j i ≡ true → used_of (freed w e health died) j i ≡ true
      still i k u =
          settled_entry w e health died shaped sound inside busy i k (λ q r. absurd (elsewhere i k u (ap (destination_of w) q)))
          (λ n t r. absurd (elsewhere i k u (put_off_destination w died (destination_of w e) i t)))
          (λ n t r. same_used w (freed w e health died) i r j ∙ u)

  -- Destinations.

  health_self : health_of (freed w e health died) (destination_of w e) ≡ health
  health_self =
      let l = (reported_entry w e health died shaped sound inside busy).destination in
      let b = sound.setup.destinations.1 in
      settled_health w e health died (rw shaped.destinations (omega arith))

  -- what waits afterwards waited, and was not put off
  still_waits : (i : ℕ) → i < max_entries → is_waiting (freed w e health died) i ≡ true → (is_waiting w i ≡ true) × (is_put_off w died (destination_of w e) i ≡ false)
  still_waits i l h =
      let r = settled_used_same w e health died shaped sound inside busy i l (waiting_used (freed w e health died) i h) in
      (sym (same_waiting w (freed w e health died) i r.2) ∙ h, r.1)

  destination_self : Stepped w (destination_of w e) health died → DestinationSound (freed w e health died) (destination_of w e)
  unfolding settled
  destination_self step =
      record {
        live = λ u q. step.live u (sym health_self ∙ q);
        dead =
            λ end q i l h z.
            let r = still_waits i l h in
            ⊎_elim (λ k. true_not_false (put_off_of_lem w died (destination_of w e) i k r.0 z) r.1) (λ k. k i l r.0 z) (step.dead end (sym health_self ∙ q));
      }

  destination_other : (d : ℕ) → d ≢ (destination_of w e) → DestinationSound w d → DestinationSound (freed w e health died) d
  unfolding settled
  destination_other d ne h =
      record {
        live = λ u q. h.live u (sym (settled_health_other w e health died d ne) ∙ q);
        dead = λ end q i l k z. h.dead end (sym (settled_health_other w e health died d ne) ∙ q) i l (still_waits i l k).0 z;
      }

  destinations_settled : Stepped w (destination_of w e) health died → (d : ℕ) → d < w.setup.destinations → DestinationSound (freed w e health died) d
  destinations_settled step d l = elim (ℕ_discrete d (destination_of w e)) [
    | yes q ↦ subst (DestinationSound (freed w e health died)) (sym q) (destination_self step)
    | no ne ↦ destination_other d ne (sound.destinations d l)
  ]

  pub sound_settled : Stepped w (destination_of w e) health died → SoundBesides (transport_of w (destination_of w e)) (freed w e health died)
  unfolding settled
  sound_settled step =
      record {
        setup = sound.setup;
        entries = settled_entries;
        busy_transport = settled_busy_transport w e health died shaped sound inside busy;
        busy_destination = settled_busy_destination w e health died shaped sound inside busy;
        queues = λ t l. queue_settled t (sound.queues t l);
        arrivals = arrivals_settled;
        jobs = λ j l h. job_settled j l (sound.jobs j l h);
        used = settled_others;
        destinations = destinations_settled step;
        turn = sound.turn;
      }
