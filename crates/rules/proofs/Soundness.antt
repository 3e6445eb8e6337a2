-- The test `sound` and the facts `Sound` say the same.
use Prim.Native.Nat.{ℕ, ◌≤◌, ◌<◌}
use mathlib.Core.Path.{◌≡◌, refl, sym, ◌∙◌, ap}
use mathlib.Core.Logic.{⊎_elim}
use mathlib.Core.Bool.{Bool, true, false, ◌&&◌, ◌||◌}
use lib.ListN.{get_or}
use lib.Dec.{eqb, ltb, leb}
use borrow.Author.Tests.{ltb-true, leb-true, eqb-true, lt-ltb, le-leb, eq-eqb, not-true}
use Rattle.laws.specs.Range.{all_to, any_to, count_to}
use Rattle.laws.specs.Sequence.{every_in, holds_each_once, never_falling}
use Rattle.laws.proofs.Bools.{true_not_false, case_bool, false_of, and_both, and_left, and_right, or_left, or_right, or_cases, not_is_true}
use Rattle.laws.proofs.Joined.{and_3, and_4, and_8}
use Rattle.laws.proofs.All.{all_at, all_from, any_none, any_false_at}
use Rattle.laws.proofs.Sequence.{every_at, every_from}
use Rattle.rules.specs.declared.Sums.{Sums}
use Rattle.rules.specs.declared.Health.{Health}
use Rattle.rules.specs.declared.Health.TheVariants.{Live, Dead}
use Rattle.rules.specs.declared.State.{State}
use Rattle.rules.specs.Sizes.{max_destinations, max_jobs, max_entries}
use Rattle.rules.specs.State.{at, settings_for, transport_of, health_of, zero_list, list_of, queue_of, is_free, is_waiting, is_busy, job_of, destination_of, is_present}
use Rattle.rules.specs.Setup.{setup_in_range}
use Rattle.rules.specs.Sound.{implies, belongs, entry_sound, busy_on, busy_to, busy_sound, is_job_on, queue_sound, arrivals_sound, job_sound, health_sound, sound}
use Rattle.rules.specs.SoundFacts.{EntrySound, QueueSound, ArrivalsSound, LiveSound, DestinationSound, Sound}
use Rattle.rules.proofs.JobFacts.{job_facts, job_used, job_of_lem}
use Rattle.rules.proofs.RangeFacts.{implies_at, implies_of, in_range_facts, in_range_of, sums_fit_facts, sums_fit_of}

module _ (s : State) where
  -- Entries.

  used_facts : (e : ℕ) → is_waiting s e || is_busy s e ≡ true → belongs s e ≡ true → EntrySound s e
  unfolding belongs
  used_facts e k h =
      let f =
      and_3 (is_present s (job_of s e)) (ltb (destination_of s e) s.setup.destinations)
      (eqb (at s.jobs.transport (job_of s e)) (transport_of s (destination_of s e))) h in
      record {
        kind = or_cases (is_waiting s e) (is_busy s e) k;
        present = f.0;
        destination = ltb-true (destination_of s e) s.setup.destinations f.1;
        transport = eqb-true (at s.jobs.transport (job_of s e)) (transport_of s (destination_of s e)) f.2;
      }

  entry_facts : (e : ℕ) → entry_sound s e ≡ true → is_free s e ≡ false → EntrySound s e
  unfolding entry_sound
  entry_facts e h f =
      ⊎_elim (λ t. true_not_false t f)
      (λ k. used_facts e (and_left (is_waiting s e || is_busy s e) (belongs s e) k) (and_right (is_waiting s e || is_busy s e) (belongs s e) k))
      (or_cases (is_free s e) ((is_waiting s e || is_busy s e) && belongs s e) h)

  used_of_lem : (e : ℕ) → EntrySound s e → (is_waiting s e || is_busy s e) && belongs s e ≡ true
  unfolding belongs
  used_of_lem e r =
      and_both (⊎_elim (or_left (is_busy s e)) (or_right (is_waiting s e)) r.kind)
      (and_both (and_both r.present (lt-ltb (destination_of s e) s.setup.destinations r.destination))
      (eq-eqb (at s.jobs.transport (job_of s e)) (transport_of s (destination_of s e)) r.transport))

  entry_of : (e : ℕ) → (is_free s e ≡ false → EntrySound s e) → entry_sound s e ≡ true
  unfolding entry_sound
  entry_of e h =
      case_bool (is_free s e) (or_left ((is_waiting s e || is_busy s e) && belongs s e)) λ f. or_right (is_free s e) (used_of_lem e (h f))

  -- Lists.

  queue_facts : (t : ℕ) → queue_sound s t ≡ true → QueueSound s t
  unfolding queue_sound
  queue_facts t h =
      record {
        count =
            leb-true (get_or s.queues t zero_list).count max_jobs
            (and_left (leb (get_or s.queues t zero_list).count max_jobs) (holds_each_once (is_job_on s t) max_jobs (queue_of s t)) h);
        once = and_right (leb (get_or s.queues t zero_list).count max_jobs) (holds_each_once (is_job_on s t) max_jobs (queue_of s t)) h;
      }

  queue_of_lem : (t : ℕ) → QueueSound s t → queue_sound s t ≡ true
  unfolding queue_sound
  queue_of_lem t r = and_both (le-leb (get_or s.queues t zero_list).count max_jobs r.count) r.once

  came_by : ℕ → Bool
  came_by j = leb (at s.jobs.arrival j) s.clock

  arrivals_facts : arrivals_sound s ≡ true → ArrivalsSound s
  unfolding arrivals_sound came_by
  arrivals_facts h =
      let f =
      and_4 (leb s.arrivals.count max_jobs) (holds_each_once (is_present s) max_jobs (list_of s.arrivals))
      (never_falling (at s.jobs.arrival) (list_of s.arrivals)) (every_in came_by (list_of s.arrivals)) h in
      record {
        count = leb-true s.arrivals.count max_jobs f.0;
        once = f.1;
        rising = f.2;
        past = λ j k. leb-true (at s.jobs.arrival j) s.clock (every_at came_by (list_of s.arrivals) f.3 j k);
      }

  arrivals_of : ArrivalsSound s → arrivals_sound s ≡ true
  unfolding arrivals_sound came_by
  arrivals_of r =
      and_both (and_both (and_both (le-leb s.arrivals.count max_jobs r.count) r.once) r.rising)
      (every_from came_by (list_of s.arrivals) λ j k. le-leb (at s.jobs.arrival j) s.clock (r.past j k))

  -- Destinations.

  waits_to : ℕ → ℕ → Bool
  waits_to d e = is_waiting s e && eqb (destination_of s e) d

  live_facts : (d : ℕ) (u : Sums) → health_sound s d (Live u) ≡ true → LiveSound (settings_for s d) u
  unfolding health_sound
  live_facts d u h = sums_fit_facts (settings_for s d) u h

  live_of : (d : ℕ) (u : Sums) → LiveSound (settings_for s d) u → health_sound s d (Live u) ≡ true
  unfolding health_sound
  live_of d u r = sums_fit_of (settings_for s d) u r

  dead_facts : (d end : ℕ) → health_sound s d (Dead end) ≡ true → (e : ℕ) → e < max_entries → is_waiting s e ≡ true → destination_of s e ≡ d → ⊥
  unfolding health_sound waits_to
  dead_facts d end h e l k q =
      true_not_false (and_both k (eq-eqb (destination_of s e) d q))
      (any_false_at (waits_to d) max_entries (not-true (any_to (waits_to d) max_entries) h) e l)

  dead_of : (d end : ℕ) → ((e : ℕ) → e < max_entries → is_waiting s e ≡ true → destination_of s e ≡ d → ⊥) → health_sound s d (Dead end) ≡ true
  unfolding health_sound waits_to
  dead_of d end h =
      not_is_true
      (any_none (waits_to d) max_entries λ e l.
      false_of λ k.
      h e l (and_left (is_waiting s e) (eqb (destination_of s e) d) k)
      (eqb-true (destination_of s e) d (and_right (is_waiting s e) (eqb (destination_of s e) d) k)))

  destination_facts : (d : ℕ) → health_sound s d (health_of s d) ≡ true → DestinationSound s d
  destination_facts d h =
      record {
        live = λ u e. live_facts d u (ap (health_sound s d) (sym e) ∙ h);
        dead = λ end e. dead_facts d end (ap (health_sound s d) (sym e) ∙ h);
      }

  destination_of_lem : (d : ℕ) (h : Health) → health_of s d ≡ h → DestinationSound s d → health_sound s d h ≡ true
  destination_of_lem d (Live u) e r = live_of d u (r.live u e)
  destination_of_lem d (Dead end) e r = dead_of d end (r.dead end e)

  -- The whole.

  right_transport : ℕ → Bool
  right_transport t = eqb (at s.busy.transport t) (count_to (busy_on s t) max_entries)

  right_destination : ℕ → Bool
  right_destination d = eqb (at s.busy.destination d) (count_to (busy_to s d) max_entries)

  right_job : ℕ → Bool
  right_job j = implies (is_present s j) (job_sound s j)

  right_health : ℕ → Bool
  right_health d = health_sound s d (health_of s d)

  pub sound_facts : sound s ≡ true → Sound s
  unfolding sound busy_sound right_transport right_destination right_job right_health
  sound_facts h =
      let f =
      and_8 (setup_in_range s.setup) (all_to (entry_sound s) max_entries) (busy_sound s) (all_to (queue_sound s) s.setup.transports)
      (arrivals_sound s) (all_to right_job max_jobs) (all_to right_health s.setup.destinations) (leb s.turn s.setup.transports) h in
      let b1 = and_left (all_to right_transport s.setup.transports) (all_to right_destination s.setup.destinations) f.2 in
      let b2 = and_right (all_to right_transport s.setup.transports) (all_to right_destination s.setup.destinations) f.2 in
      record {
        setup = in_range_facts s.setup f.0;
        entries = λ e l. entry_facts e (all_at (entry_sound s) max_entries f.1 e l);
        busy_transport =
            λ t l. eqb-true (at s.busy.transport t) (count_to (busy_on s t) max_entries) (all_at right_transport s.setup.transports b1 t l);
        busy_destination =
            λ d l. eqb-true (at s.busy.destination d) (count_to (busy_to s d) max_entries) (all_at right_destination s.setup.destinations b2 d l);
        queues = λ t l. queue_facts t (all_at (queue_sound s) s.setup.transports f.3 t l);
        arrivals = arrivals_facts f.4;
        jobs = λ j l k. job_facts s j (implies_at (all_at right_job max_jobs f.5 j l) k);
        used = λ j l k. job_used s j (implies_at (all_at right_job max_jobs f.5 j l) k);
        destinations = λ d l. destination_facts d (all_at right_health s.setup.destinations f.6 d l);
        turn = leb-true s.turn s.setup.transports f.7;
      }

  busy_of_lem : Sound s → busy_sound s ≡ true
  unfolding busy_sound right_transport right_destination
  busy_of_lem r =
      and_both
      (all_from right_transport s.setup.transports λ t l.
      eq-eqb (at s.busy.transport t) (count_to (busy_on s t) max_entries) (r.busy_transport t l))
      (all_from right_destination s.setup.destinations λ d l.
      eq-eqb (at s.busy.destination d) (count_to (busy_to s d) max_entries) (r.busy_destination d l))

  pub sound_of : Sound s → sound s ≡ true
  unfolding sound right_job right_health
  sound_of r =
      and_both
      (and_both
      (and_both
      (and_both
      (and_both
      (and_both (and_both (in_range_of s.setup r.setup) (all_from (entry_sound s) max_entries λ e l. entry_of e (r.entries e l))) (busy_of_lem r))
      (all_from (queue_sound s) s.setup.transports λ t l. queue_of_lem t (r.queues t l)))
      (arrivals_of r.arrivals))
      (all_from right_job max_jobs λ j l. implies_of (is_present s j) λ k. job_of_lem s j (r.jobs j l k) (r.used j l k)))
      (all_from right_health s.setup.destinations λ d l. destination_of_lem d (health_of s d) refl (r.destinations d l)))
      (le-leb s.turn s.setup.transports r.turn)

-- a sound state's destinations are few
pub few_destinations : (s : State) → sound s ≡ true → s.setup.destinations ≤ max_destinations
few_destinations s h = (sound_facts s h).setup.destinations.1
