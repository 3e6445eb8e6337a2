-- The state of an accepted set-up has its shape and is sound.
use Prim.Native.Nat.{ℕ, ◌<◌}
use mathlib.Core.Path.{◌≡◌, refl, sym, ◌∙◌, ap, subst}
use mathlib.Core.Bool.{true, false}
use mathlib.Core.List.{[]}
use native.Mathlib.Omega.{arith}
use lib.ListN.{length, get_or, length-replicate, get_or-replicate}
use lib.Dec.{eqb}
use borrow.Author.Tests.{lt-ltb}
use Rattle.laws.specs.Range.{count_to}
use Rattle.laws.specs.Sequence.{holds, never_falling, padded}
use Rattle.laws.proofs.Bools.{true_not_false, if_true, and_left_false}
use Rattle.laws.proofs.Count.{count_none}
use Rattle.laws.proofs.Once.{once_none, once_of}
use Rattle.laws.proofs.Table.{get_or_table, length_table}
use Rattle.rules.specs.declared.Health.TheVariants.{Live}
use Rattle.rules.specs.declared.Setup.{Setup}
use Rattle.rules.specs.Sizes.{max_transports, max_destinations, max_jobs, max_entries}
use Rattle.rules.specs.State.{at, zero_list, zero_destination, settings_for, health_of, is_free, is_busy, is_present, destination_of, settings_in}
use Rattle.rules.specs.Setup.{first_state, empty_state, first_destination, fresh_state}
use Rattle.rules.specs.Sound.{busy_on, busy_to, is_job_on}
use Rattle.rules.specs.SoundFacts.{InRange, QueueSound, ArrivalsSound, LiveSound, DestinationSound, Sound}
use Rattle.rules.proofs.Shape.{Shaped}
use Rattle.rules.proofs.WindowLaws.{live_first}

module _ (u : Setup) where
  pub shaped_fresh : Shaped (fresh_state u)
  unfolding fresh_state empty_state padded
  shaped_fresh =
      record {
        destinations = length_table (first_destination u) max_destinations;
        busy = record { transport = refl; destination = refl };
        queues = refl;
        queue = λ t l. ap (λ q. length q.jobs) (get_or-replicate max_transports t zero_list zero_list l);
        arrivals = refl;
        jobs = record { lengths = refl };
        entries = record { kind = length-replicate {A = ℕ} 512 0; job = length-replicate {A = ℕ} 512 0; destination = length-replicate {A = ℕ} 512 0; ticket = length-replicate {A = ℕ} 512 0 };
      }

  fresh_kind : (e : ℕ) → e < max_entries → at (fresh_state u).entries.kind e ≡ 0
  unfolding fresh_state empty_state
  fresh_kind e l = get_or-replicate max_entries e 0 0 l

  pub fresh_free : (e : ℕ) → e < max_entries → is_free (fresh_state u) e ≡ true
  fresh_free e l = ap (λ k. eqb k 0) (fresh_kind e l)

  fresh_not_busy : (e : ℕ) → e < max_entries → is_busy (fresh_state u) e ≡ false
  fresh_not_busy e l = ap (λ k. eqb k 2) (fresh_kind e l)

  pub fresh_absent : (j : ℕ) → j < max_jobs → is_present (fresh_state u) j ≡ false
  unfolding fresh_state empty_state
  fresh_absent j l = get_or-replicate max_jobs j false false l

  pub fresh_queue : (t : ℕ) → t < max_transports → get_or (fresh_state u).queues t zero_list ≡ zero_list
  unfolding fresh_state empty_state
  fresh_queue t l = get_or-replicate max_transports t zero_list zero_list l

  pub fresh_health : (d : ℕ) → d < u.destinations → d < max_destinations
      → health_of (fresh_state u) d ≡ Live (first_state (settings_in u d))
  unfolding fresh_state empty_state first_destination
  fresh_health d l m =
      ap (λ x. x.health) (get_or_table (first_destination u) max_destinations d zero_destination m)
      ∙ ap (λ x. x.health) (if_true (record { health = Live (first_state (settings_in u d)) }) zero_destination (lt-ltb d u.destinations l))

  -- nobody is there

  fresh_on : (t j : ℕ) → j < max_jobs → is_job_on (fresh_state u) t j ≡ false
  unfolding is_job_on
  fresh_on t j l = and_left_false (eqb (at (fresh_state u).jobs.transport j) t) (fresh_absent j l)

  fresh_busy_on : (t : ℕ) → count_to (busy_on (fresh_state u) t) max_entries ≡ 0
  unfolding busy_on
  fresh_busy_on t =
      count_none (busy_on (fresh_state u) t) max_entries λ e l.
      and_left_false (eqb (at (fresh_state u).setup.home (destination_of (fresh_state u) e)) t) (fresh_not_busy e l)

  fresh_busy_to : (d : ℕ) → count_to (busy_to (fresh_state u) d) max_entries ≡ 0
  unfolding busy_to
  fresh_busy_to d =
      count_none (busy_to (fresh_state u) d) max_entries λ e l. and_left_false (eqb (destination_of (fresh_state u) e) d) (fresh_not_busy e l)

  fresh_transport : (t : ℕ) → t < max_transports → at (fresh_state u).busy.transport t ≡ 0
  unfolding fresh_state empty_state
  fresh_transport t l = get_or-replicate max_transports t 0 0 l

  fresh_destination : (d : ℕ) → d < max_destinations → at (fresh_state u).busy.destination d ≡ 0
  unfolding fresh_state empty_state
  fresh_destination d l = get_or-replicate max_destinations d 0 0 l

  fresh_queue_sound : (t : ℕ) → t < max_transports → QueueSound (fresh_state u) t
  fresh_queue_sound t l =
      record {
        count = rw (fresh_queue t l) (omega arith);
        once = rw (fresh_queue t l) (once_of (is_job_on (fresh_state u) t) max_jobs [] (once_none (is_job_on (fresh_state u) t) max_jobs (fresh_on t)));
      }

  fresh_arrivals : ArrivalsSound (fresh_state u)
  unfolding fresh_state empty_state never_falling holds
  fresh_arrivals =
      record {
        count = omega arith;
        once = once_of (is_present (fresh_state u)) max_jobs [] (once_none (is_present (fresh_state u)) max_jobs fresh_absent);
        rising = refl;
        past = λ j h. true_not_false h refl;
      }

  module _ (range : InRange u) where
    in_four : (t : ℕ) → t < u.transports → t < max_transports
    in_four t l = let b = range.transports.1 in omega arith

    in_32 : (d : ℕ) → d < u.destinations → d < max_destinations
    in_32 d l = let b = range.destinations.1 in omega arith

    fresh_destination_sound : (d : ℕ) → d < u.destinations → DestinationSound (fresh_state u) d
    unfolding fresh_state empty_state
    fresh_destination_sound d l =
        let first = first_state (settings_in u d) in
        let h = fresh_health d l (in_32 d l) in
        record {
          live =
              λ v e.
              let q : first ≡ v = cc in
              subst (LiveSound (settings_for (fresh_state u) d)) q
              (live_first (settings_in u d) (range.settings (at u.home d) (range.home d l)));
          dead = λ end e. let z : ◌≡◌ {A = ℕ} 0 1 = cc in absurd (omega arith);
        }

    pub sound_fresh : Sound (fresh_state u)
    unfolding fresh_state empty_state
    sound_fresh =
        record {
          setup = range;
          entries = λ e l f. true_not_false (fresh_free e l) f;
          busy_transport = λ t l. fresh_transport t (in_four t l) ∙ sym (fresh_busy_on t);
          busy_destination = λ d l. fresh_destination d (in_32 d l) ∙ sym (fresh_busy_to d);
          queues = λ t l. fresh_queue_sound t (in_four t l);
          arrivals = fresh_arrivals;
          jobs = λ j l h. true_not_false h (fresh_absent j l);
          used = λ j l h. true_not_false h (fresh_absent j l);
          destinations = fresh_destination_sound;
          turn = omega arith;
        }

pub kept_fresh : (u : Setup) → InRange u → Shaped (fresh_state u) × Sound (fresh_state u)
kept_fresh u range = (shaped_fresh u, sound_fresh u range)
