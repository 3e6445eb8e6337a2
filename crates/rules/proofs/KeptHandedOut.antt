-- Handing out an entry keeps shape and soundness.
use Prim.Native.Nat.{ℕ, ◌+◌, ◌≤◌, ◌<◌}
use mathlib.Core.Bool.{true, false}
use mathlib.Core.Path.{◌≡◌, refl, sym, ◌∙◌, subst}
use mathlib.Core.Logic.{◌⊎◌, inl, inr, ⊎_elim}
use native.Mathlib.Decide.{ℕ_discrete}
use native.Mathlib.Omega.{arith}
use lib.ListN.{length-set}
use borrow.Author.Tests.{eq-eqb, ne_eqb}
use Rattle.laws.specs.Range.{any_to, count_to}
use Rattle.laws.proofs.Bools.{true_not_false, one_true, one_false}
use Rattle.laws.proofs.All.{any_same}
use Rattle.laws.proofs.Places.{set_all}
use Rattle.rules.specs.declared.State.{State}
use Rattle.rules.specs.Sizes.{max_jobs, max_entries}
use Rattle.rules.specs.State.{at, transport_of, is_free, is_waiting, is_busy, destination_of, is_present, busy_of, used_of, waiting_of}
use Rattle.rules.specs.Sound.{busy_on, busy_to, is_job_on, order_of}
use Rattle.rules.specs.SoundFacts.{EntrySound, JobSound, DestinationSound, Sound}
use Rattle.rules.specs.Pick.{handed_out}
use Rattle.rules.proofs.Shape.{Shaped, picked_length, turn_length, present_below}
use Rattle.rules.proofs.HandedOut.{CanHandOut, handed_free, handed_waiting_here, handed_waiting_other, handed_busy_here, handed_busy_other, handed_used}
use Rattle.rules.proofs.HandedOut.{handed_waits_own, handed_waits_other, handed_busy_own, handed_busy_of_other, handed_busy_on, handed_busy_to}
use Rattle.rules.proofs.EntryTests.{waiting_used}

module _ (w : State) (t j place e : ℕ) (shape : Shaped w) (h : Sound w) (can : CanHandOut w t j place e) where
  used_entry : EntrySound w e
  used_entry = h.entries e can.below (waiting_used w e can.waits)

  present : is_present w j ≡ true
  present = subst (λ z. is_present w z ≡ true) can.job used_entry.present

  below : j < max_jobs
  below = present_below w shape j present

  on_transport_lem : t < w.setup.transports
  on_transport_lem = subst (λ u. u < w.setup.transports) can.transport (h.setup.home (destination_of w e) used_entry.destination)

  pub shaped_handed_out : Shaped (handed_out w t j place e)
  unfolding handed_out
  shaped_handed_out =
      record {
        destinations = shape.destinations;
        busy =
            record {
              transport = length-set w.busy.transport t (at w.busy.transport t + 1) ∙ shape.busy.transport;
              destination = length-set w.busy.destination (destination_of w e) (at w.busy.destination (destination_of w e) + 1) ∙ shape.busy.destination;
            };
        queues = shape.queues;
        queue = shape.queue;
        arrivals = shape.arrivals;
        jobs =
            record {
              lengths =
                  rw (length-set w.jobs.picked j (at w.jobs.picked j + 1), length-set w.jobs.turn j (place + 1)) shape.jobs.lengths;
            };
        entries =
            record {
              kind = length-set w.entries.kind e 2 ∙ shape.entries.kind;
              job = shape.entries.job;
              destination = shape.entries.destination;
              ticket = length-set w.entries.ticket e w.ticket ∙ shape.entries.ticket;
            };
      }

  -- Entries and busy counts.

  kept_entry : (i : ℕ) → i < max_entries → is_free (handed_out w t j place e) i ≡ false → EntrySound (handed_out w t j place e) i
  unfolding handed_out
  kept_entry i l f =
      let k = h.entries i l (sym (handed_free w t j place e shape can i) ∙ f) in
      record { kind = kind k; present = k.present; destination = k.destination; transport = k.transport }
    where
      kind : EntrySound w i → (is_waiting (handed_out w t j place e) i ≡ true) ⊎ (is_busy (handed_out w t j place e) i ≡ true)
      kind k = elim (ℕ_discrete i e) [
        | yes q ↦ inr (subst (λ z. is_busy (handed_out w t j place e) z ≡ true) (sym q) (handed_busy_here w t j place e shape can))
        | no ne ↦
            ⊎_elim
            (λ a. inl (handed_waiting_other w t j place e shape can i ne ∙ a))
            (λ a. inr (handed_busy_other w t j place e shape can i ne ∙ a))
            k.kind
      ]

  kept_busy_transport : (u : ℕ) → u < w.setup.transports → at (handed_out w t j place e).busy.transport u ≡ count_to (busy_on (handed_out w t j place e) u) max_entries
  unfolding handed_out
  kept_busy_transport =
      set_all (λ u v. u < w.setup.transports → v ≡ count_to (busy_on (handed_out w t j place e) u) max_entries) w.busy.transport t (at w.busy.transport t + 1) 0
      (omega (arith, shape.busy.transport, h.setup.transports.1, on_transport_lem))
      (λ l. omega (arith, h.busy_transport t l, handed_busy_on w t j place e shape can t, one_true (eq-eqb (transport_of w (destination_of w e)) t can.transport)))
      (λ u ne l. omega (arith, h.busy_transport u l, handed_busy_on w t j place e shape can u, one_false (ne_eqb (transport_of w (destination_of w e)) u (λ q. ne (sym q ∙ can.transport)))))

  kept_busy_destination : (d : ℕ) → d < w.setup.destinations → at (handed_out w t j place e).busy.destination d ≡ count_to (busy_to (handed_out w t j place e) d) max_entries
  unfolding handed_out
  kept_busy_destination =
      set_all (λ d v. d < w.setup.destinations → v ≡ count_to (busy_to (handed_out w t j place e) d) max_entries) w.busy.destination (destination_of w e)
      (at w.busy.destination (destination_of w e) + 1) 0
      (omega (arith, shape.busy.destination, h.setup.destinations.1, used_entry.destination))
      (λ l. omega (arith, h.busy_destination (destination_of w e) l, handed_busy_to w t j place e shape can (destination_of w e), one_true (eq-eqb (destination_of w e) (destination_of w e) refl)))
      (λ d ne l. omega (arith, h.busy_destination d l, handed_busy_to w t j place e shape can d, one_false (ne_eqb (destination_of w e) d (λ q. ne (sym q)))))

  kept_destination : (d : ℕ) → d < w.setup.destinations → DestinationSound (handed_out w t j place e) d
  unfolding handed_out
  kept_destination d l =
      let k = h.destinations d l in
      record {
        live = k.live;
        dead =
            λ end q i m a.
            k.dead end q i m
            (sym (handed_waiting_other w t j place e shape can i
            (λ z. true_not_false (subst (λ z. is_waiting (handed_out w t j place e) z ≡ true) z a) (handed_waiting_here w t j place e shape can))) ∙ a);
      }

  -- Jobs.

  more_picked : (p : ℕ) → 1 ≤ at w.jobs.picked p → 1 ≤ at (handed_out w t j place e).jobs.picked p
  unfolding handed_out
  more_picked =
      set_all (λ p v. 1 ≤ at w.jobs.picked p → 1 ≤ v) w.jobs.picked j (at w.jobs.picked j + 1) 0 (omega (arith, picked_length shape.jobs, below))
      (λ l. omega arith) (λ p ne l. l)

  kept_adds : (i : ℕ) → is_present w i ≡ true → waiting_of (handed_out w t j place e) i + at (handed_out w t j place e).jobs.picked i + at w.jobs.dropped i ≡ at w.jobs.n i
  unfolding handed_out
  kept_adds =
      set_all (λ i v. is_present w i ≡ true → waiting_of (handed_out w t j place e) i + v + at w.jobs.dropped i ≡ at w.jobs.n i) w.jobs.picked j (at w.jobs.picked j + 1) 0
      (omega (arith, picked_length shape.jobs, below))
      (λ p. omega (arith, (h.jobs j below p).adds, handed_waits_own w t j place e shape can))
      (λ i ne p. omega (arith, (h.jobs i (present_below w shape i p) p).adds, handed_waits_other w t j place e shape can i ne))

  kept_busy : (i : ℕ) → is_present w i ≡ true → count_to (busy_of (handed_out w t j place e) i) max_entries ≤ at (handed_out w t j place e).jobs.picked i
  unfolding handed_out
  kept_busy =
      set_all (λ i v. is_present w i ≡ true → count_to (busy_of (handed_out w t j place e) i) max_entries ≤ v) w.jobs.picked j (at w.jobs.picked j + 1) 0
      (omega (arith, picked_length shape.jobs, below))
      (λ p. omega (arith, (h.jobs j below p).busy, handed_busy_own w t j place e shape can))
      (λ i ne p. omega (arith, (h.jobs i (present_below w shape i p) p).busy, handed_busy_of_other w t j place e shape can i ne))

  kept_turn : (i : ℕ) → is_present w i ≡ true → at (handed_out w t j place e).jobs.turn i ≤ at w.jobs.places i
  unfolding handed_out
  kept_turn =
      set_all (λ i v. is_present w i ≡ true → v ≤ at w.jobs.places i) w.jobs.turn j (place + 1) 0 (omega (arith, turn_length shape.jobs, below))
      (λ p. omega (arith, can.ordered))
      (λ i ne p. (h.jobs i (present_below w shape i p) p).turn)

  kept_job : (i : ℕ) → i < max_jobs → is_present w i ≡ true → JobSound (handed_out w t j place e) i
  unfolding handed_out order_of
  kept_job i l p =
      let k = h.jobs i l p in
      record {
        adds = kept_adds i p;
        n = k.n;
        busy = kept_busy i p;
        places = k.places;
        distinct = k.distinct;
        complete = λ x m u. k.complete x m (sym (handed_used w t j place e shape can i x) ∙ u);
        sold = k.sold;
        unsold = k.unsold;
        parent = λ q z. let c = k.parent q z in record { present = c.present; transport = c.transport; picked = more_picked q c.picked; marked = c.marked };
        ends = k.ends;
        overtakers = k.overtakers;
        turn = kept_turn i p;
      }

  kept_used : (i : ℕ) → i < max_jobs → is_present w i ≡ true → any_to (used_of (handed_out w t j place e) i) max_entries ≡ true
  kept_used i l p = any_same (used_of (handed_out w t j place e) i) (used_of w i) max_entries (λ x m. handed_used w t j place e shape can i x) ∙ h.used i l p

  pub sound_handed_out : Sound (handed_out w t j place e)
  unfolding handed_out is_job_on
  sound_handed_out =
      record {
        setup = h.setup;
        entries = kept_entry;
        busy_transport = kept_busy_transport;
        busy_destination = kept_busy_destination;
        queues = λ u l. let k = h.queues u l in record { count = k.count; once = k.once };
        arrivals = (let k = h.arrivals in record { count = k.count; once = k.once; rising = k.rising; past = k.past });
        jobs = kept_job;
        used = kept_used;
        destinations = kept_destination;
        turn = omega (arith, on_transport_lem);
      }

  pub kept_handed_out : Shaped (handed_out w t j place e) × Sound (handed_out w t j place e)
  kept_handed_out = (shaped_handed_out, sound_handed_out)
