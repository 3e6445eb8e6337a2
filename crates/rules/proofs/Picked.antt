-- What a pick finds: a transport, its current job, and of a job its next entry.
use Prim.Native.Nat.{ℕ, ◌<◌}
use mathlib.Core.Bool.{Bool, true, false, not}
use mathlib.Core.Path.{◌≡◌, refl, sym, ◌∙◌, ap}
use lib.Dec.{eqb}
use borrow.Author.Tests.{eqb-true, eq-eqb, ltb-true, not-true}
use Rattle.laws.specs.Range.{any_to, first_to, table_to}
use Rattle.laws.specs.Sequence.{holds, first_of, up_to}
use Rattle.laws.proofs.Bools.{bool_same, and_both, and_left, and_right}
use Rattle.laws.proofs.All.{any_of, any_witness}
use Rattle.laws.proofs.First.{first_any, first_holds}
use Rattle.laws.proofs.Table.{length_table, get_or_table}
use Rattle.laws.proofs.Sequence.{holds_place, every_at}
use Rattle.laws.proofs.FirstOf.{first_of_in, first_of_passes, up_to_first}
use Rattle.rules.specs.declared.State.{State}
use Rattle.rules.specs.Sizes.{max_jobs, max_entries}
use Rattle.rules.specs.State.{at, transport_of, queue_of, is_waiting, job_of, destination_of, is_present, order_at}
use Rattle.rules.specs.Sound.{order_of}
use Rattle.rules.specs.SoundFacts.{JobSound, Sound}
use Rattle.rules.specs.Picking.{eligible, eligible_on, eligible_of, eligible_to, has_eligible, steps_to, transport_steps, finds, next_transport}
use Rattle.rules.specs.Picking.{current_job, next_place, next_entry}
use Rattle.rules.proofs.Shape.{Shaped, present_below}
use Rattle.rules.proofs.Turns.{steps_found, steps_holds, steps_below, steps_any}
use Rattle.rules.proofs.EntryFacts.{eligible_has, eligible_waits, eligible_of_eligible, eligible_of_job, eligible_of_waits, waits_of_used}
use Rattle.rules.proofs.EntryFacts.{eligible_sound}
use Rattle.rules.proofs.ListFacts.{queue_holds, queue_job}

-- The transport.

pub record TransportFound (w : State) (t : ℕ) : Type 0 where
  pub below : t < w.setup.transports
  pub eligible : any_to (eligible_on w t) max_entries ≡ true

pub transport_found : (w : State) → finds w ≡ true → TransportFound w (next_transport w)
unfolding finds transport_steps next_transport
transport_found w f =
    let p : ℕ → Bool = λ t. any_to (eligible_on w t) max_entries in
    let l = ltb-true (steps_to p w.setup.transports w.turn) w.setup.transports f in
    record { below = steps_below p w.setup.transports w.turn l; eligible = steps_holds p w.setup.transports w.turn l }

-- something is found just where some entry is eligible
pub finds_some : (w : State) → Sound w → finds w ≡ any_to (eligible w) max_entries
unfolding finds transport_steps eligible_on
finds_some w h =
    steps_any p w.setup.transports w.turn h.turn
    ∙ bool_same
    (λ a.
    let x = any_witness p w.setup.transports a in
    let y = any_witness (eligible_on w x.0) max_entries x.2 in
    any_of (eligible w) max_entries y.0 y.1 (and_left (eligible w y.0) (eqb (transport_of w (destination_of w y.0)) x.0) y.2))
    (λ a.
    let x = any_witness (eligible w) max_entries a in
    let t = transport_of w (destination_of w x.0) in
    any_of p w.setup.transports t (h.setup.home (destination_of w x.0) (eligible_sound w h x.0 x.1 x.2).destination)
    (any_of (eligible_on w t) max_entries x.0 x.1 (and_both x.2 (eq-eqb t t refl))))
  where
    p : ℕ → Bool
    p t = any_to (eligible_on w t) max_entries

-- The current job.

pub record Current (w : State) (t y : ℕ) : Type 0 where
  pub inside : holds y (queue_of w t) ≡ true
  pub below : y < max_jobs
  pub present : is_present w y ≡ true
  pub transport : at w.jobs.transport y ≡ t
  pub eligible : has_eligible w y ≡ true
  pub first : (j : ℕ) → holds j (up_to y (queue_of w t)) ≡ true → has_eligible w j ≡ false

pub current_found : (w : State) (t : ℕ) → Shaped w → Sound w → TransportFound w t → Current w t (current_job w t)
unfolding current_job eligible_on
current_found w t shape h f =
    let x = any_witness (eligible_on w t) max_entries f.eligible in
    let ok = and_left (eligible w x.0) (eqb (transport_of w (destination_of w x.0)) t) x.2 in
    let e = eligible_sound w h x.0 x.1 ok in
    let on = eqb-true (transport_of w (destination_of w x.0)) t (and_right (eligible w x.0) (eqb (transport_of w (destination_of w x.0)) t) x.2) in
    let in_queue = queue_holds w t (job_of w x.0) shape h f.below e.present (e.transport ∙ on) in
    let passes = eligible_has w x.0 x.1 ok in
    let here = first_of_in (has_eligible w) (queue_of w t) max_jobs (job_of w x.0) in_queue passes in
    let job = queue_job w t (first_of (has_eligible w) (queue_of w t) max_jobs) h f.below here in
    record {
      inside = here;
      below = job.0;
      present = job.1;
      transport = job.2;
      eligible = first_of_passes (has_eligible w) (queue_of w t) max_jobs (job_of w x.0) in_queue passes;
      first =
          λ j k.
          not-true (has_eligible w j)
          (every_at (λ z. not (has_eligible w z)) (up_to (first_of (has_eligible w) (queue_of w t) max_jobs) (queue_of w t))
          (up_to_first (has_eligible w) (queue_of w t) max_jobs) j k);
    }

-- A job's next entry.

pub record NextFound (w : State) (j : ℕ) : Type 0 where
  pub place : next_place w j < at w.jobs.places j
  pub below : next_entry w j < max_entries
  pub eligible : eligible w (next_entry w j) ≡ true
  pub waits : is_waiting w (next_entry w j) ≡ true
  pub job : job_of w (next_entry w j) ≡ j
  pub destination : destination_of w (next_entry w j) ≡ order_at w j (next_place w j)
  pub inside : destination_of w (next_entry w j) < w.setup.destinations
  pub transport : transport_of w (destination_of w (next_entry w j)) ≡ at w.jobs.transport j

-- where a destination stands in a job's order
pub order_place : (w : State) (j d : ℕ) → holds d (order_of w j) ≡ true → (k : ℕ) × (k < at w.jobs.places j) × (order_at w j k ≡ d)
unfolding order_of
order_place w j d h =
    let x = holds_place d (table_to (order_at w j) (at w.jobs.places j)) 0 h in
    let l = rw length_table at x.1 in
    (x.0, l, sym (get_or_table (order_at w j) (at w.jobs.places j) x.0 0 l) ∙ x.2)

-- some place of the order has something eligible
some_place : (w : State) (j : ℕ) → JobSound w j → has_eligible w j ≡ true → (k : ℕ) × (k < at w.jobs.places j) × (any_to (eligible_to w j (order_at w j k)) max_entries ≡ true)
unfolding has_eligible eligible_to
some_place w j h e =
    let x = any_witness (eligible_of w j) max_entries e in
    let p = order_place w j (destination_of w x.0) (h.complete x.0 x.1 (waits_of_used w j x.0 (eligible_of_waits w j x.0 x.2))) in
    (p.0, p.1, any_of (eligible_to w j (order_at w j p.0)) max_entries x.0 x.1 (and_both x.2 (eq-eqb (destination_of w x.0) (order_at w j p.0) (sym p.2))))

-- the place that has its turn is such a place
next_place_lem : (w : State) (j : ℕ) → JobSound w j → has_eligible w j ≡ true
    → (next_place w j < at w.jobs.places j) × (any_to (eligible_to w j (order_at w j (next_place w j))) max_entries ≡ true)
unfolding next_place
next_place_lem w j h e =
    let x = some_place w j h e in
    let l = steps_found at_place places turn h.turn x.0 x.1 x.2 in
    (steps_below at_place places turn l, steps_holds at_place places turn l)
  where
    places : ℕ
    places = at w.jobs.places j

    turn : ℕ
    turn = at w.jobs.turn j

    at_place : ℕ → Bool
    at_place k = any_to (eligible_to w j (order_at w j k)) max_entries

next_entry_lem : (w : State) (j : ℕ) → any_to (eligible_to w j (order_at w j (next_place w j))) max_entries ≡ true
    → (next_entry w j < max_entries) × (eligible_to w j (order_at w j (next_place w j)) (next_entry w j) ≡ true)
unfolding next_entry
next_entry_lem w j a =
    let p = eligible_to w j (order_at w j (next_place w j)) in
    let l = ltb-true (first_to p max_entries) max_entries (first_any p max_entries ∙ a) in
    (l, first_holds p max_entries l)

pub next_found : (w : State) (j : ℕ) → Shaped w → Sound w → is_present w j ≡ true → has_eligible w j ≡ true → NextFound w j
unfolding eligible_to
next_found w j shape h p e =
    let r = next_place_lem w j (h.jobs j (present_below w shape j p) p) e in
    let d = order_at w j (next_place w j) in
    let x = next_entry_lem w j r.1 in
    let of = and_left (eligible_of w j (next_entry w j)) (eqb (destination_of w (next_entry w j)) d) x.1 in
    let ok = eligible_of_eligible w j (next_entry w j) of in
    let on = eligible_of_job w j (next_entry w j) of in
    let s = eligible_sound w h (next_entry w j) x.0 ok in
    record {
      place = r.0;
      below = x.0;
      eligible = ok;
      waits = eligible_waits w (next_entry w j) ok;
      job = on;
      destination = eqb-true (destination_of w (next_entry w j)) d (and_right (eligible_of w j (next_entry w j)) (eqb (destination_of w (next_entry w j)) d) x.1);
      inside = s.destination;
      transport = sym s.transport ∙ ap (at w.jobs.transport) on;
    }
