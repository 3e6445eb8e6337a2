-- What the tests of a job that is taken give, and how the columns read after it.
use Prim.Native.Nat.{ℕ, ◌≤◌, ◌<◌}
use mathlib.Core.Path.{◌≡◌, refl, sym, ◌∙◌, ap}
use mathlib.Core.Logic.{◌≢◌, ⊎_elim}
use mathlib.Core.Bool.{Bool, true, false, not}
use mathlib.Core.List.{List}
use native.Mathlib.Omega.{arith}
use lib.ListN.{length}
use lib.Seq.{get_or-set_same, get_or-set_other}
use lib.Dec.{eqb, ltb}
use borrow.Author.Tests.{ltb-true, ltb-false, eqb-true, not-true, not-false}
use Rattle.laws.specs.Bools.{when◌then◌else◌}
use Rattle.laws.specs.Range.{all_to, count_to}
use Rattle.laws.specs.Sequence.{every_in}
use Rattle.laws.proofs.Bools.{true_not_false, and_left, and_right, and_false_cases, not_is_true}
use Rattle.laws.proofs.All.{all_false_witness}
use Rattle.laws.proofs.First.{first_holds, first_found, chosen_below}
use Rattle.laws.proofs.Firsts.{firsts_length}
use Rattle.laws.proofs.Keep.{length_keep_le, every_kept, every_keep}
use Rattle.laws.proofs.Sequence.{every_get_or}
use Rattle.laws.proofs.Table.{table_is, table_same}
use Rattle.rules.specs.declared.State.{State}
use Rattle.rules.specs.Sizes.{max_destinations, max_jobs, max_entries, max_length}
use Rattle.rules.specs.State.{at, health_of, is_live, transport_of, is_free, is_present, has_preempted, job_of, destination_of, order_at, parent_of}
use Rattle.rules.specs.Sound.{order_of}
use Rattle.rules.specs.SoundFacts.{Sound}
use Rattle.rules.specs.Taking.{is_dead, kept_of, n_of, new_number, free_places, new_order, taken}
use Rattle.rules.specs.Refusals.{is_destination_on, lacks_number, lacks_places}
use Rattle.rules.proofs.Shape.{Shaped, present_length, transport_length, n_length, picked_length, dropped_length, sold_length, parent_length}
use Rattle.rules.proofs.Shape.{preempted_length, arrival_length, overtakers_length, turn_length, places_length, order_length}
use Rattle.rules.proofs.Filled.{among_first, filled_chosen, with_order_at, with_order_other}

-- a job j with these destinations fits into w, on transport t
pub record Fits (w : State) (j t : ℕ) (kept : List ℕ) : Type 0 where
  pub transport : t < w.setup.transports
  pub number : j < max_jobs
  pub absent : is_present w j ≡ false
  pub some : 1 ≤ length kept
  pub few : length kept ≤ max_length
  pub room : length kept ≤ count_to (is_free w) max_entries
  pub destination : (i : ℕ) → i < length kept → at kept i < w.setup.destinations
  pub home : (i : ℕ) → i < length kept → transport_of w (at kept i) ≡ t
  pub live : (i : ℕ) → i < length kept → is_live (health_of w (at kept i)) ≡ true

-- a present job is another one
pub present_other : (w : State) (j t : ℕ) (kept : List ℕ) → Fits w j t kept → (k : ℕ) → is_present w k ≡ true → k ≢ j
present_other w j t kept fits k h e = true_not_false h (ap (is_present w) e ∙ fits.absent)

-- what the tests of a job leave, once passed
pub record Passed (w : State) (t : ℕ) (dests : List ℕ) : Type 0 where
  pub transport : t < w.setup.transports
  pub few : length dests ≤ max_length
  pub theirs : every_in (is_destination_on w t) dests ≡ true
  pub some : 1 ≤ n_of w dests
  pub number : lacks_number w dests ≡ false
  pub places : lacks_places w dests ≡ false

module _ (w : State) (t : ℕ) (dests : List ℕ) (h : Passed w t dests) where
  not_all_present : all_to (is_present w) max_jobs ≡ false
  unfolding lacks_number
  not_all_present =
      ⊎_elim (λ f. absurd (let l = ltb-false 0 (n_of w dests) f in let m = h.some in omega arith)) (λ f. f)
      (and_false_cases (ltb 0 (n_of w dests)) (all_to (is_present w) max_jobs) h.number)

  pub new_below : new_number w < max_jobs
  unfolding new_number
  new_below =
      let v = all_false_witness (is_present w) max_jobs not_all_present in
      first_found (λ j. not (is_present w j)) max_jobs v.0 v.1 (not_is_true v.2)

  pub new_absent : is_present w (new_number w) ≡ false
  unfolding new_number
  new_absent = not-true (is_present w (new_number w)) (first_holds (λ j. not (is_present w j)) max_jobs new_below)

  pub new_room : n_of w dests ≤ count_to (is_free w) max_entries
  unfolding lacks_places
  new_room = ltb-false (count_to (is_free w) max_entries) (n_of w dests) h.places

  kept_on : (i : ℕ) → i < length (kept_of w dests) → is_destination_on w t (at (kept_of w dests) i) ≡ true
  unfolding kept_of
  kept_on i l =
      every_get_or (is_destination_on w t) (kept_of w dests) (every_keep (λ d. not (is_dead w d)) (is_destination_on w t) dests h.theirs) i 0 l

  kept_live : (i : ℕ) → i < length (kept_of w dests) → is_live (health_of w (at (kept_of w dests) i)) ≡ true
  unfolding kept_of is_dead
  kept_live i l =
      not-false (is_live (health_of w (at (kept_of w dests) i)))
      (not-true (not (is_live (health_of w (at (kept_of w dests) i)))) (every_get_or (λ d. not (is_dead w d)) (kept_of w dests) (every_kept (λ d. not (is_dead w d)) dests) i 0 l))

  pub fits_of : Fits w (new_number w) t (kept_of w dests)
  unfolding is_destination_on n_of kept_of
  fits_of =
      record {
        transport = h.transport;
        number = new_below;
        absent = new_absent;
        some = h.some;
        few = let l = length_keep_le (λ d. not (is_dead w d)) dests in let m = h.few in omega arith;
        room = new_room;
        destination =
            λ i l.
            let d = at (kept_of w dests) i in
            ltb-true d w.setup.destinations (and_left (ltb d w.setup.destinations) (eqb (transport_of w d) t) (kept_on i l));
        home =
            λ i l.
            let d = at (kept_of w dests) i in
            eqb-true (transport_of w d) t (and_right (ltb d w.setup.destinations) (eqb (transport_of w d) t) (kept_on i l));
        live = kept_live;
      }

-- the new job's entries: the first free places
unfoldable pub is_new : State → List ℕ → ℕ → Bool
is_new w kept e = among_first (is_free w) (length kept) e

-- the place in the job of a new entry
unfoldable pub place_in : State → ℕ → ℕ
place_in w e = count_to (is_free w) e

-- job k's columns are the same in both states
pub record SameJob (s r : State) (k : ℕ) : Type 0 where
  pub present : is_present r k ≡ is_present s k
  pub transport : at r.jobs.transport k ≡ at s.jobs.transport k
  pub n : at r.jobs.n k ≡ at s.jobs.n k
  pub picked : at r.jobs.picked k ≡ at s.jobs.picked k
  pub dropped : at r.jobs.dropped k ≡ at s.jobs.dropped k
  pub sold : at r.jobs.sold k ≡ at s.jobs.sold k
  pub parent : parent_of r k ≡ parent_of s k
  pub preempted : has_preempted r k ≡ has_preempted s k
  pub arrival : at r.jobs.arrival k ≡ at s.jobs.arrival k
  pub overtakers : at r.jobs.overtakers k ≡ at s.jobs.overtakers k
  pub turn : at r.jobs.turn k ≡ at s.jobs.turn k
  pub places : at r.jobs.places k ≡ at s.jobs.places k

-- the columns of a job just taken
pub record NewJob (r : State) (j t now : ℕ) (kept : List ℕ) : Type 0 where
  pub present : is_present r j ≡ true
  pub transport : at r.jobs.transport j ≡ t
  pub n : at r.jobs.n j ≡ length kept
  pub picked : at r.jobs.picked j ≡ 0
  pub dropped : at r.jobs.dropped j ≡ 0
  pub sold : at r.jobs.sold j ≡ 0
  pub parent : parent_of r j ≡ 0
  pub preempted : has_preempted r j ≡ false
  pub arrival : at r.jobs.arrival j ≡ now
  pub overtakers : at r.jobs.overtakers j ≡ 0
  pub turn : at r.jobs.turn j ≡ 0
  pub places : at r.jobs.places j ≡ length (new_order kept)

module _ (w : State) (j t now : ℕ) (kept : List ℕ) (shaped : Shaped w) (sound : Sound w) (fits : Fits w j t kept) where
  -- The new entries' columns.

  pub taken_kind : (e : ℕ) → e < max_entries → at (taken w j t now kept).entries.kind e ≡ (when is_new w kept e then 1 else at w.entries.kind e)
  unfolding taken free_places is_new
  taken_kind = filled_chosen (is_free w) (length kept) max_entries (λ i. 1) w.entries.kind shaped.entries.kind fits.room

  pub taken_job : (e : ℕ) → e < max_entries → job_of (taken w j t now kept) e ≡ (when is_new w kept e then j else job_of w e)
  unfolding taken free_places is_new
  taken_job = filled_chosen (is_free w) (length kept) max_entries (λ i. j) w.entries.job shaped.entries.job fits.room

  pub taken_destination : (e : ℕ) → e < max_entries
      → destination_of (taken w j t now kept) e ≡ (when is_new w kept e then at kept (place_in w e) else destination_of w e)
  unfolding taken free_places is_new place_in
  taken_destination =
      filled_chosen (is_free w) (length kept) max_entries (at kept) w.entries.destination shaped.entries.destination fits.room

  -- The order.

  pub new_order_few : length (new_order kept) ≤ max_destinations
  unfolding new_order
  new_order_few =
      firsts_length kept (length kept) max_destinations λ i l. let m = fits.destination i l in let b = sound.setup.destinations.1 in omega arith

  -- The jobs' columns.

  pub taken_others : (k : ℕ) → k ≢ j → SameJob w (taken w j t now kept) k
  unfolding taken
  taken_others k ne =
      record {
        present = get_or-set_other w.jobs.present j k true false ne;
        transport = get_or-set_other w.jobs.transport j k t 0 ne;
        n = get_or-set_other w.jobs.n j k (length kept) 0 ne;
        picked = get_or-set_other w.jobs.picked j k 0 0 ne;
        dropped = get_or-set_other w.jobs.dropped j k 0 0 ne;
        sold = get_or-set_other w.jobs.sold j k 0 0 ne;
        parent = get_or-set_other w.jobs.parent j k 0 0 ne;
        preempted = get_or-set_other w.jobs.preempted j k false false ne;
        arrival = get_or-set_other w.jobs.arrival j k now 0 ne;
        overtakers = get_or-set_other w.jobs.overtakers j k 0 0 ne;
        turn = get_or-set_other w.jobs.turn j k 0 0 ne;
        places = get_or-set_other w.jobs.places j k (length (new_order kept)) 0 ne;
      }

  pub taken_new : NewJob (taken w j t now kept) j t now kept
  unfolding taken
  taken_new =
      let g = shaped.jobs in
      let l = fits.number in
      record {
        present = get_or-set_same w.jobs.present j true false (rw (present_length g) l);
        transport = get_or-set_same w.jobs.transport j t 0 (rw (transport_length g) l);
        n = get_or-set_same w.jobs.n j (length kept) 0 (rw (n_length g) l);
        picked = get_or-set_same w.jobs.picked j 0 0 (rw (picked_length g) l);
        dropped = get_or-set_same w.jobs.dropped j 0 0 (rw (dropped_length g) l);
        sold = get_or-set_same w.jobs.sold j 0 0 (rw (sold_length g) l);
        parent = get_or-set_same w.jobs.parent j 0 0 (rw (parent_length g) l);
        preempted = get_or-set_same w.jobs.preempted j false false (rw (preempted_length g) l);
        arrival = get_or-set_same w.jobs.arrival j now 0 (rw (arrival_length g) l);
        overtakers = get_or-set_same w.jobs.overtakers j 0 0 (rw (overtakers_length g) l);
        turn = get_or-set_same w.jobs.turn j 0 0 (rw (turn_length g) l);
        places = get_or-set_same w.jobs.places j (length (new_order kept)) 0 (rw (places_length g) l);
      }

  order_there : (i : ℕ) → i < length (new_order kept) → at (new_order kept) i ≡ order_at (taken w j t now kept) j i
  unfolding taken
  order_there i l =
      let b = new_order_few in
      sym (with_order_at w.jobs.order j (new_order kept) (order_length shaped.jobs) fits.number new_order_few i (omega arith))

  order_off : (k : ℕ) → k ≢ j → (i : ℕ) → i < max_destinations → order_at (taken w j t now kept) k i ≡ order_at w k i
  unfolding taken
  order_off k ne i l = with_order_other w.jobs.order j (new_order kept) (order_length shaped.jobs) fits.number new_order_few k i ne l

  pub taken_order_new : order_of (taken w j t now kept) j ≡ new_order kept
  unfolding order_of
  taken_order_new =
      rw taken_new.places (table_is (order_at (taken w j t now kept) j) 0 (new_order kept) (length (new_order kept)) refl order_there)

  pub taken_order_other : (k : ℕ) → k ≢ j → at w.jobs.places k ≤ max_destinations → order_of (taken w j t now kept) k ≡ order_of w k
  unfolding order_of
  taken_order_other k ne few =
      rw (taken_others k ne).places
      (table_same (order_at (taken w j t now kept) k) (order_at w k) (at w.jobs.places k) λ i l. order_off k ne i (omega arith))

-- The places that are filled: the first free ones, rising.

module _ (w : State) (j t : ℕ) (kept : List ℕ) (fits : Fits w j t kept) where
  in_room : (i : ℕ) → i < length kept → i < count_to (is_free w) max_entries
  in_room i l = let r = fits.room in omega arith

  pub place_below : (i : ℕ) → i < length kept → at (free_places w) i < max_entries
  unfolding free_places
  place_below i l = chosen_below (is_free w) 0 max_entries i (in_room i l)

-- what taking a job leaves alone
pub record TakingLeaves (w r : State) : Type 0 where
  pub setup : r.setup ≡ w.setup
  pub clock : r.clock ≡ w.clock
  pub ticket : r.ticket ≡ w.ticket
  pub turn : r.turn ≡ w.turn
  pub destinations : r.destinations ≡ w.destinations
  pub busy : r.busy ≡ w.busy
  pub entry_ticket : r.entries.ticket ≡ w.entries.ticket
