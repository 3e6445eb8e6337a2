-- Each test over columns holds of a sound state, so that the answer is no where one fails.
use Prim.Native.Nat.{ℕ, zero, suc, ◌+◌, ◌*◌, ◌≤◌, ◌<◌}
use mathlib.Core.Bool.{Bool, true, false, not, ◌&&◌}
use mathlib.Core.Path.{◌≡◌, refl, sym, ◌∙◌}
use mathlib.Core.Logic.{⊎_elim}
use mathlib.Core.List.{List}
use native.Mathlib.Omega.{arith}
use lib.Dec.{eqb, leb}
use lib.ListN.{get_or}
use borrow.Author.Tests.{eqb-true, lt-ltb, le-leb, eq-eqb, not-true}
use Rattle.laws.specs.Range.{all_to, any_to}
use Rattle.laws.specs.Sequence.{holds, times_in, every_in, holds_each_once, never_falling}
use Rattle.laws.proofs.Bools.{true_not_false, case_bool, false_of, and_both, and_left, and_right, or_left, or_right, not_is_true, eqb_self}
use Rattle.laws.proofs.All.{all_from, any_witness}
use Rattle.laws.proofs.Count.{count_pos_of, count_none}
use Rattle.laws.proofs.Sequence.{every_from}
use Rattle.rules.specs.declared.Health.{Health}
use Rattle.rules.specs.declared.Health.TheVariants.{Live, Dead}
use Rattle.rules.specs.declared.State.{State}
use Rattle.rules.specs.State.{at, settings_for, transport_of, health_of, zero_list, list_of, is_free, is_waiting, is_busy}
use Rattle.rules.specs.State.{job_of, destination_of, is_present, has_preempted, waits_of, busy_of, used_of, waiting_of, parent_of}
use Rattle.rules.specs.Setup.{setup_in_range}
use Rattle.rules.specs.Sound.{implies, is_job_on, order_of, cost_of, sound}
use Rattle.rules.specs.SoundFacts.{EntrySound, ChildOf, DestinationSound}
use Rattle.rules.proofs.Shape.{Shaped, present_below}
use Rattle.rules.proofs.RangeFacts.{within_of, implies_of, in_range_of, sums_fit_of}
use Rattle.rules.proofs.Soundness.{sound_facts}
use Rattle.counting.specs.declared.EntryCounts.{EntryCounts}
use Rattle.listing.specs.Listing.{order_list, distinct, order_test, queue_test}
use Rattle.clauses.specs.Clauses.{counts_test, sold_test, child_test, job_test, health_test, destination_test}
use Rattle.counting.specs.Counting.{belongs_at, belongs_test, entry_test, Tables, no_pairs, Pairs}
use Rattle.soundness.proofs.Counted.{columns_of, waiting_is, busy_is, held_is, to_is, on_is}

module _ (s : State) where
  pub part_range : sound s ≡ true → setup_in_range s.setup ≡ true
  part_range h = in_range_of s.setup (sound_facts s h).setup

  pub part_turn : sound s ≡ true → s.turn ≤ s.setup.transports
  part_turn h = (sound_facts s h).turn

  -- Orders.

  right_order : ℕ → Bool
  right_order j = implies (is_present s j) (order_test s.jobs.order j (at s.jobs.places j))

  pub part_orders : sound s ≡ true → all_to (λ j. implies (is_present s j) (order_test s.jobs.order j (at s.jobs.places j))) 32 ≡ true
  unfolding right_order order_test distinct order_list order_of
  part_orders h =
      all_from right_order 32 λ j l.
      implies_of (is_present s j) λ p.
      (let f = (sound_facts s h).jobs j l p in
      and_both (le-leb (at s.jobs.places j) 32 f.places)
      (every_from (λ d. eqb (times_in d (order_of s j)) 1) (order_of s j) λ d k. eq-eqb (times_in d (order_of s j)) 1 (f.distinct d k)))

  -- Lists.

  pub part_queues : sound s ≡ true → all_to (queue_test s.queues s.jobs.present s.jobs.transport) s.setup.transports ≡ true
  unfolding queue_test is_job_on
  part_queues h =
      all_from (queue_test s.queues s.jobs.present s.jobs.transport) s.setup.transports λ t l.
      (let f = (sound_facts s h).queues t l in and_both (le-leb (get_or s.queues t zero_list).count 32 f.count) f.once)

  pub part_arrivals : sound s ≡ true → leb s.arrivals.count 32 && holds_each_once (λ x. get_or s.jobs.present x false) 32 (list_of s.arrivals) ≡ true
  part_arrivals h = let f = (sound_facts s h).arrivals in and_both (le-leb s.arrivals.count 32 f.count) f.once

  pub part_rising : sound s ≡ true
      → never_falling (at s.jobs.arrival) (list_of s.arrivals) && every_in (λ j. leb (at s.jobs.arrival j) s.clock) (list_of s.arrivals) ≡ true
  part_rising h =
      let f = (sound_facts s h).arrivals in
      and_both f.rising
      (every_from (λ j. leb (at s.jobs.arrival j) s.clock) (list_of s.arrivals) λ j k. le-leb (at s.jobs.arrival j) s.clock (f.past j k))

  -- Entries.

  module _ (shape : Shaped s) (table : List Bool)
      (marks : (j : ℕ) → j < 32 → is_present s j ≡ true → (d : ℕ) → d < 256 → get_or table (256 * j + d) false ≡ holds d (order_list s.jobs.order j (at s.jobs.places j))) where
    marked : ℕ → Bool
    marked e = get_or table (256 * job_of s e + destination_of s e) false

    used_of_lem : (e : ℕ) → (is_free s e ≡ false → EntrySound s e × (marked e ≡ true)) → entry_test (columns_of s table) e ≡ true
    unfolding entry_test belongs_test belongs_at marked
    used_of_lem e h =
        case_bool (is_free s e) (or_left _) λ f.
        or_right (is_free s e)
        (and_both (⊎_elim (or_left (is_busy s e)) (or_right (is_waiting s e)) (h f).0.kind)
        (and_both
        (and_both (and_both (h f).0.present (lt-ltb (destination_of s e) s.setup.destinations (h f).0.destination))
        (eq-eqb (at s.jobs.transport (job_of s e)) (transport_of s (destination_of s e)) (h f).0.transport))
        (h f).1))

    pub part_entries : sound s ≡ true → all_to (entry_test (columns_of s table)) 512 ≡ true
    unfolding marked used_of order_of order_list
    part_entries h =
        all_from (entry_test (columns_of s table)) 512 λ e l.
        used_of_lem e λ f.
        (let r = sound_facts s h in
        let k = r.entries e l f in
        let b = present_below s shape (job_of s e) k.present in
        let d : destination_of s e < 256 = omega (arith, k.destination, r.setup.destinations.1) in (
          k,
          marks (job_of s e) b k.present (destination_of s e) d ∙ (r.jobs (job_of s e) b k.present).complete e l (and_both (not_is_true f) (eqb_self (job_of s e))),
        ))

-- The tests that read the tables.

module _ (s : State) (table : List Bool) (r : EntryCounts) (tables : Tables (columns_of s table) 512 r.waiting r.busy r.held r.to r.on) where
  -- Counts.

  same_on : ℕ → Bool
  same_on t = eqb (at s.busy.transport t) (at r.on t)

  same_to : ℕ → Bool
  same_to d = eqb (at s.busy.destination d) (at r.to d)

  pub part_on : sound s ≡ true → all_to (λ t. eqb (at s.busy.transport t) (at r.on t)) s.setup.transports ≡ true
  unfolding same_on
  part_on h =
      let f = sound_facts s h in
      all_from same_on s.setup.transports λ t l.
      eq-eqb (at s.busy.transport t) (at r.on t) (f.busy_transport t l ∙ sym (on_is s table r tables t (omega (arith, f.setup.transports.1))))

  pub part_to : sound s ≡ true → all_to (λ d. eqb (at s.busy.destination d) (at r.to d)) s.setup.destinations ≡ true
  unfolding same_to
  part_to h =
      let f = sound_facts s h in
      all_from same_to s.setup.destinations λ d l.
      eq-eqb (at s.busy.destination d) (at r.to d) (f.busy_destination d l ∙ sym (to_is s table r tables d (omega (arith, f.setup.destinations.1))))

  -- Jobs.

  right_job : ℕ → Bool
  right_job j = implies (is_present s j) (job_test s.jobs s.setup.settings r.waiting r.busy j)

  -- a job that has an entry is counted
  used_counted : sound s ≡ true → (j : ℕ) → j < 32 → any_to (used_of s j) 512 ≡ true → 1 ≤ at r.waiting j + at r.busy j
  unfolding used_of waiting_of waits_of busy_of
  used_counted h j l u =
      let w = any_witness (used_of s j) 512 u in
      let f = not-true (is_free s w.0) (and_left (not (is_free s w.0)) (eqb (job_of s w.0) j) w.2) in
      let q = and_right (not (is_free s w.0)) (eqb (job_of s w.0) j) w.2 in
      let k = (sound_facts s h).entries w.0 w.1 f in
      ⊎_elim (λ t. omega (arith, waiting_is s table r tables j l, count_pos_of (waits_of s j) 512 w.0 w.1 (and_both t q)))
      (λ t. omega (arith, busy_is s table r tables j l, count_pos_of (busy_of s j) 512 w.0 w.1 (and_both t q)))
      k.kind

  child_of_lem : (j link : ℕ) → ((p : ℕ) → link ≡ suc p → ChildOf s j p)
      → child_test s.jobs.present s.jobs.transport s.jobs.picked (at s.jobs.transport j) (has_preempted s j) link ≡ true
  unfolding child_test
  child_of_lem j zero h = refl
  child_of_lem j (suc q) h =
      let f = h q refl in
      and_both
      (and_both (and_both f.present (eq-eqb (at s.jobs.transport q) (at s.jobs.transport j) f.transport)) (le-leb 1 (at s.jobs.picked q) f.picked))
      f.marked

  pub part_jobs : sound s ≡ true → all_to (λ j. implies (is_present s j) (job_test s.jobs s.setup.settings r.waiting r.busy j)) 32 ≡ true
  unfolding right_job job_test counts_test sold_test
  part_jobs h =
      all_from right_job 32 λ j l.
      implies_of (is_present s j) λ p.
      (let f = (sound_facts s h).jobs j l p in
      let w = at r.waiting j in
      let b = at r.busy j in
      let n = at s.jobs.n j in
      let picked = at s.jobs.picked j in
      let dropped = at s.jobs.dropped j in
      let sold = at s.jobs.sold j in
      and_both
      (and_both
      (and_both
      (and_both
      (and_both
      (and_both
      (and_both (and_both (eq-eqb (w + picked + dropped) n (omega (arith, f.adds, waiting_is s table r tables j l))) (within_of f.n))
      (le-leb b picked (omega (arith, f.busy, busy_is s table r tables j l))))
      (and_both (le-leb (cost_of s j * sold) n f.sold) (implies_of (eqb (cost_of s j) 0) λ z. eq-eqb sold 0 (f.unsold (eqb-true (cost_of s j) 0 z)))))
      (le-leb 1 (w + b) (used_counted h j l ((sound_facts s h).used j l p))))
      (child_of_lem j (parent_of s j) f.parent))
      f.ends)
      (le-leb (at s.jobs.overtakers j) 65_535 f.overtakers))
      (le-leb (at s.jobs.turn j) (at s.jobs.places j) f.turn))

  -- Destinations.

  health_of_lem : (d : ℕ) → d < 32 → (h : Health) → health_of s d ≡ h → DestinationSound s d → health_test (settings_for s d) (at r.held d) h ≡ true
  unfolding health_test
  health_of_lem d l (Live u) e f = sums_fit_of (settings_for s d) u (f.live u e)
  health_of_lem d l (Dead end) e f =
      eq-eqb (at r.held d) 0
      (held_is s table r tables d l
      ∙ count_none (λ e. is_waiting s e && eqb (destination_of s e) d) 512 λ x b.
      false_of λ t.
      f.dead end e x b (and_left (is_waiting s x) (eqb (destination_of s x) d) t)
      (eqb-true (destination_of s x) d (and_right (is_waiting s x) (eqb (destination_of s x) d) t)))

  pub part_destinations : sound s ≡ true → all_to (destination_test s.setup s.destinations r.held) s.setup.destinations ≡ true
  unfolding destination_test
  part_destinations h =
      let f = sound_facts s h in
      all_from (destination_test s.setup s.destinations r.held) s.setup.destinations λ d l.
      health_of_lem d (omega (arith, f.setup.destinations.1)) (health_of s d) refl (f.destinations d l)

-- Where a test fails that a sound state passes, the answer is no, and the table of what waits is as it came.

pub empty : {r : Bool} {kind job destination table : List ℕ} → r ≡ false → table ≡ no_pairs → Pairs r kind job destination table
empty f e = record { counted = λ t. true_not_false t f; none = λ _. e }

pub answers_no : (s : State) {test passed r : Bool} {kind job destination table : List ℕ} → (sound s ≡ true → passed ≡ true) → test ≡ passed → test ≡ false
    → (r ≡ false) × (table ≡ no_pairs) → (r ≡ sound s) × Pairs r kind job destination table
answers_no s part e f n = (n.0 ∙ sym (false_of λ h. true_not_false (part h) (sym e ∙ f)), empty n.0 n.1)
