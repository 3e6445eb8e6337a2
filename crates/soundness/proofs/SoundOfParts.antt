-- All tests over columns together make a state sound, so the last of them decides where the others hold.
use Prim.Native.Nat.{ℕ, suc, ◌+◌, ◌*◌, ◌≤◌, ◌<◌}
use mathlib.Core.Bool.{Bool, true, false, not, ◌&&◌, ◌||◌}
use mathlib.Core.Path.{◌≡◌, sym, ◌∙◌, ap}
use mathlib.Core.Logic.{⊎_elim}
use mathlib.Core.List.{List}
use native.Mathlib.Decide.{dec_lt}
use native.Mathlib.Omega.{arith}
use lib.Dec.{eqb, ltb, leb}
use lib.ListN.{get_or}
use borrow.Author.Tests.{ltb-true, leb-true, eqb-true, eq-eqb, ne_eqb, not-true}
use Rattle.laws.specs.Range.{all_to, any_to}
use Rattle.laws.specs.Chain.{ends_in}
use Rattle.laws.specs.Sequence.{holds, times_in, every_in, holds_each_once, never_falling}
use Rattle.laws.proofs.Bools.{true_not_false, bool_same, and_both, and_left, and_right, or_cases, not_is_true}
use Rattle.laws.proofs.Joined.{and_3, and_4}
use Rattle.laws.proofs.All.{all_at, any_of}
use Rattle.laws.proofs.Count.{count_zero_at, count_witness}
use Rattle.laws.proofs.Sequence.{every_at}
use Rattle.rules.specs.declared.State.{State}
use Rattle.rules.specs.State.{at, settings_for, transport_of, health_of, zero_list, list_of, queue_of, is_free, is_waiting, is_busy}
use Rattle.rules.specs.State.{job_of, destination_of, is_present, has_preempted, waits_of, busy_of, used_of, waiting_of, parent_of}
use Rattle.rules.specs.Setup.{within, setup_in_range}
use Rattle.rules.specs.Sound.{implies, is_job_on, order_of, cost_of, sound}
use Rattle.rules.specs.SoundFacts.{InRange, EntrySound, QueueSound, ArrivalsSound, ChildOf, JobSound, DestinationSound}
use Rattle.rules.proofs.RangeFacts.{within_facts, implies_at, in_range_facts, sums_fit_facts}
use Rattle.rules.proofs.Soundness.{sound_of}
use Rattle.counting.specs.declared.EntryCounts.{EntryCounts}
use Rattle.listing.specs.Listing.{order_list, distinct, order_test, queue_test}
use Rattle.clauses.specs.Clauses.{counts_test, sold_test, child_test, job_test, health_test, destination_test}
use Rattle.counting.specs.Counting.{belongs_at, belongs_test, entry_test, Tables}
use Rattle.clauses.proofs.JobLaws.{child_near}
use Rattle.soundness.proofs.Counted.{columns_of, waiting_is, busy_is, held_is, to_is, on_is}
use Rattle.soundness.proofs.PartsOfSound.{part_destinations}

module _ (s : State) where
  -- Orders.

  order_facts : all_to (λ j. implies (is_present s j) (order_test s.jobs.order j (at s.jobs.places j))) 32 ≡ true → (j : ℕ) → j < 32 → is_present s j ≡ true
      → (at s.jobs.places j ≤ 32) × ((d : ℕ) → holds d (order_of s j) ≡ true → times_in d (order_of s j) ≡ 1)
  unfolding order_test distinct order_list order_of
  order_facts h j l p =
      let t = implies_at (all_at _ 32 h j l) p in (
        leb-true (at s.jobs.places j) 32 (and_left (leb (at s.jobs.places j) 32) (distinct (order_list s.jobs.order j (at s.jobs.places j))) t),
        λ d k.
            eqb-true (times_in d (order_of s j)) 1
            (every_at (λ d. eqb (times_in d (order_of s j)) 1) (order_of s j)
            (and_right (leb (at s.jobs.places j) 32) (distinct (order_list s.jobs.order j (at s.jobs.places j))) t)
            d k),
      )

  -- Lists.

  queue_facts : all_to (queue_test s.queues s.jobs.present s.jobs.transport) s.setup.transports ≡ true → (t : ℕ) → t < s.setup.transports → QueueSound s t
  unfolding queue_test is_job_on
  queue_facts h t l =
      let k = all_at (queue_test s.queues s.jobs.present s.jobs.transport) s.setup.transports h t l in
      let a = leb (get_or s.queues t zero_list).count 32 in
      let b = holds_each_once (is_job_on s t) 32 (queue_of s t) in
      record { count = leb-true (get_or s.queues t zero_list).count 32 (and_left a b k); once = and_right a b k }

  arrivals_facts : leb s.arrivals.count 32 && holds_each_once (λ x. get_or s.jobs.present x false) 32 (list_of s.arrivals) ≡ true
      → never_falling (at s.jobs.arrival) (list_of s.arrivals) && every_in (λ j. leb (at s.jobs.arrival j) s.clock) (list_of s.arrivals) ≡ true
      → ArrivalsSound s
  arrivals_facts h k =
      let a = leb s.arrivals.count 32 in
      let b = holds_each_once (λ x. get_or s.jobs.present x false) 32 (list_of s.arrivals) in
      let c = never_falling (at s.jobs.arrival) (list_of s.arrivals) in
      let d = every_in (λ j. leb (at s.jobs.arrival j) s.clock) (list_of s.arrivals) in
      record {
        count = leb-true s.arrivals.count 32 (and_left a b h);
        once = and_right a b h;
        rising = and_left c d k;
        past = λ j m.
            leb-true (at s.jobs.arrival j) s.clock
            (every_at (λ j. leb (at s.jobs.arrival j) s.clock) (list_of s.arrivals) (and_right c d k) j m);
      }

  -- Entries.

  module _ (table : List Bool)
      (marks : (j : ℕ) → j < 32 → is_present s j ≡ true → (d : ℕ) → d < 256 → get_or table (256 * j + d) false ≡ holds d (order_list s.jobs.order j (at s.jobs.places j))) where
    -- of a used entry
    used_facts : (e : ℕ) → entry_test (columns_of s table) e ≡ true → is_free s e ≡ false → EntrySound s e × (get_or table (256 * job_of s e + destination_of s e) false ≡ true)
    unfolding entry_test belongs_test belongs_at
    used_facts e h f =
        let there = is_present s (job_of s e) in
        let inside = ltb (destination_of s e) s.setup.destinations in
        let same = eqb (at s.jobs.transport (job_of s e)) (transport_of s (destination_of s e)) in
        let marked = get_or table (256 * job_of s e + destination_of s e) false in
        let kind = is_waiting s e || is_busy s e in
        let rest = there && inside && same && marked in
        let k : kind && rest ≡ true = ⊎_elim (λ t. true_not_false t f) (λ t. t) (or_cases (is_free s e) (kind && rest) h) in
        let b = and_4 there inside same marked (and_right kind rest k) in (
          record {
            kind = or_cases (is_waiting s e) (is_busy s e) (and_left kind rest k);
            present = b.0;
            destination = ltb-true (destination_of s e) s.setup.destinations b.1;
            transport = eqb-true (at s.jobs.transport (job_of s e)) (transport_of s (destination_of s e)) b.2;
          },
          b.3,
        )

    -- the order of a present job has the destinations of its entries
    complete : all_to (entry_test (columns_of s table)) 512 ≡ true → s.setup.destinations ≤ 32 → (j : ℕ) → j < 32 → is_present s j ≡ true
        → (e : ℕ) → e < 512 → used_of s j e ≡ true → holds (destination_of s e) (order_of s j) ≡ true
    unfolding used_of order_of order_list
    complete h few j b p e l u =
        let f = not-true (is_free s e) (and_left (not (is_free s e)) (eqb (job_of s e) j) u) in
        let q = eqb-true (job_of s e) j (and_right (not (is_free s e)) (eqb (job_of s e) j) u) in
        let k = used_facts e (all_at (entry_test (columns_of s table)) 512 h e l) f in
        let d : destination_of s e < 256 = omega (arith, k.0.destination) in
        sym (marks j b p (destination_of s e) d) ∙ ap (λ j. get_or table (256 * j + destination_of s e) false) (sym q) ∙ k.1

    module _ (r : EntryCounts) (tables : Tables (columns_of s table) 512 r.waiting r.busy r.held r.to r.on) where
      -- Jobs.

      free_not : (e v : ℕ) → eqb (at s.entries.kind e) (suc v) ≡ true → is_free s e ≡ false
      free_not e v t = ne_eqb (at s.entries.kind e) 0 (omega (arith, eqb-true (at s.entries.kind e) (suc v) t))

      counted_used : (j : ℕ) → j < 32 → 1 ≤ at r.waiting j + at r.busy j → any_to (used_of s j) 512 ≡ true
      unfolding used_of waiting_of waits_of busy_of
      counted_used j l b = elim (dec_lt 0 (at r.waiting j)) [
        | yes p ↦ (let w = count_witness (waits_of s j) 512 (omega (arith, waiting_is s table r tables j l)) in
            any_of (used_of s j) 512 w.0 w.1
            (and_both (not_is_true (free_not w.0 0 (and_left (is_waiting s w.0) (eqb (job_of s w.0) j) w.2))) (and_right (is_waiting s w.0) (eqb (job_of s w.0) j) w.2)))
        | no p ↦ (let w = count_witness (busy_of s j) 512 (omega (arith, busy_is s table r tables j l)) in
            any_of (used_of s j) 512 w.0 w.1
            (and_both (not_is_true (free_not w.0 1 (and_left (is_busy s w.0) (eqb (job_of s w.0) j) w.2))) (and_right (is_busy s w.0) (eqb (job_of s w.0) j) w.2)))
      ]

      child_facts : (j link : ℕ) → child_test s.jobs.present s.jobs.transport s.jobs.picked (at s.jobs.transport j) (has_preempted s j) link ≡ true
          → (p : ℕ) → link ≡ suc p → ChildOf s j p
      child_facts j link h p e =
          let f =
          and_4 (is_present s p) (eqb (at s.jobs.transport p) (at s.jobs.transport j)) (leb 1 (at s.jobs.picked p)) (has_preempted s j)
          (sym (child_near s.jobs.present s.jobs.transport s.jobs.picked (at s.jobs.transport j) (has_preempted s j) link p e) ∙ h) in
          record {
            present = f.0;
            transport = eqb-true (at s.jobs.transport p) (at s.jobs.transport j) f.1;
            picked = leb-true 1 (at s.jobs.picked p) f.2;
            marked = f.3;
          }

      module _ (entries : all_to (entry_test (columns_of s table)) 512 ≡ true) (few : s.setup.destinations ≤ 32)
          (orders : all_to (λ j. implies (is_present s j) (order_test s.jobs.order j (at s.jobs.places j))) 32 ≡ true) where
        job_facts : (j : ℕ) → j < 32 → is_present s j ≡ true → job_test s.jobs s.setup.settings r.waiting r.busy j ≡ true → JobSound s j × (any_to (used_of s j) 512 ≡ true)
        unfolding job_test counts_test sold_test
        job_facts j l p h =
            let w = at r.waiting j in
            let b = at r.busy j in
            let n = at s.jobs.n j in
            let picked = at s.jobs.picked j in
            let dropped = at s.jobs.dropped j in
            let sold = at s.jobs.sold j in
            let counts = counts_test w b n picked dropped in
            let few-sold = sold_test (cost_of s j) sold n in
            let child = child_test s.jobs.present s.jobs.transport s.jobs.picked (at s.jobs.transport j) (has_preempted s j) (parent_of s j) in
            let ends = ends_in (parent_of s) 32 (parent_of s j) in
            let over = leb (at s.jobs.overtakers j) 65_535 in
            let turn = leb (at s.jobs.turn j) (at s.jobs.places j) in
            let top = and_3 (counts && few-sold && leb 1 (w + b) && child && ends) over turn h in
            let low = and_3 (counts && few-sold && leb 1 (w + b)) child ends top.0 in
            let f = and_3 counts few-sold (leb 1 (w + b)) low.0 in
            let c = and_3 (eqb (w + picked + dropped) n) (within 1 256 n) (leb b picked) f.0 in
            let unsold = implies (eqb (cost_of s j) 0) (eqb sold 0) in (
              record {
                adds = omega (arith, eqb-true (w + picked + dropped) n c.0, waiting_is s table r tables j l);
                n = within_facts c.1;
                busy = omega (arith, leb-true b picked c.2, busy_is s table r tables j l);
                places = (order_facts orders j l p).0;
                distinct = (order_facts orders j l p).1;
                complete = complete entries few j l p;
                sold = leb-true (cost_of s j * sold) n (and_left (leb (cost_of s j * sold) n) unsold f.1);
                unsold = λ z. eqb-true sold 0 (implies_at (and_right (leb (cost_of s j * sold) n) unsold f.1) (eq-eqb (cost_of s j) 0 z));
                parent = child_facts j (parent_of s j) low.1;
                ends = low.2;
                overtakers = leb-true (at s.jobs.overtakers j) 65_535 top.1;
                turn = leb-true (at s.jobs.turn j) (at s.jobs.places j) top.2;
              },
              counted_used j l (leb-true 1 (w + b) f.2),
            )

      -- Destinations.

      health_facts : (d : ℕ) → d < 32 → health_test (settings_for s d) (at r.held d) (health_of s d) ≡ true → DestinationSound s d
      unfolding health_test
      health_facts d l h =
          record {
            live = λ u e. sums_fit_facts (settings_for s d) u (ap (health_test (settings_for s d) (at r.held d)) (sym e) ∙ h);
            dead = λ end e x b t q.
                (let z = eqb-true (at r.held d) 0 (ap (health_test (settings_for s d) (at r.held d)) (sym e) ∙ h) in
                true_not_false (and_both t (eq-eqb (destination_of s x) d q))
                (count_zero_at (λ e. is_waiting s e && eqb (destination_of s e) d) 512 (sym (held_is s table r tables d l) ∙ z) x b));
          }

      -- The whole.

      pub whole :
          setup_in_range s.setup ≡ true
          → s.turn ≤ s.setup.transports
          → all_to (λ j. implies (is_present s j) (order_test s.jobs.order j (at s.jobs.places j))) 32 ≡ true
          → all_to (entry_test (columns_of s table)) 512 ≡ true
          → all_to (λ t. eqb (at s.busy.transport t) (at r.on t)) s.setup.transports ≡ true
          → all_to (λ d. eqb (at s.busy.destination d) (at r.to d)) s.setup.destinations ≡ true
          → all_to (λ j. implies (is_present s j) (job_test s.jobs s.setup.settings r.waiting r.busy j)) 32 ≡ true
          → all_to (queue_test s.queues s.jobs.present s.jobs.transport) s.setup.transports ≡ true
          → leb s.arrivals.count 32 && holds_each_once (λ x. get_or s.jobs.present x false) 32 (list_of s.arrivals) ≡ true
          → never_falling (at s.jobs.arrival) (list_of s.arrivals) && every_in (λ j. leb (at s.jobs.arrival j) s.clock) (list_of s.arrivals) ≡ true
          → (last : Bool)
          → last ≡ all_to (destination_test s.setup s.destinations r.held) s.setup.destinations
          → last ≡ sound s
      unfolding destination_test
      whole range turn orders entries on to jobs queues arrivals rising last e =
          bool_same
          (λ t.
          sound_of s
          (record {
            setup = u;
            entries = λ x l f. (used_facts x (all_at (entry_test (columns_of s table)) 512 entries x l) f).0;
            busy_transport = λ t l. eqb-true (at s.busy.transport t) (at r.on t) (all_at _ _ on t l) ∙ on_is s table r tables t (omega (arith, u.transports.1));
            busy_destination = λ d l.
                eqb-true (at s.busy.destination d) (at r.to d) (all_at _ _ to d l) ∙ to_is s table r tables d (omega (arith, u.destinations.1));
            queues = queue_facts queues;
            arrivals = arrivals_facts arrivals rising;
            jobs = λ j l p. (job_facts entries u.destinations.1 orders j l p (implies_at (all_at _ 32 jobs j l) p)).0;
            used = λ j l p. (job_facts entries u.destinations.1 orders j l p (implies_at (all_at _ 32 jobs j l) p)).1;
            destinations = λ d l.
                health_facts d (omega (arith, u.destinations.1))
                (all_at (destination_test s.setup s.destinations r.held) s.setup.destinations (sym e ∙ t) d l);
            turn = turn;
          }))
          λ h. e ∙ part_destinations s table r tables h
        where
          u : InRange s.setup
          u = in_range_facts s.setup range
