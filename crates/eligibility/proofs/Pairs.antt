-- The table of pairs, which the soundness test fills, finds the eligible entries of a sound state.
use Prim.Native.Nat.{ℕ, ◌+◌, ◌*◌, ◌≤◌, ◌<◌}
use mathlib.Core.Bool.{Bool, true, false, ◌&&◌, and-true, and_assoc}
use mathlib.Core.Path.{◌≡◌, refl, sym, ◌∙◌, ap, subst}
use mathlib.Core.List.{List}
use native.Mathlib.Decide.{dec_lt}
use native.Mathlib.Omega.{arith}
use lib.Dec.{eqb, ltb}
use lib.ListN.{get_or, get_or-eq_default}
use borrow.Author.Tests.{lt-ltb, le-ltb, eqb-true}
use Rattle.laws.specs.Range.{any_to, count_to, first_to}
use Rattle.laws.proofs.Bools.{case_bool, bool_same, true_not_false, false_of, and_both, and_left, and_right, and_left_false, and_right_false, eqb_self}
use Rattle.laws.proofs.Count.{count_any}
use Rattle.laws.proofs.All.{any_of, any_none, any_witness, any_same}
use Rattle.laws.proofs.First.{first_same}
use Rattle.laws.proofs.Table.{length_table, get_or_table}
use Rattle.rules.specs.declared.State.{State}
use Rattle.rules.specs.State.{at, transport_of, is_waiting, job_of, destination_of, is_present, waits_of, waiting_of, order_at}
use Rattle.rules.specs.SoundFacts.{Sound}
use Rattle.rules.specs.Picking.{has_room, has_agent, eligible, eligible_of, eligible_to, has_eligible}
use Rattle.rules.proofs.Shape.{Shaped, present_below}
use Rattle.rules.proofs.EntryFacts.{eligible_of_eligible, eligible_of_job, eligible_sound}
use Rattle.counting.specs.Counting.{counts_to, Paired}
use Rattle.counting.proofs.PairLaws.{pair_test}
use Rattle.eligibility.specs.Eligibility.{is_open, waits_in, open_pair, open_to, ready_in, waits_for, Reads, open_place}
use Rattle.rules.proofs.EntryTests.{waiting_used}

-- who is ready: of the 32 jobs, and past them

pub ready_at : (pairs : List ℕ) (room : List Bool) (j : ℕ) → j < 32 → get_or (ready_in pairs room) j false ≡ any_to (open_pair pairs room j) 32
unfolding ready_in
ready_at pairs room j l = get_or_table (λ j. any_to (open_pair pairs room j) 32) 32 j false l

pub ready_past : (pairs : List ℕ) (room : List Bool) (j : ℕ) → 32 ≤ j → get_or (ready_in pairs room) j false ≡ false
unfolding ready_in
ready_past pairs room j l = get_or-eq_default (ready_in pairs room) false (omega (arith, length_table (λ j. any_to (open_pair pairs room j) 32) 32, l))

-- a place where something waits is open where its destination has room
pub opened : (pairs : List ℕ) (room : List Bool) (j d to : ℕ) → d ≡ to → d < 32 → 0 < at pairs (32 * j + d) → get_or room d false ≡ open_to pairs room j to
unfolding open_to open_pair
opened pairs room j d to e l h = rw (← e, lt-ltb d 32 l, lt-ltb 0 (at pairs (32 * j + d)) h) refl

module _ (w : State) (shape : Shaped w) (h : Sound w) (room : List Bool) (rooms : (d : ℕ) → d < w.setup.destinations → get_or room d false ≡ is_open w.destinations w.busy w.setup d)
    (pairs : List ℕ) (paired : Paired w.entries.kind w.entries.job w.entries.destination pairs)
  where
    -- the table of rooms finds the eligible entries
    eligible_read : (e : ℕ) → e < 512 → (is_waiting w e && get_or room (destination_of w e) false) ≡ eligible w e
    unfolding eligible has_room has_agent is_open
    eligible_read e l =
        case_bool (is_waiting w e)
        (λ t.
        ap (λ b. b && get_or room (destination_of w e) false) t
        ∙ rooms (destination_of w e) (h.entries e l (waiting_used w e t)).destination
        ∙ sym (ap (λ b. (b && has_room w (destination_of w e)) && has_agent w (transport_of w (destination_of w e))) t))
        (λ f.
        ap (λ b. b && get_or room (destination_of w e) false) f
        ∙ sym (ap (λ b. (b && has_room w (destination_of w e)) && has_agent w (transport_of w (destination_of w e))) f))

    to_below : (e : ℕ) → e < 512 → is_waiting w e ≡ true → destination_of w e < 32
    to_below e l t = omega (arith, (h.entries e l (waiting_used w e t)).destination, h.setup.destinations)

    -- the pair of a waiting entry says its job and its destination
    of_pair : (j d e : ℕ) → d < 32 → e < 512
        → (is_waiting w e && eqb (32 * job_of w e + destination_of w e) (32 * j + d)) ≡ waits_for w.entries.kind w.entries.job w.entries.destination j d e
    unfolding waits_for
    of_pair j d e b l =
        case_bool (is_waiting w e)
        (λ t.
        ap (λ c. is_waiting w e && c) (pair_test (job_of w e) (destination_of w e) j d (to_below e l t) b)
        ∙ sym (and_assoc (is_waiting w e) (eqb (job_of w e) j) (eqb (destination_of w e) d)))
        (λ f.
        and_left_false (eqb (32 * job_of w e + destination_of w e) (32 * j + d)) f
        ∙ sym (and_left_false (eqb (destination_of w e) d) (and_left_false (eqb (job_of w e) j) f)))

    some_waits : (j d : ℕ) → j < 32 → d < 32 → ltb 0 (at pairs (32 * j + d)) ≡ any_to (waits_for w.entries.kind w.entries.job w.entries.destination j d) 512
    unfolding counts_to
    some_waits j d a b =
        ap (ltb 0) (paired.counts (32 * j + d) (omega arith))
        ∙ sym (count_any (λ e. is_waiting w e && eqb (32 * job_of w e + destination_of w e) (32 * j + d)) 512)
        ∙ any_same (λ e. is_waiting w e && eqb (32 * job_of w e + destination_of w e) (32 * j + d))
        (waits_for w.entries.kind w.entries.job w.entries.destination j d) 512 (λ e l. of_pair j d e b l)

    -- where destination d has room, what waits for it is eligible
    waits_eligible : (j d e : ℕ) → e < 512 → get_or room d false ≡ true → waits_for w.entries.kind w.entries.job w.entries.destination j d e ≡ eligible_to w j d e
    unfolding waits_for eligible_to eligible_of
    waits_eligible j d e l o =
        case_bool (eqb (destination_of w e) d)
        (λ t.
        ap (λ b. (b && eqb (job_of w e) j) && eqb (destination_of w e) d)
        (sym (and-true (is_waiting w e)) ∙ ap (λ b. is_waiting w e && b) (sym (ap (λ x. get_or room x false) (eqb-true (destination_of w e) d t) ∙ o)) ∙ eligible_read e l))
        (λ f. and_right_false (is_waiting w e && eqb (job_of w e) j) f ∙ sym (and_right_false (eligible w e && eqb (job_of w e) j) f))

    eligible_open : (j d e : ℕ) → e < 512 → eligible_to w j d e ≡ true → (destination_of w e ≡ d) × (is_waiting w e ≡ true) × (get_or room d false ≡ true)
    unfolding eligible_to eligible_of
    eligible_open j d e l t =
        let to = eqb-true (destination_of w e) d (and_right (eligible w e && eqb (job_of w e) j) (eqb (destination_of w e) d) t) in
        let ok = eligible_read e l ∙ and_left (eligible w e) (eqb (job_of w e) j) (and_left (eligible w e && eqb (job_of w e) j) (eqb (destination_of w e) d) t) in
        (to, and_left (is_waiting w e) (get_or room (destination_of w e) false) ok, subst (λ x. get_or room x false ≡ true) to (and_right (is_waiting w e) (get_or room (destination_of w e) false) ok))

    pub pair_read : (j d : ℕ) → j < 32 → d < 32 → open_pair pairs room j d ≡ any_to (eligible_to w j d) 512
    unfolding open_pair
    pair_read j d a b =
        case_bool (get_or room d false)
        (λ o.
        ap (λ x. ltb 0 (at pairs (32 * j + d)) && x) o
        ∙ and-true (ltb 0 (at pairs (32 * j + d)))
        ∙ some_waits j d a b
        ∙ any_same (waits_for w.entries.kind w.entries.job w.entries.destination j d) (eligible_to w j d) 512 (λ e l. waits_eligible j d e l o))
        (λ f.
        and_right_false (ltb 0 (at pairs (32 * j + d))) f
        ∙ sym (any_none (eligible_to w j d) 512 (λ e l. false_of (λ t. true_not_false (eligible_open j d e l t).2 f))))

    -- a job is ready where it has an eligible entry
    ready_read : (j : ℕ) → j < 32 → any_to (open_pair pairs room j) 32 ≡ has_eligible w j
    unfolding has_eligible eligible_to
    ready_read j a =
        bool_same
        (λ t.
        let d = any_witness (open_pair pairs room j) 32 t in
        let e = any_witness (eligible_to w j d.0) 512 (sym (pair_read j d.0 a d.1) ∙ d.2) in
        any_of (eligible_of w j) 512 e.0 e.1 (and_left (eligible_of w j e.0) (eqb (destination_of w e.0) d.0) e.2))
        (λ t.
        let e = any_witness (eligible_of w j) 512 t in
        let own : eligible_to w j (destination_of w e.0) e.0 ≡ true = and_both e.2 (eqb_self (destination_of w e.0)) in
        let b = to_below e.0 e.1 (eligible_open j (destination_of w e.0) e.0 e.1 own).1 in
        any_of (open_pair pairs room j) 32 (destination_of w e.0) b (pair_read j (destination_of w e.0) a b ∙ any_of (eligible_to w j (destination_of w e.0)) 512 e.0 e.1 own))

    -- a number that is no job's has none
    none_eligible : (j : ℕ) → 32 ≤ j → has_eligible w j ≡ false
    unfolding has_eligible
    none_eligible j a =
        any_none (eligible_of w j) 512
        (λ e l. false_of (λ t.
        (let s = eligible_sound w h e l (eligible_of_eligible w j e t) in
        omega (arith, a, present_below w shape j (subst (λ x. is_present w x ≡ true) (eligible_of_job w j e t) s.present)))))

    pub pairs_read : (waits : List ℕ) → ((j : ℕ) → j < 256 → at waits j ≡ count_to (waits_in w.entries.kind w.entries.job j) 512) → Reads w waits (ready_in pairs room)
    unfolding waiting_of waits_of waits_in
    pairs_read waits a =
        record {
          waiting = a;
          eligible = λ j l. elim (dec_lt j 32) [
            | yes p ↦ ready_at pairs room j p ∙ ready_read j p
            | no p ↦ ready_past pairs room j (omega arith) ∙ sym (none_eligible j (omega arith))
          ];
        }

    -- the places of a job's order

    pub place_open : (j k : ℕ) → j < 32 → open_place w.jobs.order pairs room j k ≡ any_to (eligible_to w j (order_at w j k)) 512
    unfolding open_place open_to
    place_open j k a =
        elim (dec_lt (order_at w j k) 32) [
          | yes p ↦ ap (λ b. b && open_pair pairs room j (order_at w j k)) (lt-ltb (order_at w j k) 32 p) ∙ pair_read j (order_at w j k) a p
          | no p ↦
              and_left_false (open_pair pairs room j (order_at w j k)) (le-ltb (order_at w j k) 32 (omega arith))
              ∙ sym
              (any_none (eligible_to w j (order_at w j k)) 512
              (λ e l. false_of (λ t. (let f = eligible_open j (order_at w j k) e l t in omega (arith, f.0, to_below e l f.1)))))
        ]

    pub first_read : (j d : ℕ) → any_to (eligible_to w j d) 512 ≡ true
        → first_to (waits_for w.entries.kind w.entries.job w.entries.destination j d) 512 ≡ first_to (eligible_to w j d) 512
    first_read j d some =
        let e = any_witness (eligible_to w j d) 512 some in
        let o = (eligible_open j d e.0 e.1 e.2).2 in
        first_same (waits_for w.entries.kind w.entries.job w.entries.destination j d) (eligible_to w j d) 512 (λ e l. waits_eligible j d e l o)
