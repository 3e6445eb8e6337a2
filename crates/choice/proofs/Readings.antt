-- The tables and turns of the leaf functions are what the rules read of a sound state.
use Prim.Native.Nat.{ℕ, ◌+◌, ◌%◌, ◌<◌}
use mathlib.Core.Bool.{Bool, true, false}
use mathlib.Core.Path.{◌≡◌, sym, ◌∙◌, ap, subst}
use mathlib.Core.Logic.{⊎_elim}
use mathlib.Core.List.{List}
use native.Mathlib.Nat.{mod-lt}
use native.Mathlib.Omega.{arith}
use lib.Dec.{eqb, ltb}
use lib.ListN.{get_or}
use borrow.Author.Tests.{ltb-true, lt-ltb, le-ltb, eqb-true, eq-eqb}
use Rattle.laws.specs.Range.{any_to, count_to, first_to}
use Rattle.laws.specs.Sequence.{holds, first_of, up_to}
use Rattle.laws.proofs.Bools.{case_bool, bool_same, true_not_false, and_both, and_left, and_right}
use Rattle.laws.proofs.Count.{count_none}
use Rattle.laws.proofs.All.{any_of, any_witness}
use Rattle.laws.proofs.First.{first_same}
use Rattle.laws.proofs.FirstOf.{first_of_cases, first_of_same, up_to_in}
use Rattle.laws.proofs.Sequence.{count_in_same}
use Rattle.rules.specs.declared.State.{State}
use Rattle.rules.specs.State.{at, transport_of, queue_of, is_waiting, job_of, destination_of, is_present, waits_of, waiting_of, order_at}
use Rattle.rules.specs.SoundFacts.{Sound}
use Rattle.rules.specs.Picking.{eligible_on, eligible_of, eligible_to, has_eligible, steps_to, transport_steps, finds, next_transport, current_job, passed_over, next_place, next_entry}
use Rattle.rules.proofs.Shape.{Shaped, present_below}
use Rattle.rules.proofs.EntryFacts.{eligible_of_eligible, eligible_of_job, eligible_sound}
use Rattle.rules.proofs.Turns.{steps_found}
use Rattle.rules.proofs.Picked.{TransportFound, transport_found, Current, current_found, next_found}
use Rattle.eligibility.specs.Eligibility.{waits_in, Adds, Reads, open_place}
use Rattle.turns.specs.Turns.{front_of, ahead_of, has_front, front_steps, Turned, Placed}
use Rattle.rules.proofs.ListFacts.{queue_job}
use Rattle.rules.proofs.EntryTests.{waiting_used}

-- turns that ask the same
pub steps_same : (p q : ℕ → Bool) (n start : ℕ) → ((k : ℕ) → k < n → p k ≡ q k) → steps_to p n start ≡ steps_to q n start
unfolding steps_to
steps_same p q n start h = first_same (λ i. p ((start + i) % n)) (λ i. q ((start + i) % n)) n λ i l. h ((start + i) % n) (mod-lt (start + i) (omega arith))

-- what waits of a job is its n less the picked and the dropped
module _ (w : State) (shape : Shaped w) (h : Sound w) where
  of_present : (j e : ℕ) → e < 512 → waits_in w.entries.kind w.entries.job j e ≡ true → is_present w j ≡ true
  unfolding waits_in
  of_present j e l t =
      subst (λ x. is_present w x ≡ true) (eqb-true (job_of w e) j (and_right (is_waiting w e) (eqb (job_of w e) j) t))
      (h.entries e l (waiting_used w e (and_left (is_waiting w e) (eqb (job_of w e) j) t))).present

  none_waits : (j : ℕ) → (is_present w j ≡ true → ⊥) → count_to (waits_in w.entries.kind w.entries.job j) 512 ≡ 0
  none_waits j away =
      count_none (waits_in w.entries.kind w.entries.job j) 512
      (λ e l. case_bool (waits_in w.entries.kind w.entries.job j e) (λ t. absurd (away (of_present j e l t))) (λ f. f))

  pub adds_read : Adds w.jobs w.entries.kind w.entries.job
  unfolding waiting_of waits_of waits_in
  adds_read =
      record {
        present = λ j l p. (h.jobs j l p).adds;
        absent = λ j l f. none_waits j (λ t. true_not_false t f);
        others = λ j l. none_waits j (λ t. omega (arith, present_below w shape j t));
      }

pub record TurnRead (w : State) (t y passed : ℕ) : Type 0 where
  pub finds : finds w ≡ true
  pub on : t ≡ next_transport w
  pub transport : TransportFound w t
  pub current : y ≡ current_job w t
  pub is : Current w t y
  pub ahead : passed ≡ passed_over w t y

module _ (w : State) (shape : Shaped w) (h : Sound w) (waits : List ℕ) (ready : List Bool) (reads : Reads w waits ready) where
  in_queue : (t j : ℕ) → t < w.setup.transports → holds j (queue_of w t) ≡ true → j < 256
  in_queue t j l k = omega (arith, (queue_job w t j h l k).0)

  pub front_read : (t : ℕ) → t < w.setup.transports → front_of ready (queue_of w t) ≡ current_job w t
  unfolding front_of current_job
  front_read t l = first_of_same (λ j. get_or ready j false) (has_eligible w) (queue_of w t) 32 (λ j k. reads.eligible j (in_queue t j l k))

  pub ahead_read : (t y : ℕ) → t < w.setup.transports → ahead_of waits (queue_of w t) y ≡ passed_over w t y
  unfolding ahead_of passed_over
  ahead_read t y l =
      count_in_same (λ j. ltb 0 (at waits j)) (λ j. ltb 0 (waiting_of w j)) (up_to y (queue_of w t))
      (λ j k. ap (ltb 0) (reads.waiting j (in_queue t j l (up_to_in y j (queue_of w t) k))))

  -- an eligible entry of a job on the transport's list is one of the transport
  on_transport_lem : (t y : ℕ) → t < w.setup.transports → holds y (queue_of w t) ≡ true → has_eligible w y ≡ true → any_to (eligible_on w t) 512 ≡ true
  unfolding has_eligible eligible_on
  on_transport_lem t y l k e =
      let x = any_witness (eligible_of w y) 512 e in
      let ok = eligible_of_eligible w y x.0 x.2 in
      let s = eligible_sound w h x.0 x.1 ok in
      any_of (eligible_on w t) 512 x.0 x.1
      (and_both ok (eq-eqb (transport_of w (destination_of w x.0)) t
      (sym s.transport ∙ ap (at w.jobs.transport) (eligible_of_job w y x.0 x.2) ∙ (queue_job w t y h l k).2)))

  current_below : (t : ℕ) → t < w.setup.transports → current_job w t < 32 → any_to (eligible_on w t) 512 ≡ true
  unfolding current_job
  current_below t l b =
      ⊎_elim (λ r. on_transport_lem t (first_of (has_eligible w) (queue_of w t) 32) l r.0 r.1) (λ r. absurd (omega (arith, r.0, b))) (first_of_cases (has_eligible w) (queue_of w t) 32)

  pub has_front_read : (t : ℕ) → t < w.setup.transports → has_front ready w.queues t ≡ any_to (eligible_on w t) 512
  unfolding has_front
  has_front_read t l =
      ap (λ x. ltb x 32) (front_read t l)
      ∙ bool_same
      (λ b. current_below t l (ltb-true (current_job w t) 32 b))
      (λ a. lt-ltb (current_job w t) 32 (current_found w t shape h (record { below = l; eligible = a })).below)

  pub steps_read : front_steps ready w.queues w.setup.transports w.turn ≡ transport_steps w
  unfolding front_steps transport_steps
  steps_read = steps_same (has_front ready w.queues) (λ t. any_to (eligible_on w t) 512) w.setup.transports w.turn has_front_read

  pub finds_read : ltb (front_steps ready w.queues w.setup.transports w.turn) w.setup.transports ≡ finds w
  unfolding finds
  finds_read = ap (λ x. ltb x w.setup.transports) steps_read

  pub transport_read : (w.turn + front_steps ready w.queues w.setup.transports w.turn) % w.setup.transports ≡ next_transport w
  unfolding next_transport
  transport_read = ap (λ x. (w.turn + x) % w.setup.transports) steps_read

  -- what a turn of transports found
  pub turn_read : (t y passed : ℕ) → Turned w.queues w.setup.transports w.turn waits ready t y passed → TurnRead w t y passed
  turn_read t y passed r =
      let f : finds w ≡ true = sym finds_read ∙ lt-ltb _ _ r.finds in
      let on : t ≡ next_transport w = r.on ∙ transport_read in
      let tf : TransportFound w t = subst (TransportFound w) (sym on) (transport_found w f) in
      let cur : y ≡ current_job w t = r.current ∙ front_read t tf.below in
      record {
        finds = f;
        on = on;
        transport = tf;
        current = cur;
        is = subst (Current w t) (sym cur) (current_found w t shape h tf);
        ahead = r.ahead ∙ ahead_read t y tf.below;
      }

  pub not_found : front_steps ready w.queues w.setup.transports w.turn ≡ w.setup.transports → finds w ≡ false
  not_found e = sym finds_read ∙ le-ltb _ _ (omega (arith, e))

-- the next place of a job, and its entry

module _ (w : State) (shape : Shaped w) (h : Sound w) (j : ℕ) (below : j < 32) (present : is_present w j ≡ true) (some : has_eligible w j ≡ true) where
  -- the next place has an eligible entry
  pub next_open : any_to (eligible_to w j (order_at w j (next_place w j))) 512 ≡ true
  unfolding eligible_to eligible_of
  next_open =
      let n = next_found w j shape h present some in
      any_of (eligible_to w j (order_at w j (next_place w j))) 512 (next_entry w j) n.below
      (and_both (and_both n.eligible (eq-eqb (job_of w (next_entry w j)) j n.job)) (eq-eqb (destination_of w (next_entry w j)) (order_at w j (next_place w j)) n.destination))

  -- its first entry
  pub entry_read : (destination entry : ℕ) → destination ≡ order_at w j (next_place w j) → entry ≡ first_to (eligible_to w j destination) 512 → entry ≡ next_entry w j
  unfolding next_entry
  entry_read destination entry d e = e ∙ ap (λ x. first_to (eligible_to w j x) 512) d

-- the turn of a job's places

module _ (w : State) (shape : Shaped w) (h : Sound w) (j : ℕ) (below : j < 32) (present : is_present w j ≡ true) (some : has_eligible w j ≡ true)
    (pairs : List ℕ) (room : List Bool)
    (asked : (k : ℕ) → open_place w.jobs.order pairs room j k ≡ any_to (eligible_to w j (order_at w j k)) 512)
  where
    same_steps : steps_to (open_place w.jobs.order pairs room j) (at w.jobs.places j) (at w.jobs.turn j)
        ≡ steps_to (λ k. any_to (eligible_to w j (order_at w j k)) 512) (at w.jobs.places j) (at w.jobs.turn j)
    same_steps =
        steps_same (open_place w.jobs.order pairs room j) (λ k. any_to (eligible_to w j (order_at w j k)) 512) (at w.jobs.places j) (at w.jobs.turn j)
        (λ k l. asked k)

    pub place_found : steps_to (open_place w.jobs.order pairs room j) (at w.jobs.places j) (at w.jobs.turn j) < at w.jobs.places j
    place_found =
        rw same_steps
        (steps_found (λ k. any_to (eligible_to w j (order_at w j k)) 512) (at w.jobs.places j) (at w.jobs.turn j) (h.jobs j below present).turn (next_place w j)
        (next_found w j shape h present some).place (next_open w shape h j below present some))

    place_read : (at w.jobs.turn j + steps_to (open_place w.jobs.order pairs room j) (at w.jobs.places j) (at w.jobs.turn j)) % at w.jobs.places j ≡ next_place w j
    unfolding next_place
    place_read = ap (λ x. (at w.jobs.turn j + x) % at w.jobs.places j) same_steps

    -- what is promised of the turn
    pub placed_read : (place destination : ℕ) → Placed w.jobs.order pairs room j (at w.jobs.places j) (at w.jobs.turn j) place destination
        → (place ≡ next_place w j) × (destination ≡ order_at w j (next_place w j))
    placed_read place destination q =
        let here : place ≡ next_place w j = q.turn ∙ place_read in
        (here, q.taken ∙ ap (order_at w j) here)
