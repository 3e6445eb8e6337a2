-- A preemption keeps shape and soundness.
use Prim.Native.Nat.{ℕ, suc, ◌+◌, ◌*◌, ◌≤◌, ◌<◌, min}
use mathlib.Core.Bool.{true, false}
use mathlib.Core.Path.{◌≡◌, sym, ◌∙◌, ap, subst}
use mathlib.Core.Logic.{◌≢◌}
use mathlib.Core.List.{List}
use native.Mathlib.Nat.{suc_inj, mul-le-mul_left}
use native.Mathlib.Omega.{arith}
use lib.ListN.{length, get_or, set, length-set, length-take}
use lib.Seq.{get_or-set_same, get_or-set_other}
use Rattle.laws.specs.Chain.{ends_in}
use Rattle.laws.specs.Sequence.{holds, move_before, holds_each_once}
use Rattle.laws.proofs.Chain.{ends_same, along_keeps}
use Rattle.laws.proofs.Sequence.{length_padded, take_padded}
use Rattle.laws.proofs.Move.{length_move}
use Rattle.laws.proofs.Once.{once_move, once_of}
use Rattle.laws.proofs.ChainAmong.{ends_among}
use Rattle.laws.proofs.Places.{set_all}
use Rattle.rules.specs.declared.State.{State}
use Rattle.rules.specs.Sizes.{sum_limit, max_transports, max_jobs}
use Rattle.rules.specs.State.{at, settings_of, zero_list, list_of, listed, queue_of, is_present, waits_of, busy_of, used_of, waiting_of, parent_of}
use Rattle.rules.specs.Sound.{busy_on, busy_to, is_job_on, order_of, cost_of}
use Rattle.rules.specs.SoundFacts.{QueueSound, ChildOf, JobSound, Sound}
use Rattle.rules.specs.Preemption.{added_to, charged, preempting}
use Rattle.rules.proofs.Shape.{Shaped, sold_length, parent_length, preempted_length, overtakers_length, present_below}
use Rattle.rules.proofs.Picked.{Current}
use Rattle.rules.proofs.Preemptor.{Preempts}
use Rattle.rules.proofs.ListFacts.{queue_holds, queue_once}

-- The chain of parents.

module _ (w : State) (shape : Shaped w) (h : Sound w) where
  pub parent_present : (z p : ℕ) → is_present w z ≡ true → parent_of w z ≡ suc p → is_present w p ≡ true
  parent_present z p k e = ((h.jobs z (present_below w shape z k) k).parent p e).present

  -- a job that was never picked from is nobody's parent
  pub unpicked_childless : (x z : ℕ) → at w.jobs.picked x ≡ 0 → is_present w z ≡ true → parent_of w z ≢ suc x
  unpicked_childless x z u k e = let c = ((h.jobs z (present_below w shape z k) k).parent x e).picked in omega arith

  -- from a present job on, itself counted in, the chain ends within 32
  pub chain_ends : (z : ℕ) → is_present w z ≡ true → ends_in (parent_of w) 32 (suc z) ≡ true
  chain_ends = ends_among (parent_of w) (is_present w) 32 parent_present (present_below w shape) (λ z k. (h.jobs z (present_below w shape z k) k).ends)

-- The sums along the chain.

pub record SumsKept (w : State) (sums : List ℕ) : Type 0 where
  pub length : length sums ≡ max_jobs
  pub limit : (j : ℕ) → is_present w j ≡ true → at sums j ≤ sum_limit

added_kept : (w : State) (m x : ℕ) (sums : List ℕ) → x < max_jobs → SumsKept w sums → SumsKept w (added_to m x sums)
unfolding added_to
added_kept w m x sums l k = record {
  length = length-set sums x (min (at sums x + m) sum_limit) ∙ k.length;
  limit = set_all (λ j v. is_present w j ≡ true → v ≤ sum_limit) sums x (min (at sums x + m) sum_limit) 0 (omega (arith, k.length)) (λ p. omega arith) (λ j ne p. k.limit j p);
}

pub charged_kept : (w : State) (y m : ℕ) → Shaped w → Sound w → is_present w y ≡ true → SumsKept w (charged (parent_of w) y m w.jobs.overtakers)
unfolding charged
charged_kept w y m shape h p =
    along_keeps (parent_of w) (added_to m) (λ z. is_present w z ≡ true) (SumsKept w) (parent_present w shape h)
    (λ x a o k. added_kept w m x a (present_below w shape x o) k)
    _ (suc y) w.jobs.overtakers (λ x e. subst (λ z. is_present w z ≡ true) (suc_inj e) p)
    (record { length = overtakers_length shape.jobs; limit = λ j q. (h.jobs j (present_below w shape j q) q).overtakers })

-- The parents after it.

abbrev new_parent : State → ℕ → ℕ → ℕ → ℕ
new_parent w x y z = at (set w.jobs.parent x (suc y)) z

module _ (w : State) (now t y x : ℕ) (shape : Shaped w) (h : Sound w) (lt : t < w.setup.transports) (cur : Current w t y) (pre : Preempts w now t y x) where
  -- along chains without x nothing changes, and no chain comes to x
  new_same : (k : ℕ) → ((z : ℕ) → k ≡ suc z → (is_present w z ≡ true) × (z ≢ x)) → ends_in (parent_of w) 32 k ≡ ends_in (new_parent w x y) 32 k
  new_same k o =
      ends_same (parent_of w) (new_parent w x y) (λ z. (is_present w z ≡ true) × (z ≢ x))
      (λ z v k e. (parent_present w shape h z v k.0 e, λ q. unpicked_childless w shape h x z pre.unpicked k.0 (e ∙ ap suc q)))
      (λ z k. sym (get_or-set_other w.jobs.parent x z (suc y) 0 k.1))
      32 k o

  new_ends : (j : ℕ) → is_present w j ≡ true → ends_in (new_parent w x y) 32 (new_parent w x y j) ≡ true
  new_ends =
      set_all (λ j v. is_present w j ≡ true → ends_in (new_parent w x y) 32 v ≡ true) w.jobs.parent x (suc y) 0 (omega (arith, parent_length shape.jobs, pre.below))
      (λ p. sym (new_same (suc y) (λ z e. (subst (λ z. is_present w z ≡ true) (suc_inj e) cur.present, λ q. pre.other (sym q ∙ sym (suc_inj e))))) ∙ chain_ends w shape h y cur.present)
      (λ j ne p.
      sym (new_same (parent_of w j) (λ z e. (parent_present w shape h j z p e, λ q. unpicked_childless w shape h x j pre.unpicked p (e ∙ ap suc q))))
      ∙ (h.jobs j (present_below w shape j p) p).ends)

  new_child : (j : ℕ) → is_present w j ≡ true → (p : ℕ) → new_parent w x y j ≡ suc p → ChildOf (preempting w t x y (waiting_of w x)) j p
  unfolding preempting
  new_child =
      set_all (λ j v. is_present w j ≡ true → (p : ℕ) → v ≡ suc p → ChildOf (preempting w t x y (waiting_of w x)) j p) w.jobs.parent x (suc y) 0
      (omega (arith, parent_length shape.jobs, pre.below))
      (λ k p e. subst (ChildOf (preempting w t x y (waiting_of w x)) x) (suc_inj e)
      (record {
        present = cur.present;
        transport = cur.transport ∙ sym pre.transport;
        picked = pre.picked;
        marked = get_or-set_same w.jobs.preempted x true false (omega (arith, preempted_length shape.jobs, pre.below));
      }))
      (λ j ne k p e.
      let c = (h.jobs j (present_below w shape j k) k).parent p e in
      record {
        present = c.present;
        transport = c.transport;
        picked = c.picked;
        marked = get_or-set_other w.jobs.preempted x j true false ne ∙ c.marked;
      })

  -- What is sold.

  new_sold : (j : ℕ) → is_present w j ≡ true → cost_of w j * at (preempting w t x y (waiting_of w x)).jobs.sold j ≤ at w.jobs.n j
  unfolding preempting
  new_sold =
      set_all (λ j v. is_present w j ≡ true → cost_of w j * v ≤ at w.jobs.n j) w.jobs.sold y _ 0 (omega (arith, sold_length shape.jobs, cur.below))
      (λ p. rw (cur.transport, cost_of) (omega (arith, pre.pays, mul-le-mul_left (settings_of w t).cost pre.waits, (h.jobs y cur.below p).adds)))
      (λ j ne p. (h.jobs j (present_below w shape j p) p).sold)

  new_unsold : (j : ℕ) → is_present w j ≡ true → cost_of w j ≡ 0 → at (preempting w t x y (waiting_of w x)).jobs.sold j ≡ 0
  unfolding preempting
  new_unsold =
      set_all (λ j v. is_present w j ≡ true → cost_of w j ≡ 0 → v ≡ 0) w.jobs.sold y _ 0 (omega (arith, sold_length shape.jobs, cur.below))
      (λ p e. absurd (omega (arith, pre.cost, sym (ap (λ t. (settings_of w t).cost) cur.transport) ∙ e)))
      (λ j ne p. (h.jobs j (present_below w shape j p) p).unsold)

  kept_job : (j : ℕ) → j < max_jobs → is_present w j ≡ true → JobSound (preempting w t x y (waiting_of w x)) j
  unfolding preempting order_of waits_of busy_of used_of waiting_of
  kept_job j l p =
      let k = h.jobs j l p in
      record {
        adds = k.adds;
        n = k.n;
        busy = k.busy;
        places = k.places;
        distinct = k.distinct;
        complete = k.complete;
        sold = new_sold j p;
        unsold = new_unsold j p;
        parent = new_child j p;
        ends = new_ends j p;
        overtakers = (charged_kept w y (waiting_of w x) shape h cur.present).limit j p;
        turn = k.turn;
      }

  -- The list.

  in_queue : holds x (queue_of w t) ≡ true
  in_queue = queue_holds w t x shape h lt pre.present pre.transport

  moved_length : length (move_before x y (queue_of w t)) ≤ max_jobs
  moved_length =
      let o = queue_once w t h lt in
      let q = get_or w.queues t zero_list in
      omega (
        arith,
        length_move x y (queue_of w t) pre.other (o.once x pre.below (o.passes x in_queue)) cur.inside,
        length-take q.count q.jobs,
        (h.queues t lt).count,
      )

  kept_queue : (u : ℕ) → u < w.setup.transports → QueueSound (preempting w t x y (waiting_of w x)) u
  unfolding preempting is_job_on
  kept_queue u l = record { count = (parts u l).0; once = (parts u l).1 }
    where
      parts : (u : ℕ) → u < w.setup.transports
          → ((get_or (set w.queues t (listed (move_before x y (queue_of w t)))) u zero_list).count ≤ max_jobs)
          × (holds_each_once (is_job_on w u) max_jobs (list_of (get_or (set w.queues t (listed (move_before x y (queue_of w t)))) u zero_list)) ≡ true)
      parts =
          set_all (λ u v. u < w.setup.transports → (v.count ≤ max_jobs) × (holds_each_once (is_job_on w u) max_jobs (list_of v) ≡ true))
          w.queues t (listed (move_before x y (queue_of w t))) zero_list (omega (arith, shape.queues, h.setup.transports.1))
          (λ l. (
            moved_length,
            rw (take_padded max_jobs (move_before x y (queue_of w t)))
                (once_of (is_job_on w t) max_jobs (move_before x y (queue_of w t)) (once_move x y (queue_once w t h lt) pre.other in_queue cur.inside)),
          ))
          (λ u ne l. ((h.queues u l).count, (h.queues u l).once))

  pub shaped_preempting : Shaped (preempting w t x y (waiting_of w x))
  unfolding preempting
  shaped_preempting =
      record {
        destinations = shape.destinations;
        busy = shape.busy;
        queues = length-set w.queues t (listed (move_before x y (queue_of w t))) ∙ shape.queues;
        queue =
            set_all (λ u v. u < max_transports → length v.jobs ≡ max_jobs) w.queues t (listed (move_before x y (queue_of w t))) zero_list (omega (arith, shape.queues, h.setup.transports.1))
            (λ l. length_padded max_jobs (move_before x y (queue_of w t)) moved_length)
            (λ u ne. shape.queue u);
        arrivals = shape.arrivals;
        jobs =
            record {
              lengths =
                  rw (
                    length-set w.jobs.sold y (at w.jobs.sold y + waiting_of w x),
                    length-set w.jobs.parent x (suc y),
                    length-set w.jobs.preempted x true,
                    (charged_kept w y (waiting_of w x) shape h cur.present).length ∙ sym (overtakers_length shape.jobs),
                  )
                  shape.jobs.lengths;
            };
        entries = shape.entries;
      }

  pub sound_preempting : Sound (preempting w t x y (waiting_of w x))
  unfolding preempting busy_on busy_to used_of
  sound_preempting =
      record {
        setup = h.setup;
        entries = λ e l f. let k = h.entries e l f in record { kind = k.kind; present = k.present; destination = k.destination; transport = k.transport };
        busy_transport = h.busy_transport;
        busy_destination = h.busy_destination;
        queues = kept_queue;
        arrivals = (let k = h.arrivals in record { count = k.count; once = k.once; rising = k.rising; past = k.past });
        jobs = kept_job;
        used = h.used;
        destinations = λ d l. let k = h.destinations d l in record { live = k.live; dead = k.dead };
        turn = h.turn;
      }

  pub kept_preempting : Shaped (preempting w t x y (waiting_of w x)) × Sound (preempting w t x y (waiting_of w x))
  kept_preempting = (shaped_preempting, sound_preempting)
