-- A pick put together: what was chosen may be handed out, and what is handed out is what the rules pick.
use Rattle.std.specs.Option.{unwrap_or}
use Rattle.std.proofs.Common.{Some, None, ◌≡◌, ℕ, suc, ◌+◌, ◌*◌, ◌<◌, ◌≤◌, true, eqb, [], ◌∷◌, sym, refl, ap, ◌∙◌, subst, le_trans, lt_of_lt_of_le, mul-le-mul_right, arith, w32, Fits, eq-eqb}
use Rattle.laws.specs.Bools.{when◌then◌else◌}
use Rattle.laws.proofs.Bools.{case_bool, and_both}
use Rattle.laws.proofs.Chain.{link_cases}
use Rattle.laws.proofs.Count.{count_le_bound}
use Rattle.charging.proofs.Leads.{leads_inside_lem}
use Rattle.choice.specs.declared.Choice.{Choice}
use Rattle.preemption.specs.declared.Preemptor.{Preemptor}
use Rattle.preemption.specs.Preempting.{preemptor_at}
use Rattle.choice.specs.Choosing.{picked_from, chosen_on, choice_of}
use Rattle.rules.specs.declared.State.{State}
use Rattle.rules.specs.Sizes.{max_entries, last_second}
use Rattle.rules.specs.State.{at, settings_of, is_present, waiting_of, destination_of}
use Rattle.rules.specs.Sound.{busy_on, busy_to, is_job_on}
use Rattle.rules.specs.SoundFacts.{Sound}
use Rattle.rules.specs.Windows.{woken}
use Rattle.rules.specs.Picking.{finds, next_transport, current_job, passed_over, next_place, next_entry}
use Rattle.rules.specs.Preemption.{preempting, preemptor_of}
use Rattle.rules.specs.Pick.{handed_out, pick_from, pick_with, pick_on, picking}
use Rattle.rules.specs.Refusals.{pick_refusal}
use Rattle.rules.specs.Calls.{granted, picking_reply, after_pick}
use Rattle.rules.proofs.Shape.{Shaped, present_below}
use Rattle.rules.proofs.Soundness.{sound_facts}
use Rattle.rules.proofs.Accepted.{pick_accepted}
use Rattle.rules.proofs.KeptWaking.{kept_woken}
use Rattle.rules.proofs.Picked.{TransportFound, transport_found, Current, current_found}
use Rattle.rules.proofs.Preemptor.{Preempts, preemptor_found}
use Rattle.rules.proofs.KeptPreempting.{kept_preempting}
use Rattle.rules.proofs.Preempted.{preempting_eligible, preempting_place, preempting_entry}
use Rattle.rules.proofs.HandedOut.{CanHandOut}
use Rattle.rules.proofs.KeptPicking.{next_can}
use Rattle.picking.specs.May.{MayPreempt, MayHandOut}
use Rattle.rules.proofs.ListFacts.{queue_once}
use Rattle.rules.proofs.EntryTests.{waiting_used}

pub fits_clock : (now : ℕ) → now ≤ last_second → Fits w32 now
fits_clock now h = record { fits = omega arith }

-- what an accepted pick starts from
pub record Ready (s : State) (now : ℕ) : Type 0 where
  pub came : Sound s
  pub early : now ≤ last_second
  pub shaped : Shaped (woken s now)
  pub whole : Sound (woken s now)

pub ready : (s : State) (now : ℕ) → Shaped s → pick_refusal s now ≡ 0 → Ready s now
ready s now shaped h =
    let a = pick_accepted s now h in
    let facts = sound_facts s a.whole in
    let kept = kept_woken s now shaped facts a.clock.later in
    record { came = facts; early = a.clock.early; shaped = kept.0; whole = kept.1 }

-- an entry that waits may be handed out
may_hand_out : (w : State) (t j place e : ℕ) → Shaped w → Sound w → t < w.setup.transports → is_present w j ≡ true → CanHandOut w t j place e → MayHandOut w t j place e
may_hand_out w t j place e shaped whole lane there can =
    let job = present_below w shaped j there in
    let r = whole.jobs j job there in
    let entry = whole.entries e can.below (waiting_used w e can.waits) in
    let few = entry.destination in
    record {
      lane = lt_of_lt_of_le lane whole.setup.transports.1;
      job = job;
      ordered = le_trans can.ordered (le_trans r.places (omega arith));
      entry = can.below;
      destination = lt_of_lt_of_le few whole.setup.destinations.1;
      picked = omega (arith, r.adds, r.n.1);
      busy_transport = omega (arith, whole.busy_transport t lane, count_le_bound (busy_on w t) max_entries);
      busy_destination = omega (arith, whole.busy_destination (destination_of w e) few, count_le_bound (busy_to w (destination_of w e)) max_entries);
    }

may_preempt : (w : State) (now t y x : ℕ) → Shaped w → Sound w → t < w.setup.transports → Current w t y → Preempts w now t y x → MayPreempt w t x y (waiting_of w x)
unfolding is_job_on
may_preempt w now t y x shaped whole lane cur p =
    let once = queue_once w t whole lane in
    let r = whole.jobs y cur.below cur.present in
    let q = whole.jobs x p.below p.present in
    record {
      lane = lt_of_lt_of_le lane whole.setup.transports.1;
      lists = shaped.queues;
      mover = p.below;
      payer = cur.below;
      other = p.other;
      count = (whole.queues t lane).count;
      movers = once.once x p.below (and_both p.present (on p.transport));
      payers = once.once y cur.below (and_both cur.present (on cur.transport));
      sold = small (settings_of w t).cost (at w.jobs.sold y + waiting_of w x) p.cost (le_trans p.pays (omega (arith, r.adds, r.n.1)));
      chain = leads_inside_lem w shaped whole 32 y cur.present;
    }
  where
    small : (c k : ℕ) → 2 ≤ c → c * k ≤ 256 → k ≤ 65535
    small c k l h = omega (arith, mul-le-mul_right {m = 1} k (le_trans (omega arith) l), h)

    on : {a b : ℕ} → a ≡ b → eqb a b ≡ true
    on {a} {b} e = eq-eqb a b e

-- what was chosen, where something was found

pub nothing_found : (w : State) (now : ℕ) → None ≡ choice_of w now → record { says = granted (0 ∷ []); state = w; buffer = [] } ≡ after_pick w now
unfolding after_pick choice_of when◌then◌else◌
nothing_found w now e = case_bool (finds w) (λ t. let q = rw t at e in absurd cc) (λ n. rw n refl)

some_same : {A : Type 0} (a b : A) → Some a ≡ Some b → a ≡ b
some_same a b e = ap (λ o. unwrap_or o a) e

module _ (w : State) (now : ℕ) (c : Choice) (e : Some c ≡ choice_of w now) where
  some_found : finds w ≡ true
  unfolding choice_of when◌then◌else◌
  some_found = case_bool (finds w) (λ t. t) (λ n. let q = rw n at e in absurd cc)

  chosen_is : c ≡ chosen_on w now (next_transport w) (current_job w (next_transport w))
  unfolding choice_of when◌then◌else◌
  chosen_is = some_same _ _ (rw some_found at e)

-- From the current job.

module _ (w : State) (now t y : ℕ) (f : finds w ≡ true) (et : t ≡ next_transport w) (ey : y ≡ current_job w t) (none : preemptor_of w now t y ≡ 0) where
  plain_reply : record { says = granted (y ∷ next_entry w y ∷ w.ticket ∷ passed_over w t y ∷ []); state = handed_out w t y (next_place w y) (next_entry w y); buffer = [] }
      ≡ after_pick w now
  unfolding after_pick picking_reply picking pick_on pick_with pick_from when◌then◌else◌
  plain_reply = rw (f, ← et, ← ey, none) refl

-- From a job x that preempts it.

module _ (w : State) (now t y x : ℕ) (f : finds w ≡ true) (et : t ≡ next_transport w) (ey : y ≡ current_job w t) (some : preemptor_of w now t y ≡ suc x) where
  abbrev moved : State
  moved = preempting w t x y (waiting_of w x)

  moved_reply : record { says = granted (x ∷ next_entry w x ∷ w.ticket ∷ passed_over w t y ∷ []); state = handed_out moved t x (next_place w x) (next_entry w x); buffer = [] }
      ≡ after_pick w now
  unfolding after_pick picking_reply picking pick_on pick_with pick_from when◌then◌else◌
  moved_reply = rw (f, ← et, ← ey, some, preempting_place w t x y (waiting_of w x) x, preempting_entry w t x y (waiting_of w x) x) refl

-- What the code asks and gives, by what was chosen.

module _ (w : State) (now : ℕ) (c : Choice) (e : Some c ≡ choice_of w now) (shaped : Shaped w) (whole : Sound w) where
  abbrev t : ℕ
  t = next_transport w

  abbrev y : ℕ
  y = current_job w (next_transport w)

  lane : TransportFound w t
  lane = transport_found w (some_found w now c e)

  cur : Current w t y
  cur = current_found w t shaped whole lane

  abbrev Handed : Choice → State → Type 0
  Handed c from =
      MayHandOut from c.transport c.job c.place c.entry
      × (record {
        says = granted (c.job ∷ c.entry ∷ w.ticket ∷ c.passed ∷ []);
        state = handed_out from c.transport c.job c.place c.entry;
        buffer = [];
      } ≡ after_pick w now)

  plain_chosen : preemptor_of w now t y ≡ 0 → Handed (chosen_on w now t y) w
  unfolding picked_from preemptor_at
  plain_chosen z =
      rw z (
        may_hand_out w t y (next_place w y) (next_entry w y) shaped whole lane.below cur.present
            (next_can w t y shaped whole cur.present cur.transport cur.eligible),
        plain_reply w now t y (some_found w now c e) refl refl z,
      )

  -- who preempts, by the link that the rules give
  none_is : c.preemptor ≡ None → preemptor_of w now t y ≡ 0
  unfolding preemptor_at
  none_is h =
      let z : preemptor_at w (preemptor_of w now t y) ≡ None = sym (ap (λ c. c.preemptor) (chosen_is w now c e)) ∙ h in
      link_cases (λ k. preemptor_of w now t y ≡ k → preemptor_of w now t y ≡ 0) (preemptor_of w now t y) (λ n. n) (λ x r n. let q = rw n at z in absurd cc) refl

  pub pick_plain : c.preemptor ≡ None → Handed c w
  pick_plain h = subst (λ c. Handed c w) (sym (chosen_is w now c e)) (plain_chosen (none_is h))

  abbrev Moved : Choice → Preemptor → Type 0
  Moved c p =
      MayPreempt w c.transport p.job c.current p.waiting
      × Handed c (preempting w c.transport p.job c.current p.waiting)

  moved_chosen : (x : ℕ) → preemptor_of w now t y ≡ suc x → Moved (chosen_on w now t y) (record { job = x; waiting = waiting_of w x })
  unfolding picked_from preemptor_at
  moved_chosen x z =
      let p = preemptor_found w now t y x shaped whole lane.below cur z in
      let kept = kept_preempting w now t y x shaped whole lane.below cur p in
      let m : State = preempting w t x y (waiting_of w x) in
      let there : is_present m x ≡ true = unfold preempting in p.present in
      let home : at m.jobs.transport x ≡ t = unfold preempting in p.transport in
      let can : CanHandOut m t x (next_place w x) (next_entry w x) =
      subst (λ k. CanHandOut m t x k (next_entry w x)) (preempting_place w t x y (waiting_of w x) x)
      (subst (λ k. CanHandOut m t x (next_place m x) k) (preempting_entry w t x y (waiting_of w x) x)
      (next_can m t x kept.0 kept.1 there home (preempting_eligible w t x y (waiting_of w x) x ∙ p.eligible))) in
      rw z (
        may_preempt w now t y x shaped whole lane.below cur p,
        (
          may_hand_out m t x (next_place w x) (next_entry w x) kept.0 kept.1 (unfold preempting in lane.below) there can,
          moved_reply w now t y x (some_found w now c e) refl refl z,
        ),
      )

  pub pick_moved : (p : Preemptor) → c.preemptor ≡ Some p → Moved c p
  unfolding preemptor_at
  pick_moved p h =
      let q = chosen_is w now c e in
      let z : preemptor_at w (preemptor_of w now t y) ≡ Some p = sym (ap (λ c. c.preemptor) q) ∙ h in
      link_cases (λ k. preemptor_of w now t y ≡ k → Moved c p) (preemptor_of w now t y)
      (λ n. let r = rw n at z in absurd cc)
      (λ x r n.
      let own = some_same (record { job = x; waiting = waiting_of w x }) p (rw n at z) in
      subst (Moved c) own (subst (λ c. Moved c (record { job = x; waiting = waiting_of w x })) (sym q) (moved_chosen x n)))
      refl

-- The same of the state w that the code has woken.

module _ (s : State) (now : ℕ) (r : Ready s now) (w : State) (p : w ≡ woken s now) where
  pub own_shape : Shaped w
  own_shape = subst Shaped (sym p) r.shaped

  pub own_sound : Sound w
  own_sound = subst Sound (sym p) r.whole

  after_is : after_pick w now ≡ after_pick (woken s now) now
  after_is = ap (λ w. after_pick w now) p

  pub gives_nothing : None ≡ choice_of w now → record { says = granted (0 ∷ []); state = w; buffer = [] } ≡ after_pick (woken s now) now
  gives_nothing e = nothing_found w now e ∙ after_is

  module _ (c : Choice) (e : Some c ≡ choice_of w now) where
    pub may_hand_plain : c.preemptor ≡ None → MayHandOut w c.transport c.job c.place c.entry
    may_hand_plain z = (pick_plain w now c e own_shape own_sound z).0

    pub gives_plain : (out : State) → c.preemptor ≡ None → out ≡ handed_out w c.transport c.job c.place c.entry
        → record { says = granted (c.job ∷ c.entry ∷ w.ticket ∷ c.passed ∷ []); state = out; buffer = [] } ≡ after_pick (woken s now) now
    gives_plain out z q = rw q ((pick_plain w now c e own_shape own_sound z).1 ∙ after_is)

    module _ (who : Preemptor) (h : c.preemptor ≡ Some who) where
      pub may_move : MayPreempt w c.transport who.job c.current who.waiting
      may_move = (pick_moved w now c e own_shape own_sound who h).0

      pub may_hand_moved : (m : State) → m ≡ preempting w c.transport who.job c.current who.waiting → MayHandOut m c.transport c.job c.place c.entry
      may_hand_moved m q = rw q (pick_moved w now c e own_shape own_sound who h).1.0

      pub gives_moved : (m out : State) → m ≡ preempting w c.transport who.job c.current who.waiting
          → out ≡ handed_out m c.transport c.job c.place c.entry
          → record { says = granted (c.job ∷ c.entry ∷ w.ticket ∷ c.passed ∷ []); state = out; buffer = [] } ≡ after_pick (woken s now) now
      gives_moved m out q z =
          rw (z ∙ ap (λ m. handed_out m c.transport c.job c.place c.entry) q) ((pick_moved w now c e own_shape own_sound who h).1.1 ∙ after_is)
