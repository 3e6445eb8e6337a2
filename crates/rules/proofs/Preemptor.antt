-- What holds of a job x that preempts the current job y.
use Prim.Native.Nat.{ℕ, zero, suc, ◌+◌, ◌-◌, ◌*◌, ◌≤◌, ◌<◌}
use mathlib.Core.Bool.{true, false, not}
use mathlib.Core.Path.{◌≡◌, refl, sym, ◌∙◌, subst}
use mathlib.Core.Logic.{◌≢◌, ⊎_elim}
use native.Mathlib.Nat.{le-div_iff_mul-le, mul_comm}
use native.Mathlib.Omega.{arith}
use lib.ListN.{length}
use lib.IntN.{pos, ◌-ℤ◌}
use lib.Dec.{eqb, ltb}
use borrow.Author.Tests.{eqb-false, leb-true, not-true}
use Rattle.laws.specs.Sequence.{holds}
use Rattle.laws.specs.Order.{Before}
use Rattle.laws.proofs.Bools.{true_not_false, case_bool, if_true, if_false}
use Rattle.laws.proofs.Sequence.{holds_get_or}
use Rattle.laws.proofs.Order.{before_total, before_up_to}
use Rattle.laws.proofs.Once.{once_facts, once_le}
use Rattle.laws.proofs.Joined.{and_4}
use Rattle.rules.specs.declared.State.{State}
use Rattle.rules.specs.Sizes.{max_jobs}
use Rattle.rules.specs.State.{at, settings_of, list_of, queue_of, is_present, has_preempted, waiting_of}
use Rattle.rules.specs.SoundFacts.{Sound}
use Rattle.rules.specs.Picking.{has_eligible}
use Rattle.rules.specs.Preemption.{credit, has_credit, owned, credit_of, affordable, can_pay_for, is_candidate, best_candidate, pays_for_best}
use Rattle.rules.specs.Preemption.{long_enough, is_preempted, preemptor_of}
use Rattle.rules.proofs.Shape.{Shaped}
use Rattle.rules.proofs.RangeFacts.{slots_range}
use Rattle.rules.proofs.EntryFacts.{has_eligible_waits}
use Rattle.rules.proofs.Picked.{Current}
use Rattle.rules.proofs.Candidates.{candidate_facts, Best, best_some}
use Rattle.rules.proofs.ListFacts.{queue_holds, queue_once}

-- Credit as plain numbers.

-- a credit of at least 1 is a difference of two numbers
credit_difference : (s k : ℕ) → has_credit (pos s -ℤ pos k) ≡ true → (k < s) × (owned (pos s -ℤ pos k) ≡ s - k)
unfolding has_credit owned
credit_difference s zero h = let l = leb-true 1 (s + 0) h in (omega arith, omega arith)
credit_difference s (suc k) h =
    case_bool (ltb s (suc k))
    (λ t. true_not_false h (rw t refl))
    (λ f. let l = leb-true 1 (s - suc k) (rw f at h) in (omega arith, rw f refl))

pub credit_owned : (c s q : ℕ) → has_credit (credit c s q) ≡ true → (c * q < s) × (owned (credit c s q) ≡ s - c * q)
unfolding credit
credit_owned c s q h = credit_difference s (c * q) h

-- all that is sold, and m more, is paid by what was picked and what waits
afforded : (s : State) (t y x : ℕ) → 0 < (settings_of s t).cost → has_credit (credit_of s t y) ≡ true → can_pay_for s t y x ≡ true
    → (settings_of s t).cost * (at s.jobs.sold y + waiting_of s x) ≤ at s.jobs.picked y + waiting_of s y
unfolding affordable
afforded s t y x some h e =
    let o = credit_owned (settings_of s t).cost (at s.jobs.picked y) (at s.jobs.sold y) h in
    let l = (le-div_iff_mul-le {k = (settings_of s t).cost} {x = waiting_of s x} {y = _} some).0 (leb-true _ _ e) in
    omega (arith, mul_comm (waiting_of s x) (settings_of s t).cost)

pub record Preempts (w : State) (now t y x : ℕ) : Type 0 where
  pub best : Best w now t y (length (list_of w.arrivals)) x
  pub candidate : is_candidate w t y x ≡ true
  pub arrived : holds x (list_of w.arrivals) ≡ true
  pub present : is_present w x ≡ true
  pub below : x < max_jobs
  pub other : x ≢ y
  pub transport : at w.jobs.transport x ≡ t
  pub unpicked : at w.jobs.picked x ≡ 0
  pub unmarked : has_preempted w x ≡ false
  pub eligible : has_eligible w x ≡ true
  pub waits : 1 ≤ waiting_of w x
  pub cost : 2 ≤ (settings_of w t).cost
  pub long : (settings_of w t).minimum * (settings_of w t).cost ≤ at w.jobs.n y
  pub credit : (settings_of w t).cost * at w.jobs.sold y < at w.jobs.picked y
  pub picked : 1 ≤ at w.jobs.picked y
  pub pays : (settings_of w t).cost * (at w.jobs.sold y + waiting_of w x) ≤ at w.jobs.picked y + waiting_of w y
  pub behind : Before y x (queue_of w t)

-- a link to a preemptor is one to the best candidate, where all is met
preemptor_is : (w : State) (now t y x : ℕ) → preemptor_of w now t y ≡ suc x → (is_preempted w now t y ≡ true) × (best_candidate w now t y ≡ suc x)
unfolding preemptor_of
preemptor_is w now t y x e =
    case_bool (is_preempted w now t y)
    (λ h. (h, sym (if_true (best_candidate w now t y) 0 h) ∙ e))
    (λ f. absurd (let z = if_false (best_candidate w now t y) 0 f in omega arith))

preempted_facts : (w : State) (now t y : ℕ) → is_preempted w now t y ≡ true
    → ((settings_of w t).cost ≢ 0) × (has_credit (credit_of w t y) ≡ true) × ((settings_of w t).minimum * (settings_of w t).cost ≤ at w.jobs.n y) × (pays_for_best w t y (best_candidate w now t y) ≡ true)
unfolding is_preempted long_enough
preempted_facts w now t y h =
    let c = (settings_of w t).cost in
    let r = and_4 (not (eqb c 0)) (has_credit (credit_of w t y)) (long_enough (settings_of w t) (at w.jobs.n y)) (pays_for_best w t y (best_candidate w now t y)) h in
    (eqb-false c 0 (not-true (eqb c 0) r.0), r.1, leb-true ((settings_of w t).minimum * c) (at w.jobs.n y) r.2, r.3)

-- with an eligible entry, another job stands behind the current one
stands_behind : (w : State) (t y x : ℕ) → Shaped w → Sound w → t < w.setup.transports → Current w t y
    → x ≢ y → is_present w x ≡ true → at w.jobs.transport x ≡ t → has_eligible w x ≡ true → Before y x (queue_of w t)
stands_behind w t y x shape h l cur ne p on el =
    ⊎_elim (λ b. b)
    (λ b. true_not_false el (cur.first x (before_up_to x y (queue_of w t) (once_le (queue_once w t h l) y) b)))
    (before_total y x (queue_of w t) (λ e. ne (sym e)) cur.inside (queue_holds w t x shape h l p on))

pub preemptor_found : (w : State) (now t y x : ℕ) → Shaped w → Sound w → t < w.setup.transports → Current w t y → preemptor_of w now t y ≡ suc x → Preempts w now t y x
preemptor_found w now t y x shape h l cur e =
    let p = preemptor_is w now t y x e in
    let b = best_some w now t y x p.1 in
    let f = preempted_facts w now t y p.0 in
    let c = candidate_facts w t y x b.candidate in
    let here : holds x (list_of w.arrivals) ≡ true = subst (λ z. holds z (list_of w.arrivals) ≡ true) b.stands (holds_get_or (list_of w.arrivals) b.rank 0 b.below) in
    let once = once_facts (is_present w) max_jobs (list_of w.arrivals) h.arrivals.once in
    let range = (slots_range (settings_of w t) (h.setup.settings t l)).cost in
    let cost : 2 ≤ (settings_of w t).cost = ⊎_elim (λ z. absurd (f.0 z)) (λ z. z) range in
    let o = credit_owned (settings_of w t).cost (at w.jobs.picked y) (at w.jobs.sold y) f.1 in
    record {
      best = b;
      candidate = b.candidate;
      arrived = here;
      present = once.passes x here;
      below = once.below x here;
      other = c.other;
      transport = c.transport;
      unpicked = c.unpicked;
      unmarked = c.unmarked;
      eligible = c.eligible;
      waits = has_eligible_waits w x c.eligible;
      cost = cost;
      long = f.2;
      credit = o.0;
      picked = omega (arith, o.0);
      pays = afforded w t y x (omega arith) f.1 c.affordable;
      behind = stands_behind w t y x shape h l cur c.other (once.passes x here) c.transport c.eligible;
    }
