-- `preemption::find_preemptor` meets its contract: each way out is a law of proofs/Preempts.antt. Assumes nothing.
use Rattle.std.proofs.Common.{Some, ◌≤◌, ◌<◌, ◌≡◌, sym, ap, ap₂, ◌∙◌, true, arith, rules}
use mir.Syntax.{w64}
use mir.Val.{to_z, of_z}
use mir.Facts.{to_z-of_z}
use Rattle.rules.specs.declared.State.{State}
use Rattle.rules.specs.State.{at, settings_of}
use Rattle.rules.specs.Preemption.{credit, has_credit, owned, best_candidate, pays_for}
use Rattle.rules.proofs.Preemptor.{credit_owned}
use Rattle.eligibility.specs.Eligibility.{ready_in, Reads}
use Rattle.searching.specs.Searching.{link_to}
use Rattle.preemption.proofs.Credits.{positive, sum_fits}
use Rattle.preemption.proofs.Preempts.{preempts_off, preempts_broke, preempts_short, preempts_none, preempts_unpaid, preempts_some, most_read}
use Rattle.preemption.proofs.find_preemptor.Goals as goal
use Rattle.preemption.proofs.find_preemptor.Goals.{After-best_candidate-found, After-owned_slots-slots, After-pays_for, After-slot_credit-a, Else-from-g}

-- the credit as the code holds it
z-is : (c : After-slot_credit-a) → to_z w64 (of_z w64 c.slot_credit-a.result) ≡ credit c.args.g.cost (at c.args.jobs.now.picked c.args.y) (at c.args.jobs.now.sold c.args.y)
z-is c =
    to_z-of_z {w = w64} (record { sfits = c.slot_credit-a.type_inv })
    ∙ c.slot_credit-a.ensures
    ∙ ap₂ (credit c.args.g.cost) (ap (at c.args.jobs.now.picked) c.from-current.ensures) (ap (at c.args.jobs.now.sold) c.from-current.ensures)

-- at least 1, and small
has-it : (c : Else-from-g) → has_credit (to_z w64 (of_z w64 c.slot_credit-a.result)) ≡ true
has-it c = sym c.has_credit.ensures ∙ c.if-not-has_credit.false

slots_small : (c : After-owned_slots-slots) → c.owned_slots-slots.result ≤ 65536
slots_small c =
    let z = z-is (goal.at.After-owned_slots-slots c).After-slot_credit-a in
    let o = (credit_owned c.args.g.cost (at c.args.jobs.now.picked c.args.y) (at c.args.jobs.now.sold c.args.y) (sym (ap has_credit z) ∙ has-it (goal.at.After-owned_slots-slots c).Else-from-g)).1 in
    let few : at c.args.jobs.now.picked c.args.y < 65536 = search rules in
    omega (arith, c.owned_slots-slots.ensures ∙ ap owned z ∙ o)

best-read : (c : After-best_candidate-found) (s : State) → s.jobs ≡ c.args.jobs.now → s.arrivals ≡ c.args.arrivals.now → settings_of s c.args.t ≡ c.args.g
    → Reads s c.args.tables.waits.now (ready_in c.args.tables.pairs.now c.args.tables.room.now)
    → link_to c.best_candidate-found.result.job ≡ best_candidate s c.args.time c.args.t c.args.y
best-read c s j a g r =
    let x = c.args in
    (c.best_candidate-found.ensures.found s j a r
    (most_read s x.jobs.now x.g x.tables.waits.now (ready_in x.tables.pairs.now x.tables.room.now) x.time x.t x.y j g r (to_z w64 (of_z w64 c.slot_credit-a.result)) (z-is (goal.at.After-best_candidate-found c).After-slot_credit-a)
    c.from-2.result c.owned_slots-slots.result (c.from-2.ensures ∙ ap (at x.tables.waits.now) c.from-current.ensures)
    (omega (arith, c.requires.slots.0)) c.owned_slots-slots.ensures)
    ).0

pays-read : (c : After-pays_for) → c.pays_for.result ≡ pays_for c.args.g (owned (to_z w64 (of_z w64 c.slot_credit-a.result))) (at c.args.tables.waits.now c.in_ok-job.job)
pays-read c = c.pays_for.ensures ∙ ap₂ (pays_for c.args.g) c.owned_slots-slots.ensures (c.from-4.ensures ∙ ap (at c.args.tables.waits.now) c.from-3.ensures)

pub returns-then-g-eq0-clause-preempts : goal.returns-then-g-eq0-clause-preempts
returns-then-g-eq0-clause-preempts c =
    let x = c.args in
    λ s j a g r. preempts_off s x.jobs.now x.g x.tables.waits.now (ready_in x.tables.pairs.now x.tables.room.now) x.time x.t x.y j g r c.if-g-eq0.true

pub returns-then-not-has_credit-clause-preempts : goal.returns-then-not-has_credit-clause-preempts
returns-then-not-has_credit-clause-preempts c =
    let x = c.args in
    λ s j a g r. preempts_broke s x.jobs.now x.g x.tables.waits.now (ready_in x.tables.pairs.now x.tables.room.now) x.time x.t x.y j g r
    _ (z-is (goal.at.returns-then-not-has_credit-clause-preempts c).After-slot_credit-a) (sym c.has_credit.ensures ∙ c.if-not-has_credit.true)

pub returns-then-from-g-clause-preempts : goal.returns-then-from-g-clause-preempts
returns-then-from-g-clause-preempts c =
    let x = c.args in
    let e : c.from.result ≡ at x.jobs.now.n x.y = c.from.ensures ∙ ap (at x.jobs.now.n) c.from-current.ensures in
    λ s j a g r. preempts_short s x.jobs.now x.g x.tables.waits.now (ready_in x.tables.pairs.now x.tables.room.now) x.time x.t x.y j g r
    (rw (← e) c.if-from-g.true)

pub overflow_add-most : goal.overflow_add-most
overflow_add-most c = sum_fits c.from-2.result c.owned_slots-slots.result (search rules) (slots_small (goal.at.overflow_add-most c).After-owned_slots-slots)

pub returns-in_err-job-clause-preempts : goal.returns-in_err-job-clause-preempts
returns-in_err-job-clause-preempts c =
    let x = c.args in
    λ s j a g r. c.from_residual.ensures ∙ preempts_none s x.jobs.now x.g x.tables.waits.now (ready_in x.tables.pairs.now x.tables.room.now) x.time x.t x.y j g r
    (link_to c.best_candidate-found.result.job) (best-read (goal.at.returns-in_err-job-clause-preempts c).After-best_candidate-found s j a g r) (ap link_to c.in_err-job.was)

pub pays_for-requires : goal.pays_for-requires
pays_for-requires c =
    (positive c.args.g.cost c.if-g-eq0.false, c.requires.slots.3, c.requires.slots.4, slots_small (goal.at.pays_for-requires c).After-owned_slots-slots, search rules)

pub returns-then-not-pays_for-clause-preempts : goal.returns-then-not-pays_for-clause-preempts
returns-then-not-pays_for-clause-preempts c =
    let x = c.args in
    let here = goal.at.returns-then-not-pays_for-clause-preempts c in
    λ s j a g r. preempts_unpaid s x.jobs.now x.g x.tables.waits.now (ready_in x.tables.pairs.now x.tables.room.now) x.time x.t x.y j g r _ (z-is here.After-slot_credit-a)
    (link_to c.best_candidate-found.result.job) c.in_ok-job.job (best-read here.After-best_candidate-found s j a g r) (ap link_to c.in_ok-job.was) (omega (arith, rw c.in_ok-job.was at c.best_candidate-found.ensures.below))
    (sym (pays-read here.After-pays_for) ∙ c.if-not-pays_for.true)

pub returns-clause-preempts : goal.returns-clause-preempts
returns-clause-preempts c =
    let x = c.args in
    let here = goal.at.returns-clause-preempts c in
    let e : c.from.result ≡ at x.jobs.now.n x.y = c.from.ensures ∙ ap (at x.jobs.now.n) c.from-current.ensures in
    λ s j a g r. ap (λ k. Some (record { job = c.in_ok-job.job; waiting = at x.tables.waits.now k })) c.from-3.ensures ∙ preempts_some s x.jobs.now x.g x.tables.waits.now (ready_in x.tables.pairs.now x.tables.room.now) x.time x.t x.y j g r c.if-g-eq0.false _ (z-is here.After-slot_credit-a)
    (has-it here.Else-from-g) (rw (← e) c.if-from-g.false)
    (link_to c.best_candidate-found.result.job) c.in_ok-job.job (best-read here.After-best_candidate-found s j a g r) (ap link_to c.in_ok-job.was) (omega (arith, rw c.in_ok-job.was at c.best_candidate-found.ensures.below))
    (sym (pays-read here.After-pays_for) ∙ c.if-not-pays_for.false)
