use Rattle.std.proofs.Common.{ℕ, ◌≡◌, ◌+◌, ◌*◌, ◌%◌, ◌<◌, sym, ap, ap₂, ◌∙◌, Bool, arith, below_more}
use Rattle.rules.specs.State.{at}
use Rattle.eligibility.specs.Eligibility.{open_place}
use Rattle.turns.proofs.Fronts.{steps_at, steps_none}
use Rattle.turns.proofs.next_place.Goals as goal
use Rattle.turns.proofs.next_place.Goals.{After-open_to}

-- the place of a step, and what its test says
place_is : (c : After-open_to) → (c.from-start.result + c.loop-step.step) % c.from-n.result ≡ (at c.args.jobs.now.turn c.args.j + c.loop-step.step) % at c.args.jobs.now.places c.args.j
place_is c = ap₂ ◌%◌ (ap (λ z. z + c.loop-step.step) (c.from-start.ensures ∙ ap (at c.args.jobs.now.turn) c.from-job.ensures)) (c.from-n.ensures ∙ ap (at c.args.jobs.now.places) c.from-job.ensures)

step_is : (c : After-open_to)
    → open_place c.args.jobs.now.order c.args.tables.pairs.now c.args.tables.room.now c.args.j ((at c.args.jobs.now.turn c.args.j + c.loop-step.step) % at c.args.jobs.now.places c.args.j) ≡ c.open_to.result
unfolding open_place
step_is c = rw (← place_is c, ← c.from-job.ensures) (sym c.open_to.ensures)

pub returns-then-open_to : goal.returns-then-open_to
returns-then-open_to c =
    let jobs = c.args.jobs.now in
    let p : ℕ → Bool = open_place jobs.order c.args.tables.pairs.now c.args.tables.room.now c.args.j in
    let n = at jobs.places c.args.j in
    let start = at jobs.turn c.args.j in
    let here = (goal.at.returns-then-open_to c).After-open_to in
    let inside : c.loop-step.step < n = omega (arith, c.from-n.ensures, ap (at jobs.places) c.from-job.ensures) in
    let e = steps_at p n start c.loop-step.step inside (step_is here ∙ c.if-open_to.true) c.loop-step.invariant in
    record {
      finds = rw e inside;
      turn = place_is here ∙ ap (λ z. (start + z) % n) (sym e);
      taken = ap (λ j. at jobs.order (32 * j + (c.from-start.result + c.loop-step.step) % c.from-n.result)) c.from-job.ensures;
    }

pub loop-step-preserved : goal.loop-step-preserved
loop-step-preserved c = below_more _ _ c.loop-step.invariant (step_is (goal.at.loop-step-preserved c).After-open_to ∙ c.if-open_to.false)

pub returns : goal.returns
returns c =
    let end : c.from-n.result ≡ at c.args.jobs.now.places c.args.j = c.from-n.ensures ∙ ap (at c.args.jobs.now.places) c.from-job.ensures in
    steps_none (open_place c.args.jobs.now.order c.args.tables.pairs.now c.args.tables.room.now c.args.j) (at c.args.jobs.now.places c.args.j) (at c.args.jobs.now.turn c.args.j)
    (λ k m. c.loop-step.invariant k (omega (arith, m, end)))
