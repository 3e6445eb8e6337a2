use Rattle.std.proofs.Common.{◌≡◌, ◌+◌, ◌%◌, ◌<◌, [], sym, ap, ◌∙◌, ltb, get_or, arith, below_more, lt-ltb}
use native.Mathlib.Nat.{mod-lt}
use Rattle.laws.proofs.Places.{get_d_default}
use Rattle.rules.specs.State.{zero_list, list_of}
use Rattle.eligibility.specs.Eligibility.{ready_in}
use Rattle.turns.specs.Turns.{front_of, ahead_of, has_front, front_steps}
use Rattle.turns.proofs.Fronts.{steps_at, steps_none}
use Rattle.turns.proofs.next_transport.Goals as goal
use Rattle.turns.proofs.next_transport.Goals.{After-numbers}

-- the list that is looked at, whatever stands past the four
list_is : (c : After-numbers) → c.numbers.result.now ≡ list_of (get_or c.args.queues ((c.args.start + c.loop-i.i) % c.args.transports) zero_list)
list_is c =
    let below : (c.args.start + c.loop-i.i) % c.args.transports < c.args.transports = mod-lt (c.args.start + c.loop-i.i) (omega (arith, c.loop-i-test.true)) in
    c.numbers.ensures
    ∙ ap (λ s. list_of (get_or c.args.queues ((s + c.loop-i.i) % c.args.transports) (record { jobs = []; count = 0 }))) c.from.ensures
    ∙ ap list_of
    (get_d_default c.args.queues ((c.args.start + c.loop-i.i) % c.args.transports) (record { jobs = []; count = 0 }) zero_list (omega (arith, below, c.requires.1, c.requires.3)))

pub returns-in-Some : goal.returns-in-Some
unfolding front_steps has_front
returns-in-Some c =
    let ready = ready_in c.args.tables.pairs.now c.args.tables.room.now in
    let queues = c.args.queues in
    let n = c.args.transports in
    let start = c.args.start in
    let list = list_is (goal.at.returns-in-Some c).After-numbers in
    let front : c.in-Some.field-0.job ≡ front_of ready (list_of (get_or queues ((start + c.loop-i.i) % n) zero_list)) =
    c.in-Some.ensures.1 ∙ ap (front_of ready) list in
    let e =
    steps_at (has_front ready queues) n start c.loop-i.i c.loop-i-test.true
    (ap (λ z. ltb z 32) (sym front) ∙ lt-ltb _ 32 c.in-Some.ensures.0) c.loop-i.invariant in
    rw c.from.ensures
    (record {
      finds = rw e c.loop-i-test.true;
      on = ap (λ z. (start + z) % n) (sym e);
      current = front;
      ahead = c.in-Some.ensures.2 ∙ ap (λ l. ahead_of c.args.tables.waits.now l c.in-Some.field-0.job) list;
    })

pub loop-i-preserved : goal.loop-i-preserved
unfolding has_front
loop-i-preserved c =
    let ready = ready_in c.args.tables.pairs.now c.args.tables.room.now in
    below_more _ _ c.loop-i.invariant
    (ap (λ z. ltb z 32) (sym (ap (front_of ready) (list_is (goal.at.loop-i-preserved c).After-numbers)) ∙ c.in_default.ensures))

pub returns : goal.returns
unfolding front_steps
returns c = steps_none (has_front (ready_in c.args.tables.pairs.now c.args.tables.room.now) c.args.queues) c.args.transports c.args.start (λ k m. c.loop-i.invariant k (omega (arith, m)))
