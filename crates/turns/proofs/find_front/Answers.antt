use Rattle.std.proofs.Common.{ℕ, ◌≡◌, ◌+◌, refl, sym, ap, ◌∙◌, Bool, true, false, ltb, get_or, arith, below_more, lt-ltb, le-ltb}
use native.Mathlib.Nat.{not-suc-le-zero}
use Rattle.laws.specs.Range.{count_to}
use Rattle.laws.proofs.Count.{count_hit, count_miss, count_le_bound}
use Rattle.rules.specs.State.{at}
use Rattle.eligibility.specs.Eligibility.{ready_in}
use Rattle.turns.proofs.Fronts.{front_found, front_ahead, front_none, ready_below}
use Rattle.turns.proofs.find_front.Goals as goal
use Rattle.turns.proofs.find_front.Goals.{else-tables-j-gt0, then-tables-j-gt0}

pub loop-job-init : goal.loop-job-init
unfolding count_to
loop-job-init c = (refl, λ k l. absurd (not-suc-le-zero l))

pub returns-then-is_ready : goal.returns-then-is_ready
returns-then-is_ready c =
    let jobs = c.args.jobs.now in
    let pairs = c.args.tables.pairs.now in
    let room = c.args.tables.room.now in
    let waits = c.args.tables.waits.now in
    let i = c.loop-job.job-index in
    let hit : get_or (ready_in pairs room) (at jobs i) false ≡ true =
    ap (λ z. get_or (ready_in pairs room) z false) (sym c.from-j.ensures) ∙ sym c.is_ready.ensures ∙ c.if-is_ready.true in (
      ready_below pairs room (at jobs i) hit,
      front_found (ready_in pairs room) waits jobs i c.loop-job-test.true hit c.loop-job.invariant.1,
      c.loop-job.invariant.0 ∙ front_ahead (ready_in pairs room) waits jobs i c.loop-job-test.true hit c.loop-job.invariant.1,
    )

pub overflow_add-passed : goal.overflow_add-passed
overflow_add-passed c =
    omega (arith, c.loop-job.invariant.0, count_le_bound (λ k. ltb 0 (at c.args.tables.waits.now (at c.args.jobs.now k))) c.loop-job.job-index)

pub loop-job-preserved : goal.loop-job-preserved
loop-job-preserved c =
    let jobs = c.args.jobs.now in
    let ready = ready_in c.args.tables.pairs.now c.args.tables.room.now in
    let waits = c.args.tables.waits.now in
    let i = c.loop-job.job-index in
    let p : ℕ → Bool = λ k. ltb 0 (at waits (at jobs k)) in
    let miss : get_or ready (at jobs i) false ≡ false =
    ap (λ z. get_or ready z false) (sym c.from-j.ensures) ∙ sym c.is_ready.ensures ∙ c.if-is_ready.false in
    let here : at waits c.from-j.result ≡ at waits (at jobs i) = ap (at waits) c.from-j.ensures in (
      elim c.if-tables-j-gt0.branch [
        | then-tables-j-gt0 w ↦ w.passed-is ∙ ap (λ x. x + 1) c.loop-job.invariant.0 ∙ sym (count_hit p i (lt-ltb 0 (at waits (at jobs i)) (omega (arith, w.if-tables-j-gt0.true, here))))
        | else-tables-j-gt0 w ↦ w.passed-is ∙ c.loop-job.invariant.0 ∙ sym (count_miss p i (le-ltb 0 (at waits (at jobs i)) (omega (arith, w.if-tables-j-gt0.false, here))))
      ],
      below_more (λ k. get_or ready (at jobs k) false ≡ false) i c.loop-job.invariant.1 miss,
    )

pub returns : goal.returns
returns c =
    front_none (ready_in c.args.tables.pairs.now c.args.tables.room.now) c.args.tables.waits.now c.args.jobs.now (λ k l. c.loop-job.invariant.1 k (omega (arith, c.loop-job-test.false, l)))
