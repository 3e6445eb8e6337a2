use Rattle.std.proofs.Common.{ℕ, suc, ◌≡◌, ◌+◌, ◌-◌, ◌*◌, ◌≤◌, ◌<◌, refl, sym, ap, ◌∙◌, rules, Bool, true, false, not, ◌&&◌, eqb, leb, ltb, length, get_or, arith}
use lib.Seq.{get_or-take, length-take-le}
use Rattle.laws.proofs.Bools.{and_both, and_left_false, and_right_false}
use Rattle.rules.specs.State.{at}
use Rattle.eligibility.specs.Eligibility.{ready_in}
use Rattle.searching.specs.Searching.{link_to}
use Rattle.searching.proofs.Sizes.{age_is, age_small}
use Rattle.searching.proofs.Scores.{able_at, tests_read}
use Rattle.searching.proofs.Searches.{SearchedTo, search_begins, search_is, link_below, search_done, passed_by, search_stops, search_keeps, search_leads}
use Rattle.searching.proofs.best_candidate.Goals as goal
use Rattle.searching.proofs.best_candidate.Goals.{After-numbers-order, After-from-k}
use Rattle.searching.proofs.best_candidate.Goals.{then-jobs-k+else-not_above+then-candidate+then-greater+then-is_ready, then-jobs-k+else-not_above+else-candidate, else-candidate-via-then-candidate+then-greater+else-is_ready, else-candidate-via-then-candidate+else-greater, else-candidate-via-else-candidate, else-jobs-k}

-- the walk goes over the whole list
ranks : (c : After-numbers-order) → length c.numbers-order.result.now ≡ c.args.arrivals.now.count
ranks c = ap length c.numbers-order.ensures ∙ length-take-le c.args.arrivals.now.count c.args.arrivals.now.jobs (omega (arith, c.requires.1, c.requires.2))

-- the job at a rank of the list
pub record Here (c : After-from-k) : Type 0 where
  rank : c.loop-x.x-index < c.args.arrivals.now.count
  is : get_or c.numbers-order.result.now c.loop-x.x-index 0 ≡ at c.args.arrivals.now.jobs c.loop-x.x-index
  below : get_or c.numbers-order.result.now c.loop-x.x-index 0 < 32
  came : at c.args.jobs.now.arrival (get_or c.numbers-order.result.now c.loop-x.x-index 0) ≤ c.args.time

here : (c : After-from-k) → Here c
here c =
    let l : c.loop-x.x-index < c.args.arrivals.now.count = omega (arith, ranks (goal.at.After-from-k c).After-numbers-order) in
    let e : get_or c.numbers-order.result.now c.loop-x.x-index 0 ≡ at c.args.arrivals.now.jobs c.loop-x.x-index =
    ap (λ o. get_or o c.loop-x.x-index 0) c.numbers-order.ensures ∙ get_or-take c.args.arrivals.now.count c.args.arrivals.now.jobs c.loop-x.x-index 0 l in
    let p = c.requires.3.1 c.loop-x.x-index l in
    record { rank = l; is = e; below = omega (arith, p.0, e); came = rw e p.1 }

-- What is known of a job of the transport, by its second and what waits of it: the search stops there, or leaves the best as it is, or the job leads.
module _ (c : After-from-k) (second : ℕ) (arrived : second ≡ at c.args.jobs.now.arrival c.from-k.result) (on : at c.args.jobs.now.transport c.from-k.result ≡ c.args.t)
    (above : Bool) (aboves : above ≡ leb ((c.args.time + 1 - second) * c.loop-x.of) c.loop-x.than)
  where
    abbrev x : ℕ
    x = get_or c.numbers-order.result.now c.loop-x.x-index 0

    abbrev age : ℕ
    age = c.args.time + 1 - second

    seen : second ≡ at c.args.jobs.now.arrival x
    seen = arrived ∙ ap (at c.args.jobs.now.arrival) c.from-k.ensures

    theirs : at c.args.jobs.now.transport x ≡ c.args.t
    theirs = sym (ap (at c.args.jobs.now.transport) c.from-k.ensures) ∙ on

    waited : age ≡ c.args.time - at c.args.jobs.now.arrival x + 1
    waited = ap (λ z. c.args.time + 1 - z) seen ∙ age_is c.args.time (at c.args.jobs.now.arrival x) (here c).came

    -- what is asked of it before it is looked at, and before it leads
    module _ (goes : above ≡ false) (m : ℕ) (is : m ≡ at c.args.tables.waits.now c.from-k.result) (size : m < 65536) (able ahead : Bool)
        (ables : able ≡ (not (eqb (get_or c.numbers-order.result.now c.loop-x.x-index 0) c.args.y) && eqb (at c.args.jobs.now.picked c.from-k.result) 0
        && not (get_or c.args.jobs.now.preempted c.from-k.result false) && leb m c.args.most))
        (aheads : ahead ≡ ltb (c.loop-x.than * m) ((c.args.time + 1 - second) * c.loop-x.of))
      where
        abbrev ready : Bool
        ready = get_or (ready_in c.args.tables.pairs.now c.args.tables.room.now) c.from-k.result false

        counted : m ≡ at c.args.tables.waits.now x
        counted = is ∙ ap (at c.args.tables.waits.now) c.from-k.ensures

        tests : (able && ahead) && ready ≡ (able_at c.args.jobs.now c.args.tables.waits.now c.args.y c.args.most x && ahead) && get_or (ready_in c.args.tables.pairs.now c.args.tables.room.now) x false
        tests = tests_read c.args.jobs.now c.args.tables.waits.now (ready_in c.args.tables.pairs.now c.args.tables.room.now) c.args.y c.args.most x c.from-k.result m able ahead c.from-k.ensures is ables

        leads : (able && ahead) && ready ≡ true
            → SearchedTo c.args.jobs.now c.args.arrivals.now c.args.tables.waits.now (ready_in c.args.tables.pairs.now c.args.tables.room.now) c.args.time c.args.t c.args.y c.args.most
            (suc (get_or c.numbers-order.result.now c.loop-x.x-index 0)) (c.args.time + 1 - second) m (c.loop-x.best.looked + 1) (c.loop-x.x-index + 1)
        leads h =
            let at_rank = here c in
            search_leads c.loop-x.invariant at_rank.rank x at_rank.is at_rank.below theirs age waited (sym aboves ∙ goes) ahead
            (aheads ∙ ap (λ z. ltb (c.loop-x.than * z) (age * c.loop-x.of)) counted) (sym tests ∙ h) m counted size (age_small c.args.time second c.requires.0)

        keeps : (able && ahead) && ready ≡ false
            → SearchedTo c.args.jobs.now c.args.arrivals.now c.args.tables.waits.now (ready_in c.args.tables.pairs.now c.args.tables.room.now) c.args.time c.args.t c.args.y c.args.most
            (link_to c.loop-x.best.job) c.loop-x.than c.loop-x.of (c.loop-x.best.looked + 1) (c.loop-x.x-index + 1)
        keeps h =
            let at_rank = here c in
            search_keeps c.loop-x.invariant at_rank.rank x at_rank.is at_rank.below theirs age waited (sym aboves ∙ goes) ahead
            (aheads ∙ ap (λ z. ltb (c.loop-x.than * z) (age * c.loop-x.of)) counted) (sym tests ∙ h)

pub loop-x-init : goal.loop-x-init
loop-x-init c = search_begins _ _ _ _ _ _ _ _

pub returns-then-not_above-clause-below : goal.returns-then-not_above-clause-below
returns-then-not_above-clause-below c = link_below c.loop-x.invariant

pub returns-then-not_above-clause-found : goal.returns-then-not_above-clause-found
returns-then-not_above-clause-found c =
    let now = (goal.at.returns-then-not_above-clause-found c).After-from-k in
    let at_rank = here now in
    λ s j l q m.
    search_stops c.loop-x.invariant at_rank.rank _ at_rank.is at_rank.below (theirs now _ c.from.ensures c.if-jobs-k.true _ c.not_above.ensures) _
    (waited now _ c.from.ensures c.if-jobs-k.true _ c.not_above.ensures) (sym c.not_above.ensures ∙ c.if-not_above.true)
    c.requires.1 c.requires.2 c.requires.3.0 s (record { jobs' = j; arrivals' = l; reads = q; most' = m })

pub loop-x-preserved : goal.loop-x-preserved
loop-x-preserved c =
    let now = c.if-jobs-k in
    let i = (goal.at.loop-x-preserved c).After-from-k in
    elim c.if-jobs-k.branch [
      | then-jobs-k+else-not_above+then-candidate+then-greater+then-is_ready w ↦
          let led = and_both (and_both w.if-candidate.true w.if-greater.true) (sym w.is_ready.ensures ∙ w.if-is_ready.true) in
          search_is
          (leads i _ w.from.ensures w.if-jobs-k.true _ w.not_above.ensures w.if-not_above.false _ w.from-m.ensures (search rules) _ _ w.candidate.ensures w.greater.ensures led)
          (link_to now.best.job) now.than now.of now.best.looked (ap (λ b. link_to b.job) w.best-is) w.than-is w.of-is (ap (λ b. b.looked) w.best-is)
      | then-jobs-k+else-not_above+else-candidate w ↦
          let kept = keeps i _ w.from.ensures w.if-jobs-k.true _ w.not_above.ensures w.if-not_above.false _ w.from-m.ensures (search rules) _ in
          search_is
          (elim w.else-candidate.branch [
            | else-candidate-via-then-candidate+then-greater+else-is_ready v ↦
                kept _ w.candidate.ensures v.greater.ensures (and_right_false _ (sym v.is_ready.ensures ∙ v.if-is_ready.false))
            | else-candidate-via-then-candidate+else-greater v ↦ kept _ w.candidate.ensures v.greater.ensures (and_left_false _ (and_right_false _ v.if-greater.false))
            | else-candidate-via-else-candidate v ↦ kept _ w.candidate.ensures refl (and_left_false _ (and_left_false _ v.if-candidate.false))
          ])
          (link_to now.best.job) now.than now.of now.best.looked (ap (λ b. link_to b.job) w.best-is) w.than-is w.of-is (ap (λ b. b.looked) w.best-is)
      | else-jobs-k w ↦
          search_is
          (passed_by c.loop-x.invariant (here i).rank _ (here i).is (here i).below (λ e. w.if-jobs-k.false (ap (at c.args.jobs.now.transport) c.from-k.ensures ∙ e)))
          (link_to now.best.job) now.than now.of now.best.looked (ap (λ b. link_to b.job) w.best-is) w.than-is w.of-is (ap (λ b. b.looked) w.best-is)
    ]

pub returns-clause-below : goal.returns-clause-below
returns-clause-below c = link_below c.loop-x.invariant

pub returns-clause-found : goal.returns-clause-found
returns-clause-found c = λ s j l q m.
    let end : c.loop-x.x-index ≡ c.args.arrivals.now.count = omega (arith, ranks (goal.at.returns-clause-found c).After-numbers-order, c.loop-x.invariant.bound) in
    search_done c.loop-x.invariant end c.requires.1 c.requires.2 s (record { jobs' = j; arrivals' = l; reads = q; most' = m })
