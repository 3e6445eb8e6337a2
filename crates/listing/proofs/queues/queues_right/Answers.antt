use Rattle.std.proofs.Common.{◌≡◌, length, sym, ◌∙◌, arith, rules}
use Rattle.laws.proofs.All.{all_false_of, all_none, all_more}
use Rattle.listing.specs.Listing.{queue_test}
use Rattle.listing.proofs.ListLaws.{queue_tested}
use Rattle.listing.proofs.queues.queues_right.Goals as goal
use Rattle.listing.proofs.queues.queues_right.Goals.{After-each_once}

-- the test of the round's queue
tested : (c : After-each_once) → c.each_once.result ≡ queue_test c.args.queues c.args.present.now c.args.transport.now c.loop-t.t
tested c =
    let long : length c.args.queues ≡ 4 = search rules in
    queue_tested _ _ _ _ c.jobs_on.result _ (omega arith) c.jobs_on.ensures c.each_once.ensures

pub loop-t-init : goal.loop-t-init
loop-t-init c = sym (all_none _)

pub returns-then-not-each_once : goal.returns-then-not-each_once
returns-then-not-each_once c = sym (all_false_of _ _ c.loop-t.t (omega arith) (sym (tested (goal.at.returns-then-not-each_once c).After-each_once) ∙ c.if-not-each_once.true))

pub loop-t-preserved : goal.loop-t-preserved
loop-t-preserved c = all_more _ _ c.loop-t.invariant (sym (tested (goal.at.loop-t-preserved c).After-each_once) ∙ c.if-not-each_once.false)
