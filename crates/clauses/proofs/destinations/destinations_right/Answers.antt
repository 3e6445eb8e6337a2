use Rattle.std.proofs.Common.{sym, ◌∙◌, arith}
use Rattle.laws.proofs.All.{all_false_of, all_none, all_more}
use Rattle.clauses.specs.Clauses.{destination_test}
use Rattle.rules.proofs.RangeFacts.{home_below}
use Rattle.clauses.proofs.Ranges.{destinations_few, cohorts_few}
use Rattle.clauses.proofs.destinations.destinations_right.Goals as goal

pub loop-d-init : goal.loop-d-init
loop-d-init c = sym (all_none _)

pub offset_bounds-u-d : goal.offset_bounds-u-d
offset_bounds-u-d c = omega (arith, destinations_few _ c.requires)

pub bounds-u-d : goal.bounds-u-d
bounds-u-d c = omega (arith, destinations_few _ c.requires)

pub offset_bounds-u-u : goal.offset_bounds-u-u
offset_bounds-u-u c = omega (arith, home_below _ c.requires c.loop-d.d (omega arith))

pub bounds-u-u : goal.bounds-u-u
bounds-u-u c = omega (arith, home_below _ c.requires c.loop-d.d (omega arith))

pub offset_bounds-destinations-d : goal.offset_bounds-destinations-d
offset_bounds-destinations-d c = omega (arith, destinations_few _ c.requires)

pub bounds-destinations-d : goal.bounds-destinations-d
bounds-destinations-d c = omega (arith, destinations_few _ c.requires)

pub offset_bounds-held-d : goal.offset_bounds-held-d
offset_bounds-held-d c = omega (arith, destinations_few _ c.requires)

pub bounds-held-d : goal.bounds-held-d
bounds-held-d c = omega (arith, destinations_few _ c.requires)

pub health_right-requires : goal.health_right-requires
health_right-requires c = cohorts_few _ c.requires c.loop-d.d (omega arith)

pub returns-then-not-health_right : goal.returns-then-not-health_right
unfolding destination_test
returns-then-not-health_right c = sym (all_false_of _ _ c.loop-d.d (omega arith) (sym c.health_right.ensures ∙ c.if-not-health_right.true))

pub loop-d-preserved : goal.loop-d-preserved
unfolding destination_test
loop-d-preserved c = all_more _ _ c.loop-d.invariant (sym c.health_right.ensures ∙ c.if-not-health_right.false)
