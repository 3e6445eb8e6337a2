use mathlib.Core.Path.{◌∙◌}
use native.Mathlib.Omega.{arith}
use Rattle.rules.proofs.RangeFacts.{in_range_facts, home_below}
use Rattle.startup.proofs.FirstLaws.{first_none, first_written, first_all}
use Rattle.startup.proofs.first_destinations.Goals as goal

pub loop-d-init : goal.loop-d-init
loop-d-init c = (first_none _ _ c.zero_destination-ds.ensures, omega arith, omega (arith, in_range_facts _ c.requires))

pub offset_bounds-u-u : goal.offset_bounds-u-u
offset_bounds-u-u c = omega (arith, home_below _ c.requires c.loop-d.d (omega arith))

pub bounds-u-u : goal.bounds-u-u
bounds-u-u c = home_below _ c.requires c.loop-d.d (omega arith)

pub loop-d-preserved : goal.loop-d-preserved
loop-d-preserved c =
    let inv = c.loop-d.invariant in
    (first_written _ _ _ _ inv.0 c.loop-d-test.true (omega arith) c.first_state.ensures, omega arith, inv.2)

pub returns : goal.returns
returns c = c.loop-d.invariant.0 ∙ first_all _ _ (omega arith) (omega arith)
