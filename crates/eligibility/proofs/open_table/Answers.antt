use Rattle.std.proofs.Common.{arith, ◌<◌, length, false, length-set, ◌∙◌, ap₂, ◌&&◌}
use Rattle.laws.proofs.Places.{set_more}
use Rattle.eligibility.specs.Eligibility.{is_open}
use Rattle.eligibility.proofs.open_table.Goals as goal

pub loop-d-preserved : goal.loop-d-preserved
unfolding is_open
loop-d-preserved c =
    let inside : c.loop-d.d < length c.loop-d.table = omega (arith, c.requires.destinations.1) in (
      length-set c.loop-d.table c.loop-d.d (c.has_room.result && c.has_agent.result) ∙ c.loop-d.invariant.0,
      set_more _ c.loop-d.table c.loop-d.d _ false inside c.loop-d.invariant.1 (ap₂ ◌&&◌ c.has_room.ensures c.has_agent.ensures),
    )
