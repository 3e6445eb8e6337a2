use Rattle.std.proofs.Common.{false, refl, ◌∙◌, arith}
use lib.ListN.{length-set, length-replicate}
use Rattle.laws.proofs.Places.{set_more}
use Rattle.listing.proofs.queues.jobs_on.Goals as goal

pub loop-j-init : goal.loop-j-init
loop-j-init c = (length-replicate 32 false, λ i l. absurd (omega arith))

pub loop-j-preserved : goal.loop-j-preserved
loop-j-preserved c = (
  length-set c.loop-j.on c.loop-j.j _ ∙ c.loop-j.invariant.0,
  set_more _ c.loop-j.on c.loop-j.j _ false (omega arith) c.loop-j.invariant.1 refl,
)
