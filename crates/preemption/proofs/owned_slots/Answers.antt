-- `preemption::owned_slots` meets its contract: a credit of at least 1 is its own magnitude. Assumes nothing.
use mir.Facts.{to_z-of_z}
use Rattle.preemption.proofs.Credits.{owned_fits, owned_is}
use Rattle.preemption.proofs.owned_slots.Goals as goal

pub overflow_cast-result : goal.overflow_cast-result
overflow_cast-result c = owned_fits _ c.args.a (to_z-of_z c.ranges.a) c.ranges.a c.requires

pub returns : goal.returns
returns c = owned_is _ c.args.a (to_z-of_z c.ranges.a) c.requires
