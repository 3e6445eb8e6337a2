-- `preemption::has_credit` meets its contract. Assumes nothing.
use mir.Facts.{to_z-of_z}
use Rattle.preemption.proofs.Credits.{has_credit_is}
use Rattle.preemption.proofs.has_credit.Goals as goal

pub returns : goal.returns
returns c = has_credit_is _ c.args.a (to_z-of_z c.ranges.a)
