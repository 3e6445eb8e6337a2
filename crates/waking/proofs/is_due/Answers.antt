-- By the two cases of the health. Assumes nothing.
use Rattle.std.proofs.Common.{arith}
use Rattle.std.proofs.lemmas.Grind.{common_steps}
use Rattle.waking.specs.Waking.{is_due}
use Rattle.waking.proofs.is_due.Goals as goal

pub returns-in-Dead : goal.returns-in-Dead
unfolding is_due
returns-in-Dead c = rw c.in-Dead.is (grind (arith, common_steps))

pub returns-in_default : goal.returns-in_default
unfolding is_due
returns-in_default c = rw c.in-Dead.is (grind (arith, common_steps))

pub returns-in_default-2 : goal.returns-in_default-2
unfolding is_due
returns-in_default-2 c = rw c.in_default.is (grind (arith, common_steps))
