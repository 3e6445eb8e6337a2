-- `choice::picked_from` meets its contract. Assumes nothing.
use Rattle.std.proofs.Common.{refl}
use Rattle.choice.specs.Choosing.{picked_from}
use Rattle.choice.proofs.picked_from.Goals as goal

pub returns-in-Some : goal.returns-in-Some
unfolding picked_from
returns-in-Some c = rw c.in-Some.is refl

pub returns-in-None : goal.returns-in-None
unfolding picked_from
returns-in-None c = rw c.in-None.is refl
