-- `preemption::pays_for` meets its contract. Assumes nothing.
use Rattle.rules.specs.Preemption.{pays_for}
use mathlib.Core.Path.{refl}
use Rattle.preemption.proofs.pays_for.Goals as goal

pub returns : goal.returns
unfolding pays_for
returns c = refl
