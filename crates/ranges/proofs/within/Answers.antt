-- The two tests. Assumes nothing.
use mathlib.Core.Path.{refl}
use Rattle.rules.specs.Setup.{within}
use Rattle.ranges.proofs.within.Goals as goal

pub returns : goal.returns
unfolding within
returns c = refl
