-- Zeros. Assumes nothing.
use mathlib.Core.Path.{refl}
use Rattle.laws.specs.Sequence.{padded}
use Rattle.startup.proofs.no_list.Goals as goal

pub returns : goal.returns
unfolding padded
returns c = refl
