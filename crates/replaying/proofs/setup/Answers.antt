-- The set-up computes to the one that is written down. Assumes nothing.
use mathlib.Core.Path.{refl}
use Rattle.laws.specs.Range.{table_to}
use Rattle.replaying.proofs.setup.Goals as goal

pub returns : goal.returns
unfolding table_to
returns c = refl
