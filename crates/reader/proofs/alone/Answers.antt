-- The array is all zeros. Assumes nothing.
use Rattle.std.proofs.Common.{refl}
use Rattle.laws.specs.Sequence.{padded}
use Rattle.reader.proofs.alone.Goals as goal

pub returns : goal.returns
unfolding padded
returns c = (refl, refl)
