-- The measure is the depth that is left. Assumes nothing.
use Rattle.charging.proofs.+charge.Given as goal

abbrev pub decreases-charge : goal.decreases-charge
decreases-charge l = l.depth
