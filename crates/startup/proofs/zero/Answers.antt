-- Zeros. Assumes nothing.
use Rattle.rules.specs.Setup.{zero_state}
use Rattle.startup.proofs.zero.Goals as goal

pub returns : goal.returns
unfolding zero_state
returns c = cc
