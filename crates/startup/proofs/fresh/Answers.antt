-- From its two parts. Assumes nothing.
use Rattle.rules.specs.Setup.{fresh_state}
use Rattle.startup.proofs.fresh.Goals as goal

pub returns : goal.returns
unfolding fresh_state
returns c = cc
