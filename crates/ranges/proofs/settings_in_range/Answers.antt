-- The rule, test by test. Assumes nothing.
use Rattle.rules.specs.Setup.{settings_in_range}
use Rattle.ranges.proofs.settings_in_range.Goals as goal

pub returns : goal.returns
unfolding settings_in_range
returns c = cc
