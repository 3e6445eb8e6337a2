-- The rule, test by test. Assumes nothing.
use Rattle.rules.specs.Setup.{feedback_in_range}
use Rattle.ranges.proofs.feedback_in_range.Goals as goal

pub returns : goal.returns
unfolding feedback_in_range
returns c = cc
