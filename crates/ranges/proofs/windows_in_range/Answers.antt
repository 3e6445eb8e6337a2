-- The rule, test by test. Assumes nothing.
use Rattle.ranges.proofs.SetupLaws.{windows_joined}
use Rattle.ranges.proofs.windows_in_range.Goals as goal

pub returns : goal.returns
returns c =
    let first = c in
    windows_joined first.args.g first.within.ensures c.within-2.ensures
    c.feedback_in_range.ensures c.feedback_in_range-2.ensures c.within-3.ensures c.within-4.ensures
