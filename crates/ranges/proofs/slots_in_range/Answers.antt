-- The rule, test by test. Assumes nothing.
use Rattle.ranges.proofs.SetupLaws.{slots_joined}
use Rattle.ranges.proofs.slots_in_range.Goals as goal

pub returns : goal.returns
returns c =
    let first = c in
    slots_joined first.args.g first.within.ensures c.within-2.ensures c.within-3.ensures
    c.within-4.ensures c.within-5.ensures
