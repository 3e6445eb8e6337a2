use Rattle.std.proofs.Common.{rules}
use Rattle.laws.specs.Bools.{when◌then◌else◌}
use Rattle.layout.specs.Layout.{head_of}
use Rattle.layout.proofs.head_of.Goals as goal

pub returns-in-1 : goal.returns-in-1
unfolding head_of when◌then◌else◌
returns-in-1 c = search rules

pub returns-in-1-2 : goal.returns-in-1-2
unfolding head_of when◌then◌else◌
returns-in-1-2 c = search rules

pub returns-in-2 : goal.returns-in-2
unfolding head_of when◌then◌else◌
returns-in-2 c = search rules

pub returns-in-2-2 : goal.returns-in-2-2
unfolding head_of when◌then◌else◌
returns-in-2-2 c = search rules

pub returns-in_default : goal.returns-in_default
unfolding head_of when◌then◌else◌
returns-in_default c = search rules

pub returns-in_default-2 : goal.returns-in_default-2
unfolding head_of when◌then◌else◌
returns-in_default-2 c = search rules
