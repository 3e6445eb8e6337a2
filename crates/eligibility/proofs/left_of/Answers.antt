-- `eligibility::left_of` meets its contract. Assumes nothing.
use mathlib.Core.Path.{refl}
use Rattle.laws.specs.Bools.{when◌then◌else◌}
use Rattle.eligibility.proofs.left_of.Goals as goal

pub returns-then-present : goal.returns-then-present
unfolding when◌then◌else◌
returns-then-present c = rw c.if-present.true refl

pub returns-else-present : goal.returns-else-present
unfolding when◌then◌else◌
returns-else-present c = rw c.if-present.false refl
