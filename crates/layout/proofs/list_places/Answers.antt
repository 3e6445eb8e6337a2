use Rattle.std.proofs.Common.{rules}
use Rattle.laws.specs.Bools.{when◌then◌else◌}
use Rattle.layout.specs.Layout.{head_of, list_places}
use Rattle.layout.proofs.list_places.Goals as goal

pub bounds-words-3 : goal.bounds-words-3
unfolding head_of when◌then◌else◌
bounds-words-3 c = let h = c.requires.0 in search rules

pub bounds-words-4 : goal.bounds-words-4
unfolding head_of when◌then◌else◌
bounds-words-4 c = let h = c.requires.0 in search rules

pub returns-in-1 : goal.returns-in-1
unfolding list_places when◌then◌else◌
returns-in-1 c = search rules

pub returns-in-3 : goal.returns-in-3
unfolding list_places when◌then◌else◌
returns-in-3 c = search rules

pub returns-in_default : goal.returns-in_default
unfolding list_places when◌then◌else◌
returns-in_default c = search rules

pub returns-in_default-2 : goal.returns-in_default-2
unfolding list_places when◌then◌else◌
returns-in_default-2 c = search rules
