-- `eligibility::has_room` meets its contract, by the two forms of a destination. Assumes nothing.
use Rattle.std.proofs.Common.{arith}
use Rattle.eligibility.proofs.Rooms.{room_live, room_full, room_dead}
use Rattle.eligibility.proofs.has_room.Goals as goal

pub returns-in-Live : goal.returns-in-Live
returns-in-Live c = room_live _ _ _ c.in-Live.is (omega (arith, c.from.ensures))

pub returns-in_default : goal.returns-in_default
returns-in_default c = room_full _ _ _ c.in-Live.is (omega (arith, c.from.ensures))

pub returns-in_default-2 : goal.returns-in_default-2
returns-in_default-2 c = room_dead _ _ _ c.in_default.is
