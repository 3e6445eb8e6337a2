-- Live, dead. Assumes nothing.
use Rattle.window.proofs.Cases.{moved_live, moved_dead}
use Rattle.window.proofs.moved.Goals as goal

pub returns-in-Live : goal.returns-in-Live
returns-in-Live c = moved_live _ _ _ _ _ c.in-Live.is c.live_moved.ensures

pub returns-in-Dead : goal.returns-in-Dead
returns-in-Dead c = moved_dead _ _ _ _ _ c.in-Dead.is c.dead_moved.ensures
