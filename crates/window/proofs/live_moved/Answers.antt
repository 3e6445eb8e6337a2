-- Live, dead. Assumes nothing.
use Rattle.window.proofs.Cases.{live_lives, live_dies}
use Rattle.window.proofs.live_moved.Goals as goal

pub returns-in-Live : goal.returns-in-Live
returns-in-Live c = live_lives _ _ _ _ c.in-Live.is c.window_moved.ensures

pub returns-in-Dead : goal.returns-in-Dead
returns-in-Dead c = live_dies _ _ _ c.in-Dead.is
