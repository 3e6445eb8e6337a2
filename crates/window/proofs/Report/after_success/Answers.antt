-- By the two cases of the health. Assumes nothing.
use Rattle.window.proofs.WindowLaws.{live_fits}
use Rattle.window.proofs.Cases.{success_live, success_dead}
use Rattle.window.proofs.Report.after_success.Goals as goal

pub live_after_success-requires : goal.live_after_success-requires
live_after_success-requires c = live_fits _ _ _ c.in-Live.is c.requires

pub returns-in-Live : goal.returns-in-Live
returns-in-Live c = success_live _ _ _ _ _ c.in-Live.is c.live_after_success.ensures

pub returns-in-Dead : goal.returns-in-Dead
returns-in-Dead c = success_dead _ _ _ _ _ c.in-Dead.is c.revived.ensures
