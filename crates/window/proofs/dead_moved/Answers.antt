-- A success, a failure. Assumes nothing.
use Rattle.window.proofs.Cases.{dead_revives, dead_stays}
use Rattle.window.proofs.dead_moved.Goals as goal

pub returns-in-Success : goal.returns-in-Success
returns-in-Success c = dead_revives _ c.in-Success.is

pub returns-in-Failure : goal.returns-in-Failure
returns-in-Failure c = dead_stays _ c.in-Failure.is
