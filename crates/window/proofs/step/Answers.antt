-- Health and case are what the two calls give. Assumes nothing.
use Rattle.window.proofs.Cases.{step_is}
use Rattle.window.proofs.step.Goals as goal

pub returns : goal.returns
returns c = step_is _ _ _ _ _ _ _ c.after-health.ensures c.moved.ensures
