-- Where failure suffices it falls; else the window does. Assumes nothing.
use native.Mathlib.Omega.{arith}
use Rattle.window.proofs.Cases.{lowered_above, lowered_below}
use Rattle.window.proofs.lowered.Goals as goal

pub returns-then-fall-u : goal.returns-then-fall-u
returns-then-fall-u c = lowered_above _ _ _ c.if-fall-u.true

pub returns : goal.returns
returns c = lowered_below _ _ _ _ c.if-fall-u.false (let e = c.max.ensures in omega arith)
