-- Below U nothing is taken off; at U or more the window grows. Assumes nothing.
use Rattle.window.proofs.Cases.{raised_below, raised_above}
use Rattle.window.proofs.raised.Goals as goal

pub returns-then-success-lt-U : goal.returns-then-success-lt-U
returns-then-success-lt-U c = raised_below _ _ _ c.if-success-lt-U.true

pub returns : goal.returns
returns c = raised_above _ _ _ _ c.if-success-lt-U.false c.min.ensures
