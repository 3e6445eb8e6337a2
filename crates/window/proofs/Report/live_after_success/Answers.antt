-- Success grows only where the window is below busy and initial together. Assumes nothing.
use native.Mathlib.Omega.{arith}
use Rattle.rules.proofs.RangeFacts.{windows_range}
use Rattle.window.proofs.WindowLaws.{positive_asks, success_sum}
use Rattle.window.proofs.Cases.{success_grows, success_stays}
use Rattle.window.proofs.Report.live_after_success.Goals as goal

pub overflow_add-self : goal.overflow_add-self
overflow_add-self c = omega (arith, windows_range _ c.args.self.in_range)

pub feedback-requires : goal.feedback-requires
feedback-requires c = positive_asks _ _ c.args.self.in_range c.requires

pub overflow_add-success : goal.overflow_add-success
overflow_add-success c = omega (arith, success_sum _ _ c.args.self.in_range c.requires _ c.feedback.ensures)

pub raised-requires : goal.raised-requires
raised-requires c = (positive_asks _ _ c.args.self.in_range c.requires).2

pub returns-then-u-self : goal.returns-then-u-self
returns-then-u-self c = success_grows _ _ _ _ _ c.if-u-self.true c.feedback.ensures c.raised.ensures

pub returns : goal.returns
returns c = success_stays _ _ _ c.if-u-self.false
