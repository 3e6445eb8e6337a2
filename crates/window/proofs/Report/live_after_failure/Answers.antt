-- Dead at the cohort limit; else the sums fall. Assumes nothing.
use native.Mathlib.Omega.{arith}
use Rattle.rules.proofs.RangeFacts.{windows_range}
use Rattle.window.proofs.WindowLaws.{negative_asks, lowered_asks}
use Rattle.window.proofs.Cases.{failure_kills, failure_spares}
use Rattle.window.proofs.Report.live_after_failure.Goals as goal

pub overflow_mul-self : goal.overflow_mul-self
overflow_mul-self c = omega (arith, windows_range _ c.args.self.in_range)

pub overflow_add-result : goal.overflow_add-result
overflow_add-result c = omega (arith, windows_range _ c.args.self.in_range)

pub returns-then-self-cohorts : goal.returns-then-self-cohorts
returns-then-self-cohorts c = failure_kills _ _ _ _ c.if-self-cohorts.true

pub feedback-fall-requires : goal.feedback-fall-requires
feedback-fall-requires c = negative_asks _ _ c.args.self.in_range c.requires

pub lowered-requires : goal.lowered-requires
lowered-requires c = lowered_asks _ _ c.args.self.in_range c.requires _ c.feedback-fall.ensures

pub returns : goal.returns
returns c = failure_spares _ _ _ _ _ _ c.if-self-cohorts.false c.feedback-fall.ensures c.lowered.ensures
