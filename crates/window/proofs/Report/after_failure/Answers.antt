-- By the two cases of the health; only a live one has a window to divide by. Assumes nothing.
use mathlib.Core.Path.{◌≡◌, ◌∙◌}
use mathlib.Core.Bool.{true}
use native.Mathlib.Omega.{arith}
use Rattle.rules.specs.Sound.{sums_fit}
use Rattle.window.proofs.WindowLaws.{window_asks, live_fits, cohorts_sum}
use Rattle.window.proofs.Cases.{failure_live, failure_dead}
use Rattle.window.proofs.Report.after_failure.Goals as goal
use Rattle.window.proofs.Report.after_failure.Goals.{In-Live}

sums-fit : (c : In-Live) → sums_fit c.args.self.settings c.in-Live.u ≡ true
sums-fit c = live_fits _ _ _ c.in-Live.is c.requires

pub cohort_share-requires : goal.cohort_share-requires
cohort_share-requires c = window_asks _ _ c.args.self.in_range (live_fits _ _ _ c.in-Live.is c.requires)

pub overflow_add-u : goal.overflow_add-u
overflow_add-u c = omega (arith, cohorts_sum _ _ c.args.self.in_range (sums-fit (goal.at.overflow_add-u c).In-Live) _ c.cohort_share.ensures)

pub live_after_failure-requires : goal.live_after_failure-requires
live_after_failure-requires c = sums-fit (goal.at.live_after_failure-requires c).In-Live

pub returns-in-Live : goal.returns-in-Live
returns-in-Live c = failure_live _ _ _ _ _ _ c.in-Live.is c.cohort_share.ensures c.live_after_failure.ensures

pub returns-in-Dead : goal.returns-in-Dead
returns-in-Dead c = c.in-Dead.is ∙ failure_dead _ _ _ _ c.in-Dead.is
