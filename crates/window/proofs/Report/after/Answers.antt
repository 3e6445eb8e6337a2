-- A success, a failure. Assumes nothing.
use Rattle.window.proofs.Cases.{report_success, report_failure}
use Rattle.window.proofs.Report.after.Goals as goal

pub returns-in-Success : goal.returns-in-Success
returns-in-Success c = report_success _ _ _ _ _ _ c.in-Success.is c.after_success.ensures

pub returns-in-Failure : goal.returns-in-Failure
returns-in-Failure c = report_failure _ _ _ _ _ _ c.in-Failure.is c.after_failure.ensures
