-- `clauses::jobs::child_right` meets its contract: a parent past the last job is not present.
use Rattle.std.proofs.Common.{sym, arith}
use borrow.Author.Tests.{le-ltb}
use Rattle.clauses.proofs.JobLaws.{child_none, child_far, child_near}
use Rattle.clauses.proofs.jobs.child_right.Goals as goal

pub returns-then-link-eq0 : goal.returns-then-link-eq0
returns-then-link-eq0 c = sym (child_none _ _ _ _ _ c.args.link c.if-link-eq0.true)

pub returns-then-p-lt32 : goal.returns-then-p-lt32
returns-then-p-lt32 c = sym (child_near _ _ _ _ _ c.args.link c.from-p.result (omega arith))

pub returns-else-p-lt32 : goal.returns-else-p-lt32
returns-else-p-lt32 c = rw (le-ltb c.from-p.result 32 c.if-p-lt32.false) (sym (child_far _ _ _ _ _ c.args.link c.from-p.result (omega arith) (omega arith)))
