-- `clauses::jobs::sold_right` meets its contract: a slot so dear that the product stops is refused.
use Rattle.std.proofs.Common.{arith}
use Rattle.clauses.proofs.JobLaws.{sold_is}
use Rattle.clauses.proofs.jobs.sold_right.Goals as goal

pub returns : goal.returns
returns c = rw (c.from-2.ensures) (sold_is c.args.cost c.args.sold c.args.n c.saturating_mul.result (rw c.from.ensures at c.saturating_mul.ensures) (omega arith))
