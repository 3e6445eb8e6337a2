-- `clauses::jobs::counts_right` meets its contract: the sum cannot wrap, and the rest computes.
use Rattle.std.proofs.Common.{refl}
use Rattle.clauses.specs.Clauses.{counts_test}
use Rattle.rules.specs.Setup.{within}
use Rattle.clauses.proofs.jobs.counts_right.Goals as goal

pub returns : goal.returns
unfolding counts_test within
returns c = rw (c.from.ensures, c.from-2.ensures, c.from-3.ensures, c.from-4.ensures) refl
