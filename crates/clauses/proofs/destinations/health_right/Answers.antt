-- `clauses::destinations::health_right` meets its contract: by the variant.
use Rattle.std.proofs.Common.{sym, ap}
use Rattle.rules.specs.Setup.{within}
use Rattle.rules.specs.Sound.{sums_fit}
use Rattle.clauses.specs.Clauses.{health_test}
use Rattle.clauses.proofs.destinations.health_right.Goals as goal

pub returns-in-Live : goal.returns-in-Live
unfolding health_test sums_fit within
returns-in-Live c = sym (ap (health_test c.args.g.now c.args.held) c.in-Live.is)

pub returns-in-Dead : goal.returns-in-Dead
unfolding health_test
returns-in-Dead c = sym (ap (health_test c.args.g.now c.args.held) c.in-Dead.is)
