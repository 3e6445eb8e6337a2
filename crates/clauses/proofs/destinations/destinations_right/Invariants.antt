-- `clauses::destinations::destinations_right` meets its contract. Invariant: the destinations passed are right.
use Rattle.std.proofs.Common.{◌≡◌, true}
use Rattle.laws.specs.Range.{all_to}
use Rattle.clauses.specs.Clauses.{destination_test}
use Rattle.clauses.proofs.destinations.destinations_right.Given as goal

abbrev pub invariant-loop-d : goal.invariant-loop-d
invariant-loop-d l = all_to (destination_test l.u l.destinations l.held) l.d ≡ true
