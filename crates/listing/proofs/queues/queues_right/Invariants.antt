-- `listing::queues::queues_right` meets its contract. Invariant: the lists of the transports passed are right.
use Rattle.std.proofs.Common.{◌≡◌, true}
use Rattle.laws.specs.Range.{all_to}
use Rattle.listing.specs.Listing.{queue_test}
use Rattle.listing.proofs.queues.queues_right.Given as goal

abbrev pub invariant-loop-t : goal.invariant-loop-t
invariant-loop-t l = all_to (queue_test l.queues l.present l.transport) l.t ≡ true
