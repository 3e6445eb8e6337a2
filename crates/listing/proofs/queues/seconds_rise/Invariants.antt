-- `listing::queues::seconds_rise` meets its contract. Invariant: the numbers passed never fall nor pass the clock, and `last` is at most what follows where the whole list never falls.
use Rattle.std.proofs.Common.{length}
use Rattle.rules.specs.State.{at}
use Rattle.listing.proofs.ListLaws.{Rising}
use Rattle.listing.proofs.queues.seconds_rise.Given as goal

abbrev pub invariant-loop-x : goal.invariant-loop-x
invariant-loop-x l = Rising (at l.arrival) l.clock l.x-items (length l.x-items) l.last l.x-index
