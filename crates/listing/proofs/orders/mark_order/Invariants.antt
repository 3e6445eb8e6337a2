-- `listing::orders::mark_order` meets its contract. Invariant: the places passed are marked, and differ.
use Rattle.std.proofs.Common.{◌+◌, ◌*◌}
use Rattle.rules.specs.State.{at}
use Rattle.listing.proofs.OrderLaws.{Seen}
use Rattle.listing.proofs.orders.mark_order.Given as goal

abbrev pub invariant-loop-k : goal.invariant-loop-k
invariant-loop-k l = Seen (λ i. at l.order (32 * l.job + i)) (256 * l.job) l.k l.initial.table l.table
