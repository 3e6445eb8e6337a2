-- `listing::orders::mark_orders` meets its contract. Invariant: the orders of the jobs passed are right and marked, and the table is blank from this job on.
use Rattle.listing.proofs.OrderLaws.{Marking}
use Rattle.listing.proofs.orders.mark_orders.Given as goal

abbrev pub invariant-loop-j : goal.invariant-loop-j
invariant-loop-j l = Marking l.present l.places l.order l.j l.table
