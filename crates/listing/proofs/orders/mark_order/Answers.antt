use Rattle.std.proofs.Common.{◌≡◌, ◌<◌, ◌+◌, ◌*◌, arith}
use Rattle.rules.specs.State.{at}
use Rattle.listing.specs.Listing.{order_list}
use Rattle.listing.proofs.OrderLaws.{seen_none, seen_more, seen_twice, seen_done}
use Rattle.listing.proofs.orders.mark_order.Goals as goal
use Rattle.listing.proofs.orders.mark_order.Goals.{In-loop-k}

below : (c : In-loop-k) → at c.args.order.now (32 * c.args.job + c.loop-k.k) < 256
below c = c.fits-order (32 * c.args.job + c.loop-k.k)

pub loop-k-init : goal.loop-k-init
loop-k-init c = seen_none _ _ _ c.told-table c.requires.by_index

pub returns-then-table-job : goal.returns-then-table-job
unfolding order_list
returns-then-table-job c =
    let small = below (goal.at.returns-then-table-job c).In-loop-k in
    seen_twice _ _ _ _ _ c.loop-k.invariant c.from-d.result c.from-d.ensures (rw c.from-d.ensures small) (omega arith) c.args.places (omega arith) c.if-table-job.true

pub loop-k-preserved : goal.loop-k-preserved
loop-k-preserved c =
    let small = below (goal.at.loop-k-preserved c).In-loop-k in
    seen_more _ _ _ _ _ c.loop-k.invariant c.from-d.result c.from-d.ensures (rw c.from-d.ensures small) (omega arith) c.if-table-job.false

pub returns : goal.returns
unfolding order_list
returns c = let e : c.loop-k.k ≡ c.args.places = omega arith in seen_done _ _ _ _ _ (rw e at c.loop-k.invariant)
