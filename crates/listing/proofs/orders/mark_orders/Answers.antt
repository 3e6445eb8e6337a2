use Rattle.std.proofs.Common.{arith}
use Rattle.listing.proofs.OrderLaws.{marking_none, marking_skip, marking_long, marking_twice, marking_more}
use Rattle.listing.proofs.orders.mark_orders.Goals as goal

pub loop-j-init : goal.loop-j-init
loop-j-init c = marking_none _ _ _ _ c.told-table c.requires.by_index

pub loop-j-preserved-then-not-present-j : goal.loop-j-preserved-then-not-present-j
loop-j-preserved-then-not-present-j c = marking_skip _ _ _ _ _ c.loop-j.invariant c.if-not-present-j.true

pub returns-then-n-gt32 : goal.returns-then-n-gt32
returns-then-n-gt32 c =
    marking_long _ _ _ _ _ c.loop-j.invariant c.if-not-present-j.false c.from-n.result c.from-n.ensures (omega arith) c.if-n-gt32.true

pub returns-then-not-mark_order : goal.returns-then-not-mark_order
returns-then-not-mark_order c =
    marking_twice _ _ _ _ _ c.loop-j.invariant c.if-not-present-j.false c.from-n.result c.from-n.ensures (omega arith) _ _ c.mark_order.ensures c.if-not-mark_order.true

pub loop-j-preserved : goal.loop-j-preserved
loop-j-preserved c =
    marking_more _ _ _ _ _ c.loop-j.invariant c.if-not-present-j.false c.from-n.result c.from-n.ensures (omega arith) _ _ c.mark_order.ensures (omega arith)
    c.if-not-mark_order.false
