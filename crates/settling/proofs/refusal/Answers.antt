-- Each way out is a test of the rules' order. Assumes nothing.
use Rattle.settling.proofs.RefusalLaws.{refuse_none, refuse_idle, refuse_stale, refuse_list, refuse_not}
use Rattle.settling.proofs.refusal.Goals as goal

pub returns-then-entry-ge512 : goal.returns-then-entry-ge512
returns-then-entry-ge512 c = refuse_none _ _ _ _ _ c.if-entry-ge512.true

pub returns-then-kind-e-ne2 : goal.returns-then-kind-e-ne2
returns-then-kind-e-ne2 c = refuse_idle _ _ _ _ _ c.if-kind-e-ne2.true

pub returns-then-from-ticket : goal.returns-then-from-ticket
returns-then-from-ticket c = refuse_stale _ _ _ _ _ c.from.ensures c.if-from-ticket.true

pub returns-then-places-lt512 : goal.returns-then-places-lt512
returns-then-places-lt512 c = refuse_list _ _ _ _ _ c.if-entry-ge512.false c.if-kind-e-ne2.false c.from.ensures c.if-from-ticket.false c.if-places-lt512.true

pub returns : goal.returns
returns c = refuse_not _ _ _ _ _ c.if-entry-ge512.false c.if-kind-e-ne2.false c.from.ensures c.if-from-ticket.false c.if-places-lt512.false
