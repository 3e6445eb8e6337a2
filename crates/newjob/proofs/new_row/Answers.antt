-- The order of first appearance, and then one place of each column. Assumes nothing.
use Rattle.newjob.proofs.Ordering.{row_is}
use Rattle.newjob.proofs.new_row.Goals as goal

pub returns : goal.returns
returns c = row_is _ c.requires.2 _ c.firsts-order.ensures.0 c.args.g _ _ _ _ _ c.firsts-order.ensures.1 c.set_order.ensures
