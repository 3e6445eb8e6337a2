use Rattle.std.proofs.Common.{◌∙◌, arith}
use lib.ListN.{length-set}
use Rattle.laws.proofs.Places.{set_more}
use Rattle.counting.proofs.PairLaws.{row_part}
use Rattle.counting.proofs.row_sums.Goals as goal

pub row_sum-requires : goal.row_sum-requires
row_sum-requires c = rw (row_part c.args.table.now c.loop-j.j (omega arith) c.told-table) (c.requires c.loop-j.j (omega arith))

pub loop-j-preserved : goal.loop-j-preserved
loop-j-preserved c = (
  length-set c.loop-j.sums c.loop-j.j _ ∙ c.loop-j.invariant.0,
  set_more _ c.loop-j.sums c.loop-j.j _ 0 (omega arith) c.loop-j.invariant.1 (c.row_sum.ensures ∙ row_part c.args.table.now c.loop-j.j (omega arith) c.told-table),
)
