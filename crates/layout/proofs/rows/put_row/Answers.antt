use lib.ListN.{length}
use Rattle.layout.proofs.RowLaws.{row_is}
use Rattle.layout.proofs.rows.put_row.Goals as goal

pub returns : goal.returns
returns c =
    row_is c.args.row.now c.args.refusal (length c.args.values.now) c.requires.0 c.args.values.now _
    c.put_values.ensures
