use Rattle.rules.proofs.Shapes.{shaped}
use Rattle.reporting.proofs.report.Goals as goal

pub settle-back-requires : goal.settle-back-requires
settle-back-requires c = shaped c.args.s c.well_formed.0
