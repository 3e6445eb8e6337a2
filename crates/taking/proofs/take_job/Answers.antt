use Rattle.rules.proofs.Shapes.{shaped}
use Rattle.taking.proofs.take_job.Goals as goal

pub take-back-requires : goal.take-back-requires
take-back-requires c = shaped c.args.s c.well_formed.0
