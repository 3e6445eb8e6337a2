-- A state by value has its shape.
use Rattle.rules.proofs.Shapes.{shaped}
use Rattle.choice.proofs.choose.Goals as goal

pub choose_at-requires : goal.choose_at-requires
choose_at-requires c = record { shape = shaped c.args.w c.well_formed.0; given = c.requires }
