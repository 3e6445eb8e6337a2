-- A state by value has its shape.
use Rattle.rules.proofs.Shapes.{shaped}
use Rattle.soundness.proofs.sound_with.Goals as goal

pub sound_at-requires : goal.sound_at-requires
sound_at-requires c = record { shape = shaped c.args.s c.well_formed.0; pairs = c.requires }
