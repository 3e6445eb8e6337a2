use mathlib.Core.Path.{ap}
use Rattle.rules.proofs.Found.{finds_exactly}
use Rattle.rules.proofs.Shapes.{shaped}
use Rattle.picking.proofs.pick.Goals as goal

pub pick_from-back-requires : goal.pick_from-back-requires
pick_from-back-requires c = shaped c.args.s c.well_formed.0

pub returns-clause-found : goal.returns-clause-found
returns-clause-found c = finds_exactly c.args.s c.args.now (shaped c.args.s c.well_formed.0) _ (ap (λ x. x.says) c.pick_from-back.ensures)
