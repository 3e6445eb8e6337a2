use mathlib.Core.Path.{refl}
use Rattle.rules.specs.Pick.{handed_out}
use Rattle.picking.proofs.hand_out.Goals as goal

pub returns-clause-state : goal.returns-clause-state
unfolding handed_out
returns-clause-state c = rw c.next_ticket-state.ensures refl
