use Rattle.std.proofs.Common.{not, sym, ap}
use Rattle.rules.specs.State.{is_live}
use Rattle.admission.proofs.is_dead.Goals as goal

pub returns-in-Dead : goal.returns-in-Dead
unfolding is_live
returns-in-Dead c = sym (ap (λ h. not (is_live h)) c.in-Dead.is)

pub returns-in_default : goal.returns-in_default
unfolding is_live
returns-in_default c = sym (ap (λ h. not (is_live h)) c.in_default.is)
