-- State and text are those of the reply. Assumes nothing.
use Rattle.std.proofs.Common.{refl}
use Rattle.calling.proofs.ReplyLaws.{start_said}
use Rattle.calling.proofs.start.Goals as goal

pub returns : goal.returns
returns c =
    let r = start_said _ _ c.set_up-r.ensures c.setup.ensures (refl, refl) in
    record { state = r.0; text = r.1 }
