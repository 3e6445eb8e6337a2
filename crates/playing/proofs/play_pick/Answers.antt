-- State and text are those of the reply. Assumes nothing.
use Rattle.std.proofs.Common.{refl}
use Rattle.playing.proofs.PlayLaws.{pick_played}
use Rattle.playing.proofs.play_pick.Goals as goal

pub returns : goal.returns
returns c =
    let r = pick_played _ _ _ c.pick-r.ensures.reply c.put_refusal.ensures (refl, refl) in
    record { state = r.0; text = r.1 }
