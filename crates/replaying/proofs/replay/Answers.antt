-- The set-up, the records and the end, each from what the one before left. Assumes nothing.
use Rattle.replaying.proofs.TurnLaws.{put_long}
use Rattle.replaying.proofs.WholeLaws.{fresh, fits, replayed}
use Rattle.replaying.proofs.replay.Goals as goal

pub play_all-p-requires : goal.play_all-p-requires
play_all-p-requires c = fresh c.set_up-r.result c.setup.ensures c.set_up-r.ensures

pub put_end-length-requires : goal.put_end-length-requires
put_end-length-requires c = fits _ c.play_all-p.ensures.state

pub returns : goal.returns
returns c =
    let r = replayed _ _ _ (c.play_all-p.ensures.state, (c.play_all-p.ensures.used, c.play_all-p.ensures.text)) c.put_end-length.ensures in
    record { used = r.0; text = r.1.0; whole = r.1.1 }

pub shape_of-out : goal.shape_of-out
shape_of-out c = put_long (returns c).text
