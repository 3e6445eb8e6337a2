use Rattle.making.proofs.MadeLaws.{made}
use Rattle.making.proofs.make_pick.Goals as goal

pub returns : goal.returns
returns c = made _ _ _ c.pick-picked.ensures.reply c.put_pick.ensures
