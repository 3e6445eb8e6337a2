use Rattle.making.proofs.MadeLaws.{made}
use Rattle.making.proofs.make_board.Goals as goal

pub returns : goal.returns
returns c = made _ _ _ c.board.ensures c.put_number.ensures
