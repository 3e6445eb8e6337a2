-- The buffer has room for the whole text. Assumes nothing.
use Rattle.std.proofs.Common.{arith}
use Rattle.replay.proofs.text_of.Goals as goal

pub returns : goal.returns
returns c = c.replay.ensures.whole (omega arith)
