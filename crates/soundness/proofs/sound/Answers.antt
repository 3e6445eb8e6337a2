-- `soundness::sound` meets its contract: the table begins as zeros.
use Rattle.soundness.proofs.sound.Goals as goal

pub returns : goal.returns
returns c = c.sound_with.ensures.answer
