-- Larger, smaller, equal. Assumes nothing.
use Rattle.std.proofs.Common.{arith}
use Rattle.std.proofs.lemmas.Grind.{common_steps}
use Rattle.window.proofs.Cases.{window_raised, window_lowered, window_unchanged}
use Rattle.window.proofs.window_moved.Goals as goal

pub returns-in-Less : goal.returns-in-Less
returns-in-Less c = window_raised _ _ (grind (arith, common_steps))

pub returns-in-Greater : goal.returns-in-Greater
returns-in-Greater c = window_lowered _ _ (grind (arith, common_steps))

pub returns-in-Equal : goal.returns-in-Equal
returns-in-Equal c = window_unchanged _ _ (grind (arith, common_steps)) (grind (arith, common_steps))
