-- The number that the word asks for, or all. Assumes nothing.
use Rattle.std.proofs.Common.{◌∙◌}
use Rattle.replay.proofs.budget_of.Goals as goal

pub returns : goal.returns
returns c = c.unwrap_or.ensures ∙ c.number_asked.ensures.budget
