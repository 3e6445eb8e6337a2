-- The numbers are counted against what T and D announce. Assumes nothing.
use Rattle.std.proofs.Common.{◌∙◌}
use Rattle.lines.proofs.SetupLaws.{too_many, no_place, counted_as}
use Rattle.lines.proofs.setups.count_place.Goals as goal

pub returns-then-words-t-clause-place : goal.returns-then-words-t-clause-place
returns-then-words-t-clause-place c = too_many _ _ c.word-t.ensures c.if-words-t.true

pub returns-in_err-d-clause-place : goal.returns-in_err-d-clause-place
returns-in_err-d-clause-place c = c.from_residual.ensures ∙ no_place _ _ c.word-t.ensures c.in_err-d.ensures.lookup.3

pub returns-clause-place : goal.returns-clause-place
returns-clause-place c = c.then_some.ensures ∙ counted_as _ _ c.word-t.ensures _ (c.in_ok-d.ensures.lookup.3.1 0) c.in_ok-d.ensures.lookup.3.0
