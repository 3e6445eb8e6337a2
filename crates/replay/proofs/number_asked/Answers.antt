-- What was read is the number of the word; digits that are no number ask for all. Assumes nothing.
use Rattle.std.proofs.Common.{sym, ◌∙◌}
use Rattle.replay.proofs.BudgetLaws.{budget_not, budget_read}
use Rattle.replay.proofs.number_asked.Goals as goal

pub returns-then-not-is_decimal-clause-budget : goal.returns-then-not-is_decimal-clause-budget
returns-then-not-is_decimal-clause-budget c = budget_not _ (sym c.is_decimal.ensures ∙ c.if-not-is_decimal.true)

pub returns-clause-budget : goal.returns-clause-budget
returns-clause-budget c =
    c.unwrap_or.ensures ∙ budget_read _ (sym c.is_decimal.ensures ∙ c.if-not-is_decimal.false) c.read_number.result c.read_number.ensures
