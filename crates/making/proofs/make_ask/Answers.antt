use mathlib.Core.Path.{sym, ap, ◌∙◌}
use Rattle.rules.specs.Answers.{number_says}
use Rattle.layout.specs.Layout.{answer_row}
use Rattle.making.proofs.MadeLaws.{made}
use Rattle.making.proofs.make_ask.Goals as goal

pub returns-in-Ok : goal.returns-in-Ok
returns-in-Ok c = made _ _ _ c.ask.ensures (c.put_number.ensures ∙ sym (ap (λ x. answer_row (number_says x)) c.in-Ok.is))

pub returns-in-Err : goal.returns-in-Err
returns-in-Err c = made _ _ _ c.ask.ensures (c.put_number-in-Err.ensures ∙ sym (ap (λ x. answer_row (number_says x)) c.in-Err.is))
