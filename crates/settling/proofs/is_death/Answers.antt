-- Case by case. Assumes nothing.
use Rattle.std.proofs.Common.{◌≡◌, refl, ◌∙◌}
use denote.Enum.Bare.{sameb}
use Rattle.rules.specs.declared.Move.{Move}
use Rattle.rules.specs.contracts.Move.{the_type}
use Rattle.rules.specs.Reporting.{is_death}
use Rattle.settling.proofs.is_death.Goals as goal

death_is : (m : Move) → sameb the_type m Move.Dead ≡ is_death m
unfolding is_death
death_is Move.Unchanged = refl
death_is Move.Raised = refl
death_is Move.Lowered = refl
death_is Move.Dead = refl
death_is Move.Revived = refl

pub returns : goal.returns
returns c = c.eq.ensures ∙ death_is c.args.m
