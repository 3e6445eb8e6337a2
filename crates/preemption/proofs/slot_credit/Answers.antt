-- `preemption::slot_credit` meets its contract: both numbers are small, so the signed difference fits. Assumes nothing.
use Rattle.std.proofs.Common.{◌*◌, ap, ◌∙◌, arith}
use lib.IntN.{pos, ◌-ℤ◌}
use Rattle.rules.specs.Preemption.{credit}
use Rattle.preemption.proofs.Credits.{credit_fits, credit_is}
use Rattle.preemption.proofs.slot_credit.Goals as goal

pub overflow_sub-result : goal.overflow_sub-result
overflow_sub-result c = credit_fits c.args.picked (c.args.cost * c.from-2.result) (omega arith) (rw c.from-2.ensures c.requires) c.from.result c.from.ensures

pub returns : goal.returns
unfolding credit
returns c =
    credit_is c.args.picked (c.args.cost * c.from-2.result) (omega arith) (rw c.from-2.ensures c.requires) c.from.result c.from.ensures
    ∙ ap (λ n. pos c.args.picked -ℤ pos (c.args.cost * n)) c.from-2.ensures
