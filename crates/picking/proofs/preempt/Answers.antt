use Rattle.std.proofs.Common.{refl, ap, ◌∙◌, add-one}
use Rattle.laws.specs.Sequence.{move_before}
use Rattle.rules.specs.State.{list_of, listed}
use Rattle.rules.specs.Preemption.{preempting}
use Rattle.rules.proofs.Shapes.{same_list}
use Rattle.picking.proofs.preempt.Goals as goal

pub returns : goal.returns
unfolding preempting
returns c =
    let a = c.args in
    let own = ap (λ q. listed (move_before a.p.job a.current (list_of q))) (same_list a.state.now a.transport c.requires.lists c.requires.lane) in
    rw (c.move_before.ensures ∙ own, c.charge_from.ensures, add-one a.current) refl
