use mathlib.Core.List.{append-nil}
use mathlib.Core.Path.{◌≡◌, refl, ap, ◌∙◌}
use native.Mathlib.Omega.{arith}
use lib.ListN.{set}
use Rattle.laws.specs.Range.{table_to}
use Rattle.laws.proofs.Fill.{table_drop_step}
use Rattle.admission.specs.Admission.{dead_on}
use Rattle.admission.proofs.dead_table.Goals as goal

pub loop-d-init : goal.loop-d-init
unfolding table_to
loop-d-init c = (refl, omega arith, refl)

pub loop-d-preserved : goal.loop-d-preserved
unfolding dead_on
loop-d-preserved c =
    let turn = c.loop-d in
    let start = c in (
      ap (set turn.dead turn.d) c.is_dead.ensures ∙ rw turn.invariant.0 (table_drop_step (dead_on start.args.ds) _ turn.d (omega (arith, turn.invariant.2))),
      omega arith,
      turn.invariant.2,
    )

pub returns : goal.returns
returns c =
    let e : c.loop-d.d ≡ 32 = omega arith in
    (rw e at c.loop-d.invariant.0) ∙ append-nil (table_to (dead_on c.args.ds) 32)
