-- Either those are looked at that lost an entry, or one, where the others lost none (`stay_one`). Assumes nothing.
use Rattle.std.proofs.Common.{◌∙◌, sym, ap, get_or, false, rules}
use Rattle.leaving.proofs.Marks.{stay_one, stays_both, stays_absent}
use Rattle.leaving.proofs.staying.Goals as goal
use Rattle.leaving.proofs.staying.Goals.{then-present-j, else-present-j}

pub returns : goal.returns
returns c =
    let asked = rw c.in_default.is at c.requires in
    rw c.from-j.ensures
    (stay_one c.args.kind.now c.args.job.now c.args.present c.args.of (search rules) asked.1
    (elim c.if-present-j.branch [
      | then-present-j w ↦ w.stays-is ∙ stays_both c.args.kind.now c.args.job.now c.args.present c.args.of (ap (λ i. get_or c.args.present i false) (sym c.from-j.ensures) ∙ w.if-present-j.true) w.has_entry.ensures
      | else-present-j w ↦ w.stays-is ∙ w.if-present-j.false ∙ stays_absent c.args.kind.now c.args.job.now c.args.present c.args.of (ap (λ i. get_or c.args.present i false) (sym c.from-j.ensures) ∙ w.if-present-j.false)
    ]))
