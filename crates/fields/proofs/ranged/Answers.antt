-- The number is read, then held to its range. Assumes nothing.
use Rattle.std.proofs.Common.{◌∙◌, sym, ap, arith}
use Rattle.std.proofs.lemmas.Grind.{common_steps}
use Rattle.fields.specs.Fields.{told}
use Rattle.fields.proofs.FieldLaws.{still_faulty, too_low, too_high, inside}
use Rattle.fields.proofs.ranged.Goals as goal
use Rattle.fields.proofs.ranged.Goals.{then-f-low-via-then-f-low, then-f-low-via-else-f-low+then-high-f}

pub returns-in_err-f : goal.returns-in_err-f
returns-in_err-f c =
    let e = still_faulty c.args.low c.args.high _ c.in_err-f.ensures in
    grind (arith, common_steps)

pub returns-then-f-low : goal.returns-then-f-low
returns-then-f-low c =
    let e = ap told (sym c.in_ok-f.was) ∙ c.number.ensures in
    elim c.then-f-low.branch [
      | then-f-low-via-then-f-low w ↦ too_low _ _ _ e w.if-f-low.true
      | then-f-low-via-else-f-low+then-high-f w ↦ too_high _ _ _ e w.if-high-f.true
    ]

pub returns : goal.returns
returns c = inside _ _ _ (ap told (sym c.in_ok-f.was) ∙ c.number.ensures) c.if-f-low.false c.if-high-f.false
