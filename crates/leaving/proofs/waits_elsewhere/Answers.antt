use Rattle.std.proofs.Common.{refl, sym, ap, ◌∙◌, ◌≡◌, ◌||◌, arith}
use Rattle.laws.specs.Range.{any_to}
use Rattle.laws.proofs.All.{any_step}
use Rattle.leaving.specs.Leaving.{elsewhere}
use Rattle.leaving.proofs.waits_elsewhere.Goals as goal

pub loop-x-init : goal.loop-x-init
unfolding any_to
loop-x-init c = refl

pub loop-x-preserved : goal.loop-x-preserved
loop-x-preserved c =
    let p = elsewhere c.args.pairs.now c.args.d c.args.j in
    ap (λ b. b || p c.loop-x.x) c.loop-x.invariant ∙ sym (any_step p c.loop-x.x)

pub returns : goal.returns
returns c = let e : c.loop-x.x ≡ 32 = omega arith in c.loop-x.invariant ∙ ap (any_to (elsewhere c.args.pairs.now c.args.d c.args.j)) e
