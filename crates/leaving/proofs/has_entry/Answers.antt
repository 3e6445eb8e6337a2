use Rattle.std.proofs.Common.{refl, sym, ap, ◌∙◌, ◌≡◌, ◌||◌, arith}
use Rattle.laws.specs.Range.{any_to}
use Rattle.laws.proofs.All.{any_step}
use Rattle.leaving.specs.Leaving.{used_at}
use Rattle.leaving.proofs.has_entry.Goals as goal

pub loop-e-init : goal.loop-e-init
unfolding any_to
loop-e-init c = refl

pub loop-e-preserved : goal.loop-e-preserved
loop-e-preserved c =
    let p = used_at c.args.kind.now c.args.job.now c.args.j in
    ap (λ b. b || p c.loop-e.e) c.loop-e.invariant ∙ sym (any_step p c.loop-e.e)

pub returns : goal.returns
returns c = let e : c.loop-e.e ≡ 512 = omega arith in c.loop-e.invariant ∙ ap (any_to (used_at c.args.kind.now c.args.job.now c.args.j)) e
