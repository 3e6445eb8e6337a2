use native.Mathlib.Omega.{arith}
use mathlib.Core.Path.{◌≡◌, refl, sym, ◌∙◌}
use mathlib.Core.Bool.{false}
use Prim.Native.Nat.{◌-◌, ◌+◌}
use lib.ListN.{get_or}
use Rattle.laws.proofs.Walk.{nearest_none, nearest_end, nearest_here, nearest_on}
use Rattle.rules.specs.State.{at}
use Rattle.charging.proofs.Leads.{leads_below, leads_next}
use Rattle.leaving.proofs.nearest.Goals as goal

pub loop-init : goal.loop-init
loop-init c = (refl, c.requires)

pub returns-then-link-eq0 : goal.returns-then-link-eq0
returns-then-link-eq0 c = sym (nearest_end _ _ _ _ c.if-link-eq0.true) ∙ c.loop.invariant.0

pub bounds-stays-j : goal.bounds-stays-j
bounds-stays-j c = omega (arith, leads_below _ _ _ (omega arith) (omega arith) c.loop.invariant.1)

pub returns-then-stays-j : goal.returns-then-stays-j
returns-then-stays-j c = sym (nearest_here _ _ _ _ _ (omega arith) (omega arith) c.from-j.ensures c.if-stays-j.true) ∙ c.loop.invariant.0

pub bounds-parent-j : goal.bounds-parent-j
bounds-parent-j c = omega (arith, leads_below _ _ _ (omega arith) (omega arith) c.loop.invariant.1)

pub loop-preserved : goal.loop-preserved
loop-preserved c =
    let e : 32 - (c.loop.counter + 1) ≡ 32 - c.loop.counter - 1 = omega arith in (
      rw e (nearest_on (λ x. get_or c.args.stays.now x false) (at c.args.parent.now) (32 - c.loop.counter) c.loop.link
          c.from-j.result (omega arith) (omega arith) c.from-j.ensures c.if-stays-j.false ∙ c.loop.invariant.0),
      rw (e, c.from-j.ensures) (leads_next _ _ _ (omega arith) (omega arith) c.loop.invariant.1),
    )

pub returns : goal.returns
returns c = sym (nearest_none _ _ _ _ (omega arith)) ∙ c.loop.invariant.0
