use Rattle.std.proofs.Common.{◌≡◌, refl, sym, ap, ◌∙◌, arith, rules}
use Prim.Native.Nat.{◌-◌, ◌+◌}
use native.Mathlib.Decide.{ℕ_discrete}
use borrow.Author.Tests.{eq-eqb, ne_eqb}
use Rattle.rules.specs.State.{at}
use Rattle.laws.specs.Chain.{ends_in}
use Rattle.laws.proofs.Walk.{ends_stuck, ends_turn, ends_here}
use Rattle.clauses.proofs.jobs.chain_ends.Goals as goal

pub loop-init : goal.loop-init
loop-init c = refl

pub returns-then-k-eq0 : goal.returns-then-k-eq0
returns-then-k-eq0 c = sym (c.loop.invariant ∙ ends_here _ _ _ c.if-k-eq0.true)

pub loop-preserved : goal.loop-preserved
loop-preserved c =
    let next : c.unwrap_or-k.result ≡ at c.args.parent.now c.from.result = search rules in
    c.loop.invariant ∙ ends_turn _ (32 - c.loop.counter) c.loop.k (32 - (c.loop.counter + 1)) c.from.result (omega arith) (omega arith) ∙ ap (ends_in (at c.args.parent.now) (32 - (c.loop.counter + 1))) (sym next)

-- no step is left
pub returns : goal.returns
returns c =
    let none : 32 - c.loop.counter ≡ 0 = omega arith in
    elim (ℕ_discrete c.loop.k 0) [
      | yes e ↦ eq-eqb c.loop.k 0 e ∙ sym (c.loop.invariant ∙ ends_here _ _ _ e)
      | no ne ↦ ne_eqb c.loop.k 0 ne ∙ sym (c.loop.invariant ∙ ends_stuck _ (32 - c.loop.counter) c.loop.k (c.loop.k - 1) none (omega arith))
    ]
