use Rattle.std.proofs.Common.{◌≡◌, ◌+◌, true, false, refl, sym, ap, ◌∙◌, arith}
use borrow.Author.Tests.{eq-eqb, ne_eqb}
use Rattle.laws.specs.Range.{count_to, chosen_to}
use Rattle.laws.specs.Sequence.{padded}
use Rattle.laws.proofs.Count.{count_hit, count_miss}
use Rattle.laws.proofs.First.{length_chosen, chosen_hit, chosen_miss, chosen_prefix}
use Rattle.laws.proofs.Sequence.{get_or_padded}
use Rattle.laws.proofs.Building.{put_at}
use Rattle.rules.specs.State.{at}
use Rattle.admission.specs.Admission.{free_in}
use Rattle.newjob.proofs.free_places.Goals as goal
use Rattle.newjob.proofs.free_places.Goals.{else-k-eq0, then-k-eq0}

pub loop-e-init : goal.loop-e-init
unfolding padded chosen_to count_to
loop-e-init c = (refl, refl, omega arith)

pub loop-e-preserved : goal.loop-e-preserved
unfolding free_in
loop-e-preserved c =
    let turn = c.loop-e in
    let f = free_in c.args.kind.now in
    elim c.if-k-eq0.branch [
      | then-k-eq0 w ↦ let t : f turn.e ≡ true = eq-eqb _ _ w.if-k-eq0.true in (
        w.places-is ∙ put_at 256 (chosen_to f turn.e) turn.e turn.invariant.0 (turn.invariant.1 ∙ sym (length_chosen f turn.e)) (omega arith) ∙ ap (padded 256) (sym (chosen_hit f turn.e t)),
        w.m-is ∙ ap (λ x. x + 1) turn.invariant.1 ∙ sym (count_hit f turn.e t),
        omega (arith, w.m-is),
      )
      | else-k-eq0 w ↦ let t : f turn.e ≡ false = ne_eqb _ _ w.if-k-eq0.false in (
        w.places-is ∙ turn.invariant.0 ∙ ap (padded 256) (sym (chosen_miss f turn.e t)),
        w.m-is ∙ turn.invariant.1 ∙ sym (count_miss f turn.e t),
        omega (arith, w.m-is),
      )
    ]

pub returns-after-loop-e : goal.returns-after-loop-e
returns-after-loop-e c = λ i l.
    let f = free_in c.args.kind.now in
    ap (λ a. at a i) c.loop-e.invariant.0 ∙ get_or_padded 256 (chosen_to f c.loop-e.e) i ∙ chosen_prefix f 0 c.loop-e.e 512 i (omega arith) (let all : c.loop-e.e ≡ 512 = omega arith in rw all (omega arith))

pub returns-then-m-n : goal.returns-then-m-n
returns-then-m-n c = λ i l.
    let f = free_in c.args.kind.now in
    ap (λ a. at a i) c.loop-e.invariant.0 ∙ get_or_padded 256 (chosen_to f c.loop-e.e) i ∙ chosen_prefix f 0 c.loop-e.e 512 i (omega arith) (omega arith)
