use Rattle.std.proofs.Common.{◌≡◌, ℕ, ◌+◌, Bool, not, false, length, get_or, take, refl, sym, ap, ◌∙◌, arith, rules}
use lib.Seq.{take-length}
use Rattle.laws.specs.Sequence.{keep}
use Rattle.laws.proofs.Building.{keep_more, keep_fewer, length_keep_take}
use Rattle.laws.proofs.Front.{length_snoc}
use Rattle.rules.specs.State.{at}
use Rattle.admission.specs.Admission.{kept_by}
use Rattle.admission.proofs.count_kept.Goals as goal
use Rattle.admission.proofs.count_kept.Goals.{else-not-dead-d, then-not-dead-d}

pub loop-d-init : goal.loop-d-init
unfolding keep
loop-d-init c = refl

pub bounds-dead-d : goal.bounds-dead-d
bounds-dead-d c = c.requires _ (omega arith)

pub overflow_add-n : goal.overflow_add-n
overflow_add-n c = omega (arith, length_keep_take (λ d. not (get_or c.args.dead.now d false)) c.args.dests.now c.loop-d.d-index (omega arith))

pub loop-d-preserved : goal.loop-d-preserved
loop-d-preserved c =
    let turn = c.loop-d in
    let dests = c.args.dests.now in
    let live : ℕ → Bool = λ d. not (get_or c.args.dead.now d false) in
    let one_more = sym (length_snoc (keep live (take turn.d-index dests)) (at dests turn.d-index)) in
    elim c.if-not-dead-d.branch [
      | then-not-dead-d w ↦ w.n-is ∙ ap (λ x. x + 1) turn.invariant ∙ one_more ∙ ap length (sym (keep_more live dests turn.d-index (omega arith) (search rules)))
      | else-not-dead-d w ↦ w.n-is ∙ turn.invariant ∙ ap length (sym (keep_fewer live dests turn.d-index (omega arith) (search rules)))
    ]

pub returns : goal.returns
unfolding kept_by
returns c =
    let e : c.loop-d.d-index ≡ length c.args.dests.now = omega arith in
    rw (e, take-length c.args.dests.now) at c.loop-d.invariant
