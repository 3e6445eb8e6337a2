use Rattle.std.proofs.Common.{◌≡◌, ℕ, ◌<◌, ◌≤◌, Bool, false, List, length, get_or, take, refl, sym, ◌∙◌, arith}
use lib.Seq.{take-length}
use Rattle.laws.specs.Sequence.{padded, keep}
use Rattle.laws.proofs.Building.{keep_put, keep_skip, length_keep_take}
use Rattle.lists.proofs.Listed.{listed_is, few_numbers}
use Rattle.lists.proofs.keep.Goals as goal
use Rattle.lists.proofs.keep.Goals.{At-loop-j, then-marked, else-marked}

abbrev stays : At-loop-j → ℕ → Bool
stays c = λ j. get_or c.args.stays.now j false

abbrev numbers : At-loop-j → List ℕ
numbers c = c.numbers-j-items.result.now

few : (c : At-loop-j) → length (numbers c) ≤ 32
few c = few_numbers c.args.q _ c.numbers-j-items.ensures c.requires.0

kept : (c : At-loop-j) → length (keep (stays c) (take c.loop-j.j-index (numbers c))) ≤ c.loop-j.j-index
kept c = length_keep_take (stays c) (numbers c) c.loop-j.j-index (omega arith)

pub loop-j-init : goal.loop-j-init
unfolding padded keep
loop-j-init c = (refl, refl)

pub bounds-jobs-m : goal.bounds-jobs-m
bounds-jobs-m c =
    let at = (goal.at.bounds-jobs-m c).At-loop-j in
    omega (arith, kept at, few at)

pub overflow_add-m : goal.overflow_add-m
overflow_add-m c =
    let at = (goal.at.overflow_add-m c).At-loop-j in
    omega (arith, kept at, few at)

pub loop-j-preserved : goal.loop-j-preserved
loop-j-preserved c =
    let at = (goal.at.loop-j-preserved c).At-loop-j in
    let l : c.loop-j.j-index < length (numbers at) = omega arith in
    elim c.if-marked.branch [
      | then-marked w ↦ keep_put (stays at) (numbers at) c.loop-j.j-index 32 l c.loop-j.invariant.0 c.loop-j.invariant.1 (omega (arith, few at)) (sym c.marked.ensures ∙ w.if-marked.true) w.jobs-is w.m-is
      | else-marked w ↦ keep_skip (stays at) (numbers at) c.loop-j.j-index 32 l c.loop-j.invariant.0 c.loop-j.invariant.1 (sym c.marked.ensures ∙ w.if-marked.false) w.jobs-is w.m-is
    ]

pub overflow_cast-result : goal.overflow_cast-result
overflow_cast-result c =
    let at = (goal.at.overflow_cast-result c).At-loop-j in
    omega (arith, kept at, few at)

pub returns : goal.returns
returns c =
    let all : c.loop-j.j-index ≡ length c.numbers-j-items.result.now = omega arith in
    let jobs = rw (all, take-length c.numbers-j-items.result.now, c.numbers-j-items.ensures) at c.loop-j.invariant.0 in
    let count = rw (all, take-length c.numbers-j-items.result.now, c.numbers-j-items.ensures) at c.loop-j.invariant.1 in
    listed_is _ _ _ jobs count
