use Rattle.std.proofs.Common.{◌≡◌, Bool, true, false, length, take, get_or, leb, refl, sym, ap, ◌∙◌, arith, rules}
use lib.Seq.{take-length}
use native.Mathlib.Nat.{le_refl}
use borrow.Author.Tests.{le-leb}
use mathlib.Core.Bool.{beq}
use Rattle.laws.specs.Range.{any_to}
use Rattle.laws.specs.Sequence.{holds_each_once}
use Rattle.laws.proofs.Bools.{and_right_false}
use Rattle.laws.proofs.All.{any_same}
use Rattle.laws.proofs.Iterated.{any_to_any}
use Rattle.listing.proofs.ListLaws.{left_none, left_more, left_out, left_gone, left_done}
use Rattle.listing.proofs.queues.each_once.Goals as goal
use Rattle.listing.proofs.queues.each_once.Goals.{then-x-ge32-via-then-x-ge32, then-x-ge32-via-else-x-ge32+then-not-left-x}

pub loop-x-init : goal.loop-x-init
loop-x-init c = left_none _ _ (search rules)

pub returns-then-x-ge32 : goal.returns-then-x-ge32
returns-then-x-ge32 c =
    let items = c.numbers-x-items.result.now in
    let not_once : holds_each_once (λ x. get_or c.args.these x false) 32 (take (length items) items) ≡ false =
    elim c.then-x-ge32.branch [
      | then-x-ge32-via-then-x-ge32 w ↦ left_out _ items _ _ c.loop-x.invariant c.from-x.result c.from-x.ensures (length items) c.loop-x-test.true (le_refl _) w.if-x-ge32.true
      | then-x-ge32-via-else-x-ge32+then-not-left-x w ↦
          left_gone _ items _ _ c.loop-x.invariant c.from-x.result c.from-x.ensures (length items) c.loop-x-test.true (le_refl _) w.if-x-ge32.false w.if-not-left-x.true
    ] in
    sym (and_right_false (leb c.args.q.count 32) (rw (take-length items, c.numbers-x-items.ensures) at not_once))

pub loop-x-preserved : goal.loop-x-preserved
loop-x-preserved c = left_more _ _ _ _ c.loop-x.invariant c.from-x.result c.from-x.ensures c.if-x-ge32.false c.if-not-left-x.false

beq_true : (b : Bool) → beq b true ≡ b
beq_true true = refl
beq_true false = refl

pub returns : goal.returns
returns c =
    let items = c.numbers-x-items.result.now in
    let all : c.loop-x.x-index ≡ length items = omega arith in
    let left = c.loop-x.left in
    let any : c.contains.result ≡ any_to (λ x. get_or left x false) 32 =
    c.contains.ensures.value
    ∙ sym (any_to_any (λ b. beq b true) left false)
    ∙ any_same (λ x. beq (get_or left x false) true) (λ x. get_or left x false) (length left) (λ x l. beq_true (get_or left x false))
    ∙ ap (any_to (λ x. get_or left x false)) c.loop-x.invariant.size in
    let done = left_done _ items c.loop-x.x-index c.loop-x.left c.loop-x.invariant (omega arith) in
    rw (le-leb c.args.q.count 32 (omega arith), any) (rw (all, take-length items, c.numbers-x-items.ensures) at done)
