use Rattle.std.proofs.Common.{◌≡◌, ℕ, ◌<◌, ◌&&◌, true, false, length, take, leb, sym, ap}
use lib.Seq.{take-length}
use native.Mathlib.Nat.{le_refl}
use Rattle.laws.specs.Sequence.{holds, never_falling, every_in}
use Rattle.rules.specs.State.{at}
use Rattle.listing.proofs.ListLaws.{rising_none, rising_more, rising_falls, rising_late, place_below}
use Rattle.listing.proofs.queues.seconds_rise.Goals as goal
use Rattle.listing.proofs.queues.seconds_rise.Goals.{then-second-last-via-then-second-last, then-second-last-via-else-second-last+then-clock-second}

pub loop-x-init : goal.loop-x-init
loop-x-init c = rising_none _ _ _ _

pub bounds-arrival-from : goal.bounds-arrival-from
bounds-arrival-from c =
    let items = c.numbers-x-items.result.now in
    let small : (x : ℕ) → holds x (take (length items) items) ≡ true → x < 32 = rw (take-length items, c.numbers-x-items.ensures) c.requires.by_index in
    rw c.from.ensures (place_below items (length items) (le_refl _) small c.loop-x.x-index c.loop-x-test.true)

pub returns-then-second-last : goal.returns-then-second-last
returns-then-second-last c =
    let items = c.numbers-x-items.result.now in
    let f = at c.args.arrival.now in
    let e = ap f c.from.ensures in
    let not_rising : never_falling f (take (length items) items) && every_in (λ j. leb (f j) c.args.clock) (take (length items) items) ≡ false =
    elim c.then-second-last.branch [
      | then-second-last-via-then-second-last w ↦ rising_falls f c.args.clock items (length items) (le_refl _) _ _ c.loop-x.invariant c.loop-x-test.true _ e w.if-second-last.true
      | then-second-last-via-else-second-last+then-clock-second w ↦
          rising_late f c.args.clock items (length items) (le_refl _) _ _ c.loop-x.invariant c.loop-x-test.true _ e w.if-clock-second.true
    ] in
    sym (rw (take-length items, c.numbers-x-items.ensures) at not_rising)

pub loop-x-preserved : goal.loop-x-preserved
loop-x-preserved c =
    rising_more _ _ _ _ (le_refl _) _ _ c.loop-x.invariant c.loop-x-test.true _ (ap (at c.args.arrival.now) c.from.ensures) c.if-second-last.false c.if-clock-second.false
