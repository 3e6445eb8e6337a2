use native.Mathlib.Omega.{arith}
use Prim.Native.Nat.{◌≤◌, ◌<◌}
use mathlib.Core.Path.{◌≡◌}
use Rattle.rules.specs.State.{at}
use Rattle.counting.proofs.EntryLaws.{counts_within, counts_room, counted_none, counted_free, counted_not, counted_inside, counted_kind}
use Rattle.counting.proofs.EntryLaws.{counted_waiting, counted_busy, counted_row_fits, counted_column_fits, counted_done}
use Rattle.counting.proofs.count_entries.Goals as goal
use Rattle.counting.proofs.count_entries.Goals.{Else-not-right, then-k-eq1, else-k-eq1}

inside : (c : Else-not-right) → (c.from-j.result < 32) × (c.from-d.result < c.args.destinations) × (c.from-d.result < 32)
inside c =
    counted_inside _ _ _ _ _ _ c.loop-e.invariant
    c.if-k-eq0.false
    c.from-j.result c.from-d.result
    c.from-j.ensures c.from-d.ensures _
    c.belongs.ensures c.if-not-right.false c.told-present c.requires.destinations_bound

kind-few : (c : Else-not-right) → at c.args.kind.now c.loop-e.e ≤ 2
kind-few c =
    counted_kind _ _ _ _ _ _ c.loop-e.invariant
    c.if-k-eq0.false
    c.from-j.result c.from-d.result
    c.from-j.ensures c.from-d.ensures _
    c.belongs.ensures c.if-not-right.false c.told-present c.requires.destinations_bound

home_below : (c : Else-not-right) → at c.args.home.now c.from-d.result < 4
home_below c = c.requires.by_index c.from-d.result (inside c).1

pub loop-e-init : goal.loop-e-init
loop-e-init c = counted_none _ _ c.requires.pairs_value

pub loop-e-preserved-then-k-eq0 : goal.loop-e-preserved-then-k-eq0
loop-e-preserved-then-k-eq0 c = counted_free _ _ _ _ _ _ c.loop-e.invariant c.if-k-eq0.true

pub returns-then-not-right-clause-counts : goal.returns-then-not-right-clause-counts
returns-then-not-right-clause-counts c =
    counted_not _ _ _ _ _ _ c.loop-e.invariant c.if-k-eq0.false c.from-j.result c.from-d.result c.from-j.ensures c.from-d.ensures _ c.belongs.ensures c.if-not-right.true (omega arith)

pub bounds-pairs-j : goal.bounds-pairs-j
bounds-pairs-j c = omega (arith, inside (goal.at.bounds-pairs-j c).Else-not-right)

pub overflow_add-pairs-then-k-eq1 : goal.overflow_add-pairs-then-k-eq1
overflow_add-pairs-then-k-eq1 c = counts_room _ _ _ _ _ _ c.loop-e.invariant.pairs _ (omega (arith, inside (goal.at.overflow_add-pairs-then-k-eq1 c).Else-not-right)) (omega arith)

pub bounds-pairs-j-then-k-eq1 : goal.bounds-pairs-j-then-k-eq1
bounds-pairs-j-then-k-eq1 c = omega (arith, inside (goal.at.bounds-pairs-j-then-k-eq1 c).Else-not-right)

pub bounds-home-d : goal.bounds-home-d
bounds-home-d c = omega (arith, inside (goal.at.bounds-home-d c).Else-not-right)

pub bounds-busy-j : goal.bounds-busy-j
bounds-busy-j c = omega (arith, inside (goal.at.bounds-busy-j c).Else-not-right)

pub overflow_add-busy : goal.overflow_add-busy
overflow_add-busy c = omega (arith, counts_within _ _ _ _ _ _ c.loop-e.invariant.busy c.from-j.result (inside (goal.at.overflow_add-busy c).Else-not-right).0)

pub bounds-busy-j-else-k-eq1 : goal.bounds-busy-j-else-k-eq1
bounds-busy-j-else-k-eq1 c = omega (arith, inside (goal.at.bounds-busy-j-else-k-eq1 c).Else-not-right)

pub bounds-to-d : goal.bounds-to-d
bounds-to-d c = omega (arith, inside (goal.at.bounds-to-d c).Else-not-right)

pub overflow_add-to : goal.overflow_add-to
overflow_add-to c = omega (arith, counts_within _ _ _ _ _ _ c.loop-e.invariant.to c.from-d.result (omega (arith, inside (goal.at.overflow_add-to c).Else-not-right)))

pub bounds-to-d-else-k-eq1 : goal.bounds-to-d-else-k-eq1
bounds-to-d-else-k-eq1 c = omega (arith, inside (goal.at.bounds-to-d-else-k-eq1 c).Else-not-right)

pub offset_bounds-on-home : goal.offset_bounds-on-home
offset_bounds-on-home c = omega (arith, home_below (goal.at.offset_bounds-on-home c).Else-not-right)

pub bounds-on-home : goal.bounds-on-home
bounds-on-home c = omega (arith, home_below (goal.at.bounds-on-home c).Else-not-right)

pub overflow_add-on : goal.overflow_add-on
overflow_add-on c = omega (arith, counts_within _ _ _ _ _ _ c.loop-e.invariant.on _ (home_below (goal.at.overflow_add-on c).Else-not-right))

pub bounds-on-home-else-k-eq1 : goal.bounds-on-home-else-k-eq1
bounds-on-home-else-k-eq1 c = omega (arith, home_below (goal.at.bounds-on-home-else-k-eq1 c).Else-not-right)

pub row_sums-requires : goal.row_sums-requires
row_sums-requires c = λ j l. (let f = counted_row_fits _ _ _ _ _ _ c.loop-e.invariant j l in omega (arith, f))

pub column_sums-requires : goal.column_sums-requires
column_sums-requires c = λ d l. (let f = counted_column_fits _ _ _ _ _ _ c.loop-e.invariant d l in omega (arith, f))

pub loop-e-preserved : goal.loop-e-preserved
loop-e-preserved c =
    elim c.if-k-eq1.branch [
      | then-k-eq1 w ↦ rw (w.pairs-is, w.busy-is, w.to-is, w.on-is)
          (counted_waiting _ _ _ _ _ _ c.loop-e.invariant c.if-k-eq0.false c.from-j.result c.from-d.result c.from-j.ensures c.from-d.ensures _
          c.belongs.ensures c.if-not-right.false c.told-present c.requires.destinations_bound w.if-k-eq1.true)
      | else-k-eq1 w ↦ rw (w.pairs-is, w.busy-is, w.to-is, w.on-is)
          (counted_busy _ _ _ _ _ _ c.loop-e.invariant c.if-k-eq0.false c.from-j.result c.from-d.result c.from-j.ensures c.from-d.ensures _
          c.belongs.ensures c.if-not-right.false c.told-present c.requires.destinations_bound
          (omega (arith, kind-few (goal.at.loop-e-preserved c).Else-not-right, w.if-k-eq1.false, c.if-k-eq0.false)) (home_below (goal.at.loop-e-preserved c).Else-not-right))
    ]

pub returns-clause-counts : goal.returns-clause-counts
returns-clause-counts c =
    let e : c.loop-e.e ≡ 512 = omega arith in
    let s = rw e at c.loop-e.invariant in
    counted_done _ _ _ s c.row_sums.ensures.size c.row_sums.ensures.sums c.column_sums.ensures.size c.column_sums.ensures.sums
