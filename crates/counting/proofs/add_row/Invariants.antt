-- `counting::add_row` meets its contract. Invariant: the places passed have their sum, the others are as they were.
use Prim.Native.Nat.{◌+◌, ◌*◌}
use Rattle.rules.specs.State.{at}
use Rattle.counting.proofs.PairLaws.{Added}
use Rattle.counting.proofs.add_row.Given as goal

abbrev pub invariant-loop-d : goal.invariant-loop-d
invariant-loop-d l = Added (λ i. at l.table (32 * l.j + i)) l.initial.sums l.sums l.d
