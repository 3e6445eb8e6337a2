-- Each group is a turn; the first is apart. Assumes nothing.
use Prim.Native.Nat.{◌+◌, ◌-◌}
use Rattle.fields.proofs.GroupLaws.{Grouped}
use Rattle.fields.proofs.number.Given as goal

abbrev pub invariant-loop-at : goal.invariant-loop-at
invariant-loop-at l = Grouped l.journal l.offset l.value l.place l.at (l.offset + 5 - l.at)
