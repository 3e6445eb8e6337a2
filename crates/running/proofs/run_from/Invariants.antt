use Prim.Native.Nat.{◌-◌}
use lib.ListN.{length}
use Rattle.running.proofs.TurnLaws.{Running}
use Rattle.running.proofs.run_from.Given as goal

abbrev pub invariant-loop-end : goal.invariant-loop-end
invariant-loop-end l =
    Running l.initial.state l.calls l.initial.answers l.initial.lists l.initial.texts l.state l.made l.at l.row l.listed l.told l.answers l.lists l.texts

abbrev pub decreases-loop-end : goal.decreases-loop-end
decreases-loop-end l =
    length l.calls - l.at
