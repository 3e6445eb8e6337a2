-- Those below d are woken, the others as they came; only what is due is written. Assumes nothing.
use mathlib.Core.Path.{◌≡◌}
use lib.ListN.{length}
use Rattle.waking.specs.Waking.{setup_of}
use Rattle.waking.proofs.WakingLaws.{woken_to}
use Rattle.waking.proofs.wake.Given as goal

abbrev pub invariant-loop-d : goal.invariant-loop-d
invariant-loop-d l =
    (l.next ≡ woken_to l.initial.next (setup_of l.home l.settings l.count) l.now l.d) × (length l.initial.next ≡ 32)
