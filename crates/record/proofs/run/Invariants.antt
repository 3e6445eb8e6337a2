-- The line that was handed out last stays within the buffer, whose length stays. Assumes nothing.
use Prim.Native.Nat.{◌≤◌}
use mathlib.Core.Path.{◌≡◌}
use lib.ListN.{length}
use Rattle.record.proofs.run.Given as goal

abbrev pub invariant-loop-before : goal.invariant-loop-before
invariant-loop-before g l =
    (length l.line ≡ length l.initial.line) × (l.l.next ≤ l.l.have) × (l.l.have ≤ length l.line)
