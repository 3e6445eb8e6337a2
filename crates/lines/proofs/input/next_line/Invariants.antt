-- What is held stays in order and within the buffer, whose length stays. Assumes nothing.
use Prim.Native.Nat.{◌≤◌, ◌<◌}
use mathlib.Core.Path.{◌≡◌}
use lib.ListN.{length}
use Rattle.lines.proofs.input.next_line.Given as goal

abbrev pub invariant-loop : goal.invariant-loop
invariant-loop g l =
    (0 < length l.buffer) × (length l.buffer ≡ length l.initial.buffer) × (l.h.start ≤ l.seen) × (l.seen ≤ l.h.have) × (l.h.have ≤ length l.buffer)
