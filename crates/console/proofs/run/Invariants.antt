-- The line that was handed out last stays within the buffer, whose length stays. Assumes nothing.
use Prim.Native.Nat.{◌≤◌, ◌<◌}
use mathlib.Core.Path.{◌≡◌}
use lib.ListN.{length}
use Rattle.console.proofs.run.Given as goal

abbrev pub invariant-loop : goal.invariant-loop
invariant-loop g l = record {
  some : 0 < length l.line;
  line : length l.line ≡ length l.initial.line;
  words : length l.words ≡ length l.initial.words;
  ahead : l.l.next ≤ l.l.have;
  inside : l.l.have ≤ length l.line;
}
