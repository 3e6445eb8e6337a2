-- A digit a turn. Assumes nothing.
use Prim.Native.Nat.{◌+◌, ◌<◌}
use mathlib.Core.Path.{◌≡◌}
use lib.ListN.{length}
use Rattle.rules.specs.Board.{decimal}
use Rattle.writing.proofs.decimal_length.Given as goal

abbrev pub invariant-loop-y : goal.invariant-loop-y
invariant-loop-y l = (l.n + length (decimal l.y) ≡ 1 + length (decimal l.x)) × (l.y < 18_446_744_073_709_551_616)

abbrev pub decreases-loop-y : goal.decreases-loop-y
decreases-loop-y l = l.y
