-- By its definition. Assumes nothing.
use Rattle.std.proofs.Common.{refl}
use borrow.Author.Tests.{le-leb, lt-leb}
use Rattle.rules.specs.Setup.{within}
use Rattle.laws.proofs.Bools.{and_left_false, and_right_false}
use Rattle.writer.proofs.parts.in_range.Goals as goal
use Rattle.writer.proofs.parts.in_range.Goals.{else-low-x-via-then-low-x+else-x-high, else-low-x-via-else-low-x}

pub returns-then-x-high : goal.returns-then-x-high
unfolding within
returns-then-x-high c = rw (le-leb _ _ c.if-low-x.true, le-leb _ _ c.if-x-high.true) refl

pub returns-else-low-x : goal.returns-else-low-x
unfolding within
returns-else-low-x c = elim c.else-low-x.branch [
  | else-low-x-via-then-low-x+else-x-high w ↦ rw (and_right_false _ (lt-leb _ _ w.if-x-high.false)) refl
  | else-low-x-via-else-low-x w ↦ rw (and_left_false _ (lt-leb _ _ w.if-low-x.false)) refl
]
