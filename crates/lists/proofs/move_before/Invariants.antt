-- What becomes of the numbers so far is written, zeros behind it. Assumes nothing.
use Rattle.std.proofs.Common.{◌≡◌, length, take}
use Rattle.laws.specs.Sequence.{padded}
use Rattle.lists.proofs.Moving.{moved}
use Rattle.lists.proofs.move_before.Given as goal

abbrev pub invariant-loop-z : goal.invariant-loop-z
invariant-loop-z l = (l.jobs ≡ padded 32 (moved l.x l.y (take l.z-index l.z-items))) × (l.m ≡ length (moved l.x l.y (take l.z-index l.z-items)))
