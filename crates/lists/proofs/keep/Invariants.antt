-- What was kept of the numbers so far is written, zeros behind it. Assumes nothing.
use Rattle.std.proofs.Common.{◌≡◌, false, length, take, get_or}
use Rattle.laws.specs.Sequence.{padded, keep}
use Rattle.lists.proofs.keep.Given as goal

abbrev pub invariant-loop-j : goal.invariant-loop-j
invariant-loop-j l =
    (l.jobs ≡ padded 32 (keep (λ j. get_or l.stays j false) (take l.j-index l.j-items))) × (l.m ≡ length (keep (λ j. get_or l.stays j false) (take l.j-index l.j-items)))
