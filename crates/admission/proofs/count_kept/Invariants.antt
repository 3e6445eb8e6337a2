-- The kept among the destinations so far are counted. Assumes nothing.
use Rattle.std.proofs.Common.{◌≡◌, not, false, length, get_or, take}
use Rattle.laws.specs.Sequence.{keep}
use Rattle.admission.proofs.count_kept.Given as goal

abbrev pub invariant-loop-d : goal.invariant-loop-d
invariant-loop-d l = l.n ≡ length (keep (λ d. not (get_or l.dead d false)) (take l.d-index l.dests))
