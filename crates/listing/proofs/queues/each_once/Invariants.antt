-- `listing::queues::each_once` meets its contract. Invariant: the table has the jobs that were not met so far.
use Rattle.std.proofs.Common.{false, get_or}
use Rattle.listing.proofs.ListLaws.{Left}
use Rattle.listing.proofs.queues.each_once.Given as goal

abbrev pub invariant-loop-x : goal.invariant-loop-x
invariant-loop-x l = Left (λ x. get_or l.initial.left x false) l.x-items l.x-index l.left
