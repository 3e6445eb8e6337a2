-- `counting::count_entries` meets its contract. Invariant: the entries passed are right, and the tables count them.
use Rattle.counting.specs.Counting.{columns}
use Rattle.counting.proofs.EntryLaws.{Counted}
use Rattle.counting.proofs.count_entries.Given as goal

abbrev pub invariant-loop-e : goal.invariant-loop-e
invariant-loop-e l =
    Counted (columns l.kind l.job l.destination l.present l.transport l.home l.destinations l.marked) l.e l.pairs l.busy l.to l.on
