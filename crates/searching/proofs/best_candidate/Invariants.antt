-- `searching::best_candidate` meets its contract. Invariant: what the search knows before a rank (`SearchedTo`). Assumes nothing.
use Rattle.eligibility.specs.Eligibility.{ready_in}
use Rattle.searching.specs.Searching.{link_to}
use Rattle.searching.proofs.Searches.{SearchedTo}
use Rattle.searching.proofs.best_candidate.Given as goal

abbrev pub invariant-loop-x : goal.invariant-loop-x
invariant-loop-x l =
    SearchedTo l.jobs l.arrivals l.tables.waits.now (ready_in l.tables.pairs.now l.tables.room.now) l.time l.t l.y l.most (link_to l.best.job) l.than l.of l.best.looked l.x-index
