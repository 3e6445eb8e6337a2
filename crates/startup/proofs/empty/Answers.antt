-- Each column as its function says. Assumes nothing.
use Rattle.startup.proofs.FirstLaws.{nothing_yet}
use Rattle.startup.proofs.empty.Goals as goal

pub returns : goal.returns
returns c =
    let b = c in
    nothing_yet b.args.u b.args.ds c.no_busy.ensures c.no_list.ensures
    c.no_list-2.ensures c.no_jobs.ensures c.no_entries.ensures
