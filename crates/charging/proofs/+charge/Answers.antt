-- Each call charges one job and hands on its link. Assumes nothing.
use Rattle.std.proofs.Common.{◌∙◌, arith}
use Rattle.charging.proofs.Leads.{leads_below, leads_next, walk_none, walk_end, walk_more}
use Rattle.charging.proofs.+charge.Goals as goal
use Rattle.charging.proofs.+charge.Goals.{then-depth-eq0-via-then-depth-eq0, then-depth-eq0-via-else-depth-eq0+then-link-eq0}

pub returns-then-depth-eq0 : goal.returns-then-depth-eq0
returns-then-depth-eq0 t c =
    elim c.then-depth-eq0.branch [
      | then-depth-eq0-via-then-depth-eq0 w ↦ walk_none _ _ _ _ _ w.if-depth-eq0.true
      | then-depth-eq0-via-else-depth-eq0+then-link-eq0 w ↦ walk_end _ _ _ _ _ w.if-link-eq0.true
    ]

pub bounds-sums-j : goal.bounds-sums-j
bounds-sums-j t c = rw c.from-j.ensures (leads_below _ _ _ (omega arith) (omega arith) c.requires)

pub bounds-sums-j-2 : goal.bounds-sums-j-2
bounds-sums-j-2 t c = rw c.from-j.ensures (leads_below _ _ _ (omega arith) (omega arith) c.requires)

pub bounds-parent-j : goal.bounds-parent-j
bounds-parent-j t c = rw c.from-j.ensures (leads_below _ _ _ (omega arith) (omega arith) c.requires)

pub charge-requires : goal.charge-requires
charge-requires t c = (omega arith, rw c.from-j.ensures (leads_next _ _ _ (omega arith) (omega arith) c.requires))

pub returns : goal.returns
returns t c =
    let x = c.args in
    let charged = rw c.from-j.ensures at c.charge.ensures in
    let more = rw c.from-j.ensures at c.added.ensures in
    charged ∙ walk_more x.parent.now x.sums.now x.m x.depth x.link c.added.result (omega arith) (omega arith) more
