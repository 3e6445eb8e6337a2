use Rattle.std.proofs.Common.{◌≡◌, ◌+◌, ◌&&◌, leb, length, get_or, sym, ◌∙◌, ap, arith, rules}
use lib.ListN.{get_or-eq_default}
use Rattle.laws.proofs.All.{all_false_of, all_none, all_more}
use Rattle.rules.specs.declared.Settings.{Settings}
use Rattle.rules.specs.State.{at, zero_settings}
use Rattle.clauses.specs.Clauses.{job_test}
use Rattle.clauses.proofs.JobLaws.{job_tested, asked_false, asked_not, asked_true}
use Rattle.clauses.proofs.jobs.jobs_right.Goals as goal
use Rattle.clauses.proofs.jobs.jobs_right.Goals.{After-chain_ends, Joined-t-lt4, else-t-lt4, then-t-lt4}

cost_is : (c : Joined-t-lt4) → c.if-t-lt4.cost ≡ (get_or c.args.u.settings (get_or c.args.g.transport c.loop-j.j 0) zero_settings).cost
cost_is c =
    let long : length c.args.u.settings ≡ 4 = search rules in
    elim c.if-t-lt4.branch [
      | then-t-lt4 w ↦ w.cost-is
      | else-t-lt4 w ↦ w.cost-is
          ∙ sym (ap (λ (g : Settings). g.cost) (get_or-eq_default c.args.u.settings zero_settings {n = get_or c.args.g.transport c.loop-j.j 0} (omega (arith, w.if-t-lt4.false))))
    ]

tested : (c : After-chain_ends)
    → c.counts_right.result && c.sold_right.result && leb 1 (at c.args.waiting c.loop-j.j + at c.args.busy c.loop-j.j) && c.child_right.result && c.chain_ends.result
    && leb (at c.args.g.overtakers c.loop-j.j) 65_535 && leb (at c.args.g.turn c.loop-j.j) (at c.args.g.places c.loop-j.j)
    ≡ job_test c.args.g c.args.u.settings c.args.waiting c.args.busy c.loop-j.j
tested c =
    job_tested c.args.g c.args.u.settings c.args.waiting c.args.busy c.loop-j.j c.if-t-lt4.cost c.counts_right.result c.sold_right.result c.child_right.result
    c.chain_ends.result c.counts_right.ensures (cost_is (goal.at.After-chain_ends c).Joined-t-lt4) c.sold_right.ensures c.child_right.ensures c.chain_ends.ensures

pub loop-j-init : goal.loop-j-init
loop-j-init c = sym (all_none _)

pub loop-j-preserved-then-not-g-j : goal.loop-j-preserved-then-not-g-j
loop-j-preserved-then-not-g-j c = all_more _ _ c.loop-j.invariant (asked_not _ c.if-not-g-j.true)

pub returns-then-not-right : goal.returns-then-not-right
returns-then-not-right c =
    sym (all_false_of _ _ c.loop-j.j (omega arith) (asked_false c.if-not-g-j.false (sym (tested (goal.at.returns-then-not-right c).After-chain_ends) ∙ c.if-not-right.true)))

pub loop-j-preserved : goal.loop-j-preserved
loop-j-preserved c = all_more _ _ c.loop-j.invariant (asked_true _ (sym (tested (goal.at.loop-j-preserved c).After-chain_ends) ∙ c.if-not-right.false))
