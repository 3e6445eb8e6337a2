use mathlib.Core.Path.{◌≡◌, ◌∙◌, ap}
use native.Mathlib.Omega.{arith}
use lib.ListN.{drop, replicate, get_or-replicate, get_or-append}
use Rattle.laws.specs.Range.{table_to}
use Rattle.laws.proofs.Table.{length_table, get_or_table}
use Rattle.laws.proofs.Fill.{get_or_fill, fill_none, fill_more}
use Rattle.rules.specs.State.{at}
use Rattle.eligibility.specs.Eligibility.{left_in}
use Rattle.eligibility.proofs.left_waiting.Goals as goal

pub loop-j-init : goal.loop-j-init
loop-j-init c = fill_none (left_in c.args.jobs.now.present c.args.jobs.now.n c.args.jobs.now.picked c.args.jobs.now.dropped) (replicate 256 0)

pub loop-j-preserved : goal.loop-j-preserved
unfolding left_in
loop-j-preserved c =
    fill_more (left_in c.args.jobs.now.present c.args.jobs.now.n c.args.jobs.now.picked c.args.jobs.now.dropped) (replicate 256 0) c.loop-j.j (omega arith) c.loop-j.invariant c.left_of.ensures

pub returns : goal.returns
returns c =
    let e : c.loop-j.j ≡ 32 = omega arith in
    let f = left_in c.args.jobs.now.present c.args.jobs.now.n c.args.jobs.now.picked c.args.jobs.now.dropped in
    let h = rw e at c.loop-j.invariant in record {
      jobs = λ k l. ap (λ w. at w k) h ∙ get_or-append (table_to f 32) (drop 32 (replicate 256 0)) 0 k (rw length_table l) ∙ get_or_table f 32 k 0 l;
      others = λ k l m. ap (λ w. at w k) h ∙ get_or_fill f (replicate 256 0) 32 k 0 l ∙ get_or-replicate 256 k 0 0 m;
    }
