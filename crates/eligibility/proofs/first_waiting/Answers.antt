use Rattle.std.proofs.Common.{arith, ◌≡◌, false}
use borrow.Author.Count.{below_more}
use Rattle.eligibility.proofs.FirstBelow.{below_some, below_none}
use Rattle.eligibility.proofs.Waits.{waits, no_wait_kind, no_wait_job, no_wait_destination}
use Rattle.eligibility.specs.Eligibility.{waits_for}
use Rattle.eligibility.proofs.first_waiting.Goals as goal
use Rattle.eligibility.proofs.first_waiting.Goals.{else-entries-e-eq1-via-then-entries-e-eq1+then-entries-e+else-entries-e-2, else-entries-e-eq1-via-then-entries-e-eq1+else-entries-e, else-entries-e-eq1-via-else-entries-e-eq1}

pub returns-then-entries-e-2 : goal.returns-then-entries-e-2
returns-then-entries-e-2 c =
    below_some (waits_for c.args.entries.now.kind c.args.entries.now.job c.args.entries.now.destination c.args.j c.args.d) 512 c.loop-e.e c.loop-e-test.true
    (waits _ _ _ _ _ _ c.if-entries-e-eq1.true c.if-entries-e.true c.if-entries-e-2.true) c.loop-e.invariant

pub loop-e-preserved : goal.loop-e-preserved
loop-e-preserved c =
    below_more (λ k. waits_for c.args.entries.now.kind c.args.entries.now.job c.args.entries.now.destination c.args.j c.args.d k ≡ false) c.loop-e.e c.loop-e.invariant
    (elim c.else-entries-e-eq1.branch [
      | else-entries-e-eq1-via-then-entries-e-eq1+then-entries-e+else-entries-e-2 w ↦ no_wait_destination _ _ _ _ _ _ w.if-entries-e-2.false
      | else-entries-e-eq1-via-then-entries-e-eq1+else-entries-e w ↦ no_wait_job _ _ _ _ _ _ w.if-entries-e.false
      | else-entries-e-eq1-via-else-entries-e-eq1 w ↦ no_wait_kind _ _ _ _ _ _ w.if-entries-e-eq1.false
    ])

pub returns : goal.returns
returns c =
    below_none (waits_for c.args.entries.now.kind c.args.entries.now.job c.args.entries.now.destination c.args.j c.args.d) 512 (λ k l. c.loop-e.invariant k (omega arith))
