-- `eligibility::open_to` meets its contract. Assumes nothing.
use Rattle.std.proofs.Common.{arith, sym, ◌∙◌, ltb-true, le-ltb}
use Rattle.std.proofs.lemmas.Grind.{common_steps}
use Rattle.laws.proofs.Bools.{true_not_false}
use Rattle.eligibility.specs.Eligibility.{open_to, open_pair}
use Rattle.eligibility.proofs.Pairs.{opened}
use Rattle.eligibility.proofs.Tables.open_to.Goals as goal
use Rattle.eligibility.proofs.Tables.open_to.Goals.{then-d-lt32, else-d-lt32}

pub returns-then-self-j-gt0 : goal.returns-then-self-j-gt0
returns-then-self-j-gt0 c =
    elim c.if-d-lt32.branch [
      | then-d-lt32 w ↦ opened _ _ _ _ _ c.from-d.ensures w.if-d-lt32.true (ltb-true _ _ (sym w.value-is ∙ c.if-self-j-gt0.true))
      | else-d-lt32 w ↦ true_not_false c.if-self-j-gt0.true (w.value-is ∙ le-ltb _ 32 w.if-d-lt32.false)
    ]

pub returns-else-self-j-gt0 : goal.returns-else-self-j-gt0
unfolding open_to open_pair
returns-else-self-j-gt0 c = grind (arith, common_steps)
