use Rattle.std.proofs.Common.{ℕ, ◌∙◌, arith}
use lib.ListN.{length-replicate, get_or-replicate}
use Rattle.rules.specs.State.{at}
use Rattle.laws.proofs.Sum.{sum_nothing, sum_turn, sum_fits}
use Rattle.counting.proofs.column_sums.Goals as goal

pub loop-j-init : goal.loop-j-init
loop-j-init c = (length-replicate {A = ℕ} 32 0, λ d l. get_or-replicate 32 d 0 0 l ∙ sum_nothing _)

pub add_row-requires-clause-by_index : goal.add_row-requires-clause-by_index
add_row-requires-clause-by_index c = λ d l. sum_fits _ c.loop-j.j 32 (at c.loop-j.sums d) 65535 (omega arith) (c.loop-j.invariant.1 d l) (c.requires d l)

pub loop-j-preserved : goal.loop-j-preserved
loop-j-preserved c = (c.add_row.ensures.size, λ d l. c.add_row.ensures.sums d l ∙ sum_turn _ _ _ (c.loop-j.invariant.1 d l))
