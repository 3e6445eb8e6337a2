-- The share is the rule's quotient. Assumes nothing.
use Rattle.std.proofs.Common.{◌∙◌, ap, arith}
use Rattle.std.specs.Int.{div_ceil}
use Rattle.rules.specs.Sizes.{U}
use Rattle.rules.specs.Windows.{cohort_share}
use Rattle.window.proofs.Ceil.{ceil_is}
use Rattle.window.proofs.cohort_share.Goals as goal

pub returns : goal.returns
unfolding cohort_share
returns c = c.div_ceil.ensures ∙ ap (λ x. div_ceil x c.args.window) (omega arith) ∙ ceil_is U c.args.window c.requires.0
