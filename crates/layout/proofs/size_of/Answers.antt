use Rattle.std.proofs.Common.{◌≡◌, ◌<◌, ℕ, Option, Some, None, MatchOption, sym, ◌∙◌, arith}
use Rattle.std.specs.Option.{unwrap_or}
use Rattle.layout.proofs.LayoutLaws.{size_is, sum_is}
use Rattle.layout.proofs.size_of.Goals as goal
use Rattle.layout.proofs.size_of.Goals.{After-tail_of}

unwrapped : (o : Option ℕ) (k : ℕ) → MatchOption o (k ≡ 0) (λ n. (n ≡ k) × (0 < n)) → unwrap_or o 0 ≡ k
unwrapped None k h = sym h
unwrapped (Some n) k h = h.0

pub tail_of-requires : goal.tail_of-requires
tail_of-requires c = (omega (arith, c.requires.0, size_is c.args.words.now), c.requires.1)

pub overflow_add-result : goal.overflow_add-result
overflow_add-result c =
    let head = c.unwrap_or.ensures ∙ unwrapped c.head_of.result _ c.head_of.ensures in
    omega (arith, sum_is _ _ _ head c.tail_of.ensures, c.requires.0, c.well_formed)

pub returns : goal.returns
returns c =
    let head = c.unwrap_or.ensures ∙ unwrapped c.head_of.result _ c.head_of.ensures in
    sum_is _ _ _ head c.tail_of.ensures
