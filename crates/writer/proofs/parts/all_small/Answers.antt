-- The library's `all`, as the definition says it. Assumes nothing.
use Rattle.std.proofs.Common.{◌≡◌, refl, sym, ◌∙◌, rules, tests}
use Rattle.std.proofs.lemmas.Iterator.{YieldsList-from_slice}
use Rattle.std.proofs.lemmas.Iterator.Search.{all_from_yields_List}
use Rattle.laws.specs.Sequence.{every_in}
use Rattle.laws.proofs.Iterated.{every_in_all}
use Rattle.journal.specs.Numbers.{small}
use Rattle.writer.proofs.parts.all_small.Goals as goal
use Rattle.writer.proofs.parts.all_small.Goals.{After-all}

all-is : (c : After-all) → c.all.result ≡ every_in small c.args.list.now
all-is c =
    all_from_yields_List small _ _ _ c.all.ensures.ran (YieldsList-from_slice c.args.list.now cc) (λ x b q k. search (rules, tests))
    ∙ sym (every_in_all small c.args.list.now)

pub returns-then-all : goal.returns-then-all
returns-then-all c = rw (← all-is (goal.at.returns-then-all c).After-all, c.if-all.true) refl

pub returns-else-all : goal.returns-else-all
returns-else-all c = rw (← all-is (goal.at.returns-else-all c).After-all, c.if-all.false) refl
