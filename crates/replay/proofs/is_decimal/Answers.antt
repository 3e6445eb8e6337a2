-- The library's `all`, as the definition says it, of a word that is not empty. Assumes nothing.
use Rattle.std.proofs.Common.{◌≡◌, not, sym, ap, ◌∙◌, rules, tests}
use Rattle.std.proofs.lemmas.Iterator.{YieldsList-from_slice}
use Rattle.std.proofs.lemmas.Iterator.Search.{all_from_yields_List}
use Rattle.laws.specs.Sequence.{every_in}
use Rattle.laws.proofs.Iterated.{every_in_all}
use Rattle.lines.specs.Words.{is_digit}
use Rattle.replay.proofs.BudgetLaws.{decimal_none, decimal_some}
use Rattle.replay.proofs.is_decimal.Goals as goal

pub returns-then-not-is_empty : goal.returns-then-not-is_empty
returns-then-not-is_empty c =
    let word = c.args.word.now in
    let e : c.all.result ≡ every_in is_digit word =
    all_from_yields_List is_digit _ _ _ c.all.ensures.ran (YieldsList-from_slice word cc) (λ x b q k. search (rules, tests)) ∙ sym (every_in_all is_digit word) in
    decimal_some word (sym c.is_empty.ensures ∙ c.if-not-is_empty.true) e

pub returns-else-not-is_empty : goal.returns-else-not-is_empty
returns-else-not-is_empty c =
    ap not c.if-not-is_empty.false ∙ decimal_none c.args.word.now (sym c.is_empty.ensures ∙ c.if-not-is_empty.false)
