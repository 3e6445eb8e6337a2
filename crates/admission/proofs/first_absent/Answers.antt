use Rattle.std.proofs.Common.{◌≡◌, not, false, length, sym, ap, ◌∙◌, rules, tests, position, get_or}
use Rattle.std.proofs.lemmas.Iterator.{YieldsList-from_slice}
use Rattle.std.proofs.lemmas.Iterator.Search.{position_from_yields_List}
use Rattle.laws.specs.Range.{first_below}
use Rattle.laws.proofs.Iterated.{first_below_position}
use Rattle.admission.proofs.first_absent.Goals as goal

pub returns : goal.returns
returns c =
    let present = c.args.present.now in
    let e : c.position.result ≡ position not present = position_from_yields_List not _ _ _ c.position.ensures.ran (YieldsList-from_slice present cc) (λ x b q k. search (rules, tests)) in
    let m : c.map.result ≡ c.position.result = search rules in
    let n : length present ≡ 32 = search rules in
    m ∙ e ∙ sym (first_below_position not present false) ∙ ap (first_below (λ j. not (get_or present j false))) n
