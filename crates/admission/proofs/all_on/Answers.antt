use Rattle.std.proofs.Common.{◌≡◌, sym, ◌∙◌, rules, tests}
use Rattle.std.specs.List.{list_all}
use Rattle.std.proofs.lemmas.Iterator.{YieldsList-from_slice}
use Rattle.std.proofs.lemmas.Iterator.Search.{all_from_yields_List}
use Rattle.laws.proofs.Iterated.{every_in_all}
use Rattle.admission.specs.Admission.{on_transport}
use Rattle.admission.proofs.all_on.Goals as goal

pub returns : goal.returns
unfolding on_transport
returns c =
    let on = on_transport c.args.home.now c.args.count c.args.t in
    let e : c.all.result ≡ list_all on c.args.dests.now = all_from_yields_List on _ _ _ c.all.ensures.ran (YieldsList-from_slice c.args.dests.now cc) (λ x b q k. search (rules, tests)) in
    e ∙ sym (every_in_all on c.args.dests.now)
