use Rattle.std.proofs.Common.{◌≡◌, ℕ, Bool, sym, ap, ◌∙◌, eqb, length, rules}
use Rattle.std.specs.List.{count_by}
use Rattle.laws.specs.Range.{count_to}
use Rattle.laws.proofs.Iterated.{count_to_count}
use Rattle.admission.specs.Admission.{free_in}
use Rattle.admission.proofs.count_free.Goals as goal

pub returns : goal.returns
unfolding free_in
returns c =
    let is_free : ℕ → Bool = λ k. eqb k 0 in
    let e : c.count.result ≡ count_by is_free c.args.kind.now = search rules in
    let n : length c.args.kind.now ≡ 512 = search rules in
    e ∙ sym (count_to_count is_free c.args.kind.now 0) ∙ ap (count_to (free_in c.args.kind.now)) n
