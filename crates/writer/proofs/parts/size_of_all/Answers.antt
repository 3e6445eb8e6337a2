-- The library's sum, as the definition says it. Assumes nothing.
use Rattle.std.proofs.Common.{◌≡◌, ◌∙◌, rules, arith}
use Rattle.std.specs.List.{sum_by}
use Rattle.writer.proofs.NumberLaws.{bytes_in, sizes_sum, sizes_few}
use Rattle.writer.proofs.parts.size_of_all.Goals as goal

pub returns : goal.returns
returns c =
    let e : c.sum.result ≡ sum_by bytes_in c.args.list.now = search rules in
    (e ∙ sizes_sum c.args.list.now, omega (arith, e, sizes_sum c.args.list.now, sizes_few c.args.list.now))
