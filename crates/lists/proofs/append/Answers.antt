use Rattle.std.proofs.Common.{◌≡◌, ◌++◌, length, drop, sym, ◌∙◌, arith, rules}
use lib.Seq.{length-take-le}
use lib.ListN.{replicate}
use Rattle.laws.specs.Sequence.{padded}
use Rattle.laws.proofs.Building.{put_at}
use Rattle.laws.proofs.Front.{length_snoc}
use Rattle.rules.specs.State.{list_of}
use Rattle.lists.proofs.Listed.{listed_is, padded_of}
use Rattle.lists.proofs.append.Goals as goal

pub returns : goal.returns
returns c =
    let l = list_of c.args.q in
    let long : length c.args.q.jobs ≡ 32 = search rules in
    let n : c.from-n.result ≡ length l = c.from-n.ensures ∙ sym (length-take-le c.args.q.count c.args.q.jobs (omega arith)) in
    let front : c.copy_from_slice.new.self ≡ l = c.copy_from_slice.ensures.after ∙ c.numbers.ensures in
    let filled : c.copy_from_slice.new.self ++ drop c.from-n.result (replicate 32 0) ≡ padded 32 l = rw (front, n) (padded_of 32 l) in
    listed_is _ _ _ (put_at 32 l c.args.j filled n (omega arith)) (omega (arith, length_snoc l c.args.j))
