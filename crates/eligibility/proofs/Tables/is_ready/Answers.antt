-- `eligibility::is_ready` meets its contract. Assumes nothing.
use Rattle.std.proofs.Common.{ap, arith, rules, tests, sym, ◌∙◌, ◌*◌, ◌+◌, ◌-◌, ◌≡◌, take, drop, le-ltb}
use Rattle.std.specs.List.{list_any, zip}
use Rattle.std.specs.Slice.Iter.{iter_rest}
use Rattle.std.proofs.lemmas.Iterator.{YieldsList-from_slice, YieldsList-from_zip}
use Rattle.std.proofs.lemmas.Iterator.Search.{any_from_yields_List}
use Rattle.eligibility.proofs.Pairs.{ready_at, ready_past}
use Rattle.eligibility.proofs.Rows.{is_open_pair, row_open}
use Rattle.eligibility.proofs.Tables.is_ready.Goals as goal

pub returns-then-j-lt32 : goal.returns-then-j-lt32
returns-then-j-lt32 c =
    let t = c.args.self in
    let row = take 32 (drop (32 * c.args.j) t.pairs.now) in
    let width : 32 * c.args.j + 32 - 32 * c.args.j ≡ 32 = omega arith in
    let e : c.any.result ≡ list_any is_open_pair (zip row t.room.now) =
    any_from_yields_List is_open_pair c.any.new.self _ c.any.result c.any.ensures.ran (YieldsList-from_zip (YieldsList-from_slice row (ap (λ i. iter_rest i) c.zip.ensures.first ∙ c.iter.ensures.rest ∙ ap (λ n. take n (drop (32 * c.args.j) t.pairs.now)) width)) (YieldsList-from_slice t.room.now cc)) (λ x b q k. search (rules, tests)) in
    e ∙ sym (row_open t.pairs.now t.room.now c.args.j c.if-j-lt32.true (omega arith) (search rules)) ∙ sym (ready_at t.pairs.now t.room.now c.args.j c.if-j-lt32.true)

pub returns-else-j-lt32 : goal.returns-else-j-lt32
returns-else-j-lt32 c = le-ltb c.args.j 32 c.if-j-lt32.false ∙ sym (ready_past _ _ c.args.j c.if-j-lt32.false)
