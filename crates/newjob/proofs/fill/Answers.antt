use Rattle.std.proofs.Common.{◌≡◌, length, refl, rules}
use Rattle.std.proofs.lemmas.List.{length_push}
use Rattle.std.proofs.lemmas.Slice.Zip.{zip_turn}
use Rattle.std.specs.Iterator.Adapters.{zip_first, zip_second}
use Rattle.std.specs.Slice.Iter.{iter_rest}
use Rattle.laws.specs.Range.{fold_to}
use Rattle.rules.specs.State.{at}
use Rattle.rules.specs.Taking.{filled}
use Rattle.newjob.proofs.Filling.{filled_more}
use Rattle.newjob.proofs.fill.Goals as goal

pub loop-e-init : goal.loop-e-init
unfolding filled fold_to
loop-e-init c = refl

pub loop-e-preserved : goal.loop-e-preserved
loop-e-preserved c =
    let first : iter_rest (zip_first c.into_iter-e-iterator.result) ≡ c.args.places.now = search rules in
    let second : iter_rest (zip_second c.into_iter-e-iterator.result) ≡ c.args.values.now = search rules in
    let t = zip_turn c.args.places.now c.args.values.now c.loop-e.yielded c.into_iter-e-iterator.result c.loop-e.e-iterator c.next.new.self c.next.result first second c.loop-e.yielded_by _ c.in-Some.is c.next.ensures.steps in
    let v = t.3 0 in
    let k = t.2 0 in
    rw (length_push c.loop-e.yielded (c.in-Some.field-0-0, c.in-Some.field-0-1), c.from.ensures, k, v, c.loop-e.invariant) (filled_more c.args.places.now (at c.args.values.now) c.args.column.now (length c.loop-e.yielded))
