use Rattle.making.proofs.MadeLaws.{made_job}
use Rattle.layout.specs.Layout.{word}
use Rattle.making.proofs.make_job.Goals as goal

pub returns : goal.returns
returns c =
    let a = c in
    let t = a in
    let words = t.args.words.now in
    made_job _ _ _ words t.args.list.now (word words 4) _ _ t.take_job-taken.ensures a.put_job.ensures
