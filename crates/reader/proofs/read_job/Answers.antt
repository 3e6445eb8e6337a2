-- The list is all zeros at first; a refusal has no destinations. Assumes nothing.
use Rattle.std.proofs.Common.{◌∙◌, refl}
use Rattle.laws.specs.Sequence.{padded}
use Rattle.reader.proofs.ReadingLaws.{alone_told, refused_alone}
use Rattle.reader.proofs.read_job.Goals as goal

pub read_into-requires : goal.read_into-requires
unfolding padded
read_into-requires c = refl

pub returns-in-Err : goal.returns-in-Err
returns-in-Err c =
    let e = c.in-Err.ensures c.args.offset in
    alone_told c.alone.ensures refl (c.told_at.ensures ∙ e) (refused_alone _ e)
