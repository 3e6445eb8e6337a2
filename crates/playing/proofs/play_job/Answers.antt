-- The destinations that are lent are as many as told, or all. Assumes nothing.
use Rattle.std.proofs.Common.{refl}
use mathlib.Core.Path.{refl, sym}
use native.Mathlib.Omega.{arith}
use lib.Seq.{length-take-le}
use Rattle.lines.proofs.PutLaws.{take_min}
use Rattle.playing.proofs.PlayLaws.{job_played}
use Rattle.playing.proofs.play_job.Goals as goal

pub slice_bounds-take_job-end : goal.slice_bounds-take_job-end
slice_bounds-take_job-end c = sym (length-take-le _ _ (omega arith))

pub returns : goal.returns
returns c =
    let many = take_min c.args.count c.args.dests.now c.at_most-many.ensures in
    let r = job_played _ _ _ _ _ _ _ many c.take_job-r.ensures
    c.put_refusal.ensures (refl, refl) in
    record { state = r.0; text = r.1 }
