-- State and text are those of the reply. Assumes nothing.
use Rattle.std.proofs.Common.{refl}
use Rattle.playing.proofs.PlayLaws.{report_played}
use Rattle.playing.proofs.play_report.Goals as goal

pub returns : goal.returns
returns c =
    let r = report_played _ _ _ _ _ _ _ _ c.report-r.ensures c.put_report.ensures (refl, refl) in
    record { state = r.0; text = r.1 }
