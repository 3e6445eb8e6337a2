-- The calls are those of the record's case. Assumes nothing.
use Rattle.std.proofs.Common.{refl}
use Rattle.playing.specs.Plays.{call_told}
use Rattle.playing.proofs.PlayLaws.{as_told, none_played}
use Rattle.playing.proofs.play.Goals as goal

pub returns-in-Name : goal.returns-in-Name
unfolding call_told
returns-in-Name c =
    let r = as_told _ _ c.in-Name.is (none_played _ (refl, refl)) in
    record { state = r.0; text = r.1 }

pub returns-in-Job : goal.returns-in-Job
unfolding call_told
returns-in-Job c =
    let r = as_told _ _ c.in-Job.is (c.play_job.ensures.state, c.play_job.ensures.text) in
    record { state = r.0; text = r.1 }

pub returns-in-Pick : goal.returns-in-Pick
unfolding call_told
returns-in-Pick c =
    let r = as_told _ _ c.in-Pick.is (c.play_pick.ensures.state, c.play_pick.ensures.text) in
    record { state = r.0; text = r.1 }

pub returns-in-Report : goal.returns-in-Report
unfolding call_told
returns-in-Report c =
    let r = as_told _ _ c.in-Report.is (c.play_report.ensures.state, c.play_report.ensures.text) in
    record { state = r.0; text = r.1 }
