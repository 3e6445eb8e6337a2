-- The text is that of the answer's case. Assumes nothing.
use Rattle.lines.specs.Texts.{report_text}
use Rattle.lines.proofs.PutLaws.{put_case}
use Rattle.lines.proofs.answer.report.Goals as goal

pub returns-in-Err : goal.returns-in-Err
unfolding report_text
returns-in-Err c = put_case (λ a. report_text a c.args.list.now) c.in-Err.is c.refused.ensures

pub returns-in-Ok : goal.returns-in-Ok
unfolding report_text
returns-in-Ok c = put_case (λ a. report_text a c.args.list.now) c.in-Ok.is c.reported.ensures
