-- The text is that of the answer's case. Assumes nothing.
use Rattle.lines.specs.Texts.{setup_text}
use Rattle.lines.proofs.PutLaws.{put_case}
use Rattle.lines.proofs.answer.setup.Goals as goal

pub returns-in-Err : goal.returns-in-Err
unfolding setup_text
returns-in-Err c = put_case setup_text c.in-Err.is c.refused.ensures

pub returns-in-Ok : goal.returns-in-Ok
unfolding setup_text
returns-in-Ok c = put_case setup_text c.in-Ok.is c.put.ensures
