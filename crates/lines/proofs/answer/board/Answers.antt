-- The text is that of the answer's case. Assumes nothing.
use Rattle.lines.specs.Texts.{board_answer_text}
use Rattle.lines.proofs.PutLaws.{put_case}
use Rattle.lines.proofs.answer.board.Goals as goal

pub returns-in-Err : goal.returns-in-Err
unfolding board_answer_text
returns-in-Err c = put_case (λ a. board_answer_text a c.args.written.now) c.in-Err.is c.refused.ensures

pub returns-in-Ok : goal.returns-in-Ok
unfolding board_answer_text
returns-in-Ok c = put_case (λ a. board_answer_text a c.args.written.now) c.in-Ok.is c.shown_text.ensures
