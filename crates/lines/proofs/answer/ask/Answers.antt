-- The text is that of the answer's case. Assumes nothing.
use Rattle.std.proofs.Common.{◌++◌, sym}
use Rattle.rules.specs.Board.{line_end, numbered}
use Rattle.lines.specs.Names.{ask_name}
use Rattle.lines.specs.Texts.{ask_text}
use Rattle.lines.proofs.PutLaws.{put_case}
use Rattle.lines.proofs.answer.ask.Goals as goal

pub returns-in-Err : goal.returns-in-Err
unfolding ask_text
returns-in-Err c = put_case ask_text c.in-Err.is c.refused.ensures

pub returns-in-Ok : goal.returns-in-Ok
unfolding ask_text
returns-in-Ok c = put_case ask_text c.in-Ok.is (put_case (λ n. ask_name ++ numbered n ++ line_end) (sym c.from.ensures) c.numbered.ensures)
