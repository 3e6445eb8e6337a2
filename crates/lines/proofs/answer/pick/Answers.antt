-- The text is that of the answer's case. Assumes nothing.
use Rattle.lines.specs.Texts.{found_text, pick_text}
use Rattle.lines.proofs.PutLaws.{put_case}
use Rattle.laws.specs.Bools.{when◌then◌else◌}
use Rattle.rules.specs.Board.{decimal, decimal_in}
use Rattle.lines.proofs.answer.pick.Goals as goal

pub returns-in-Err : goal.returns-in-Err
unfolding pick_text
returns-in-Err c = put_case pick_text c.in-Err.is c.refused.ensures

pub returns-in-Some : goal.returns-in-Some
unfolding pick_text found_text
returns-in-Some c = put_case pick_text c.in-Ok.is (put_case found_text c.in-Some.is c.picked.ensures)

pub returns-in-None : goal.returns-in-None
unfolding pick_text found_text decimal decimal_in when◌then◌else◌
returns-in-None c = put_case pick_text c.in-Ok.is (put_case found_text c.in-None.is c.put.ensures)
