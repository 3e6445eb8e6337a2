-- The word is that of the case. Assumes nothing.
use Rattle.rules.specs.Windows.{move_number}
use Rattle.lines.specs.Texts.{move_word}
use Rattle.lines.proofs.PutLaws.{put_case}
use Rattle.lines.proofs.answer.put_move.Goals as goal

pub returns-in-Unchanged : goal.returns-in-Unchanged
unfolding move_number
returns-in-Unchanged c = put_case (λ m. move_word (move_number m)) c.in-Unchanged.is c.put.ensures

pub returns-in-Raised : goal.returns-in-Raised
unfolding move_number
returns-in-Raised c = put_case (λ m. move_word (move_number m)) c.in-Raised.is c.put-in-Raised.ensures

pub returns-in-Lowered : goal.returns-in-Lowered
unfolding move_number
returns-in-Lowered c = put_case (λ m. move_word (move_number m)) c.in-Lowered.is c.put-in-Lowered.ensures

pub returns-in-Dead : goal.returns-in-Dead
unfolding move_number
returns-in-Dead c = put_case (λ m. move_word (move_number m)) c.in-Dead.is c.put-in-Dead.ensures

pub returns-in-Revived : goal.returns-in-Revived
unfolding move_number
returns-in-Revived c = put_case (λ m. move_word (move_number m)) c.in-Revived.is c.put-in-Revived.ensures
