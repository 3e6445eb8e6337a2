use Rattle.layout.proofs.LayoutLaws.{head_board, inside, text_board, text_none}
use native.Mathlib.Omega.{arith}
use Rattle.layout.proofs.text_places.Goals as goal

pub bounds-words-1 : goal.bounds-words-1
bounds-words-1 c = inside (head_board _ c.in-6.is) c.requires.0 (omega arith)

pub returns-in-6 : goal.returns-in-6
returns-in-6 c = text_board _ c.in-6.is

pub returns-in_default : goal.returns-in_default
returns-in_default c = text_none _ (omega arith)
