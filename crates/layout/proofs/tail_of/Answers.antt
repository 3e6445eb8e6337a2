use Rattle.layout.proofs.LayoutLaws.{head_job, inside, tail_job, tail_none}
use native.Mathlib.Omega.{arith}
use Rattle.layout.proofs.tail_of.Goals as goal

pub bounds-words-4 : goal.bounds-words-4
bounds-words-4 c = inside (head_job _ c.in-1.is) c.requires.0 (omega arith)

pub returns-in-1 : goal.returns-in-1
returns-in-1 c = tail_job _ c.in-1.is

pub returns-in_default : goal.returns-in_default
returns-in_default c = tail_none _ (omega arith)
