-- The part of the word that there is room for is copied. Assumes nothing.
use Rattle.lines.proofs.PutLaws.{put_past, put_copied}
use native.Mathlib.Nat.{le_of_lt}
use Rattle.lines.proofs.answer.put.Goals as goal

pub returns-then-out-at : goal.returns-then-out-at
returns-then-out-at c = put_past _ _ _ c.if-out-at.true

pub returns : goal.returns
returns c = put_copied c.args.word.now c.args.out.now c.args.at _ (le_of_lt c.if-out-at.false) c.min-n.ensures _ c.copy_from_slice.ensures.after
