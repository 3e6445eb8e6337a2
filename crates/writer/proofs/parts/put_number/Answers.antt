use native.Mathlib.Omega.{arith}
use Rattle.writer.proofs.StoredLaws.{left_start, left_room, left_more, left_last}
use Rattle.writer.proofs.parts.put_number.Goals as goal

pub loop-y-init : goal.loop-y-init
loop-y-init c = left_start _ _ _ c.requires.0 c.requires.1

pub bounds-buffer-p : goal.bounds-buffer-p
bounds-buffer-p c = left_room _ _ _ _ _ c.loop-y.invariant

pub loop-y-preserved : goal.loop-y-preserved
loop-y-preserved c = left_more _ _ _ _ _ c.loop-y.invariant (omega arith)

pub bounds-buffer-p-2 : goal.bounds-buffer-p-2
bounds-buffer-p-2 c = left_room _ _ _ _ _ c.loop-y.invariant

pub returns : goal.returns
returns c = left_last _ _ _ _ _ c.loop-y.invariant (omega arith)
