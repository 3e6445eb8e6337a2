-- What was passed is put. Assumes nothing.
use Rattle.std.proofs.Common.{◌≡◌, length, take}
use Rattle.lines.specs.Texts.{Put, numbers}
use Rattle.lines.proofs.answer.put_list.Given as goal

abbrev pub invariant-loop-x : goal.invariant-loop-x
invariant-loop-x l = (length l.out ≡ length l.initial.out) × Put (numbers (take l.x-index l.x-items)) l.initial.out l.initial.p l.out l.p
