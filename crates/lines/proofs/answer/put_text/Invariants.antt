-- What was passed is put. Assumes nothing.
use Rattle.std.proofs.Common.{◌≡◌, length, take, map}
use Rattle.lines.specs.Texts.{Put, shown_byte}
use Rattle.lines.proofs.answer.put_text.Given as goal

abbrev pub invariant-loop-b : goal.invariant-loop-b
invariant-loop-b l = (length l.out ≡ length l.initial.out) × Put (map shown_byte (take l.b-index l.b-items)) l.initial.out l.at l.out l.p
