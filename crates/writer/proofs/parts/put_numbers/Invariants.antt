-- What was passed is stored. Assumes nothing.
use Rattle.std.proofs.Common.{take}
use Rattle.journal.specs.Writes.{numbers_bytes}
use Rattle.writer.specs.Parts.{Stored}
use Rattle.writer.proofs.parts.put_numbers.Given as goal

abbrev pub invariant-loop-x : goal.invariant-loop-x
invariant-loop-x l = Stored (numbers_bytes (take l.x-index l.list)) l.initial.buffer l.at l.buffer l.p
