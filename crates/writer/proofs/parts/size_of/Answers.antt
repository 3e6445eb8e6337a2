-- A group for each seven bits. Assumes nothing.
use Rattle.std.proofs.Common.{arith}
use Rattle.journal.specs.Writes.{number_bytes}
use Rattle.writer.proofs.NumberLaws.{size_one, size_more, size_last}
use Rattle.writer.proofs.parts.size_of.Goals as goal

pub returns-in-0-to-127 : goal.returns-in-0-to-127
unfolding number_bytes
returns-in-0-to-127 c = (size_one 4 _ (omega arith), omega arith)

pub returns-in-0-to-16383 : goal.returns-in-0-to-16383
unfolding number_bytes
returns-in-0-to-16383 c = (size_more 4 _ (omega arith) (size_one 3 _ (omega arith)), omega arith)

pub returns-in-0-to-2097151 : goal.returns-in-0-to-2097151
unfolding number_bytes
returns-in-0-to-2097151 c = (size_more 4 _ (omega arith) (size_more 3 _ (omega arith) (size_one 2 _ (omega arith))), omega arith)

pub returns-in-0-to-268435455 : goal.returns-in-0-to-268435455
unfolding number_bytes
returns-in-0-to-268435455 c = (size_more 4 _ (omega arith) (size_more 3 _ (omega arith) (size_more 2 _ (omega arith) (size_one 1 _ (omega arith)))), omega arith)

pub returns-in_default : goal.returns-in_default
unfolding number_bytes
returns-in_default c = (size_more 4 _ (omega arith) (size_more 3 _ (omega arith) (size_more 2 _ (omega arith) (size_more 1 _ (omega arith) (size_last _)))), omega arith)
