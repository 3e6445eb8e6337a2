-- What was copied is the whole word. Assumes nothing.
use mathlib.Core.Path.{refl, ap}
use mathlib.Core.List.{◌++◌}
use lib.ListN.{length, drop}
use Rattle.writing.proofs.put.Goals as goal

pub returns : goal.returns
returns c = record { count = refl; bytes = ap (λ l. l ++ drop (length c.args.word.now) c.args.buf.now) c.copy_from_slice.ensures.after }
