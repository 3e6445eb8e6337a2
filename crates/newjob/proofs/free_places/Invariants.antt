-- The free places among the first e are written, zeros behind them. Assumes nothing.
use Rattle.std.proofs.Common.{◌≡◌, ◌≤◌}
use Rattle.laws.specs.Range.{count_to, chosen_to}
use Rattle.laws.specs.Sequence.{padded}
use Rattle.admission.specs.Admission.{free_in}
use Rattle.newjob.proofs.free_places.Given as goal

abbrev pub invariant-loop-e : goal.invariant-loop-e
invariant-loop-e l = (l.places ≡ padded 256 (chosen_to (free_in l.kind) l.e)) × (l.m ≡ count_to (free_in l.kind) l.e) × (l.m ≤ l.n)
