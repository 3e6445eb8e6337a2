-- `turns::next_transport` meets its contract. Invariant: the steps before i find no front. Assumes nothing.
use Prim.Native.Nat.{ℕ, ◌+◌, ◌%◌, ◌<◌}
use mathlib.Core.Path.{◌≡◌}
use mathlib.Core.Bool.{false}
use Rattle.eligibility.specs.Eligibility.{ready_in}
use Rattle.turns.specs.Turns.{has_front}
use Rattle.turns.proofs.next_transport.Given as goal

abbrev pub invariant-loop-i : goal.invariant-loop-i
invariant-loop-i l = (k : ℕ) → k < l.i → has_front (ready_in l.tables.pairs.now l.tables.room.now) l.queues ((l.start + k) % l.transports) ≡ false
