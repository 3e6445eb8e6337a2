-- `turns::next_place` meets its contract. Invariant: the steps before it find nothing. Assumes nothing.
use Prim.Native.Nat.{ℕ, ◌+◌, ◌%◌, ◌<◌}
use mathlib.Core.Path.{◌≡◌}
use mathlib.Core.Bool.{false}
use Rattle.rules.specs.State.{at}
use Rattle.eligibility.specs.Eligibility.{open_place}
use Rattle.turns.proofs.next_place.Given as goal

abbrev pub invariant-loop-step : goal.invariant-loop-step
invariant-loop-step l = (k : ℕ) → k < l.step → open_place l.jobs.order l.tables.pairs.now l.tables.room.now l.j ((at l.jobs.turn l.j + k) % at l.jobs.places l.j) ≡ false
