-- `turns::find_front` meets its contract. Invariant: no job before this one is ready, and those with a waiting entry are counted. Assumes nothing.
use Prim.Native.Nat.{ℕ, ◌<◌}
use mathlib.Core.Path.{◌≡◌}
use mathlib.Core.Bool.{false}
use lib.Dec.{ltb}
use lib.ListN.{get_or}
use Rattle.laws.specs.Range.{count_to}
use Rattle.rules.specs.State.{at}
use Rattle.eligibility.specs.Eligibility.{ready_in}
use Rattle.turns.proofs.find_front.Given as goal

abbrev pub invariant-loop-job : goal.invariant-loop-job
invariant-loop-job l =
    (l.passed ≡ count_to (λ k. ltb 0 (at l.tables.waits.now (at l.jobs k))) l.job-index) × ((k : ℕ) → k < l.job-index → get_or (ready_in l.tables.pairs.now l.tables.room.now) (at l.jobs k) false ≡ false)
