-- `eligibility::first_waiting` meets its contract. Invariant: no entry before it passes. Assumes nothing.
use Prim.Native.Nat.{ℕ, ◌<◌}
use mathlib.Core.Path.{◌≡◌}
use mathlib.Core.Bool.{false}
use Rattle.eligibility.specs.Eligibility.{waits_for}
use Rattle.eligibility.proofs.first_waiting.Given as goal

abbrev pub invariant-loop-e : goal.invariant-loop-e
invariant-loop-e l = (k : ℕ) → k < l.e → waits_for l.entries.kind l.entries.job l.entries.destination l.j l.d k ≡ false
