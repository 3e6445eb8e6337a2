-- The places below j hold the numbers behind the place. Assumes nothing.
use Rattle.std.proofs.Common.{◌≡◌, ◌+◌, ◌++◌, length, drop}
use Rattle.laws.specs.Range.{table_to}
use Rattle.rules.specs.State as state
use Rattle.lines.proofs.setups.homes.Given as goal

abbrev pub invariant-loop-j : goal.invariant-loop-j
invariant-loop-j l = (length l.home ≡ 32) × (l.home ≡ table_to (λ d. state.at l.words (l.at + 1 + d)) l.j ++ drop l.j l.initial.home)
