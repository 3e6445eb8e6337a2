-- `clauses::jobs::chain_ends` meets its contract. Invariant: the chain from here, in the steps left, ends as the chain from the start does in 32.
use Rattle.std.proofs.Common.{◌≡◌}
use Prim.Native.Nat.{◌-◌}
use Rattle.rules.specs.State.{at}
use Rattle.laws.specs.Chain.{ends_in}
use Rattle.clauses.proofs.jobs.chain_ends.Given as goal

abbrev pub invariant-loop : goal.invariant-loop
invariant-loop l = ends_in (at l.parent) 32 l.link ≡ ends_in (at l.parent) (32 - l.counter) l.k
