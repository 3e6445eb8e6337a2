-- The walk along what is left of the chain gives what the whole walk gives. Assumes nothing.
use Prim.Native.Nat.{◌-◌}
use mathlib.Core.Path.{◌≡◌}
use mathlib.Core.Bool.{true, false}
use lib.ListN.{get_or}
use Rattle.laws.specs.Chain.{first_along}
use Rattle.rules.specs.State.{at}
use Rattle.charging.specs.Links.{leads_inside}
use Rattle.leaving.specs.Leaving.{nearest_of}
use Rattle.leaving.proofs.nearest.Given as goal

abbrev pub invariant-loop : goal.invariant-loop
invariant-loop l =
    (first_along (λ x. get_or l.stays x false) (at l.parent) (32 - l.counter) l.link ≡ nearest_of l.stays l.parent l.fn.link) × (leads_inside (at l.parent) (32 - l.counter) l.link ≡ true)
