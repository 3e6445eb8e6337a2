-- What the search takes for granted of the list of arrivals, of a sound state and an accepted clock.
use Prim.Native.Nat.{ℕ, ◌≤◌, ◌<◌}
use mathlib.Core.Path.{◌≡◌, subst}
use mathlib.Core.Bool.{true}
use native.Mathlib.Omega.{arith}
use lib.Seq.{get_or-take, length-take-le}
use Rattle.laws.specs.Sequence.{holds}
use Rattle.laws.proofs.Sequence.{holds_get_or}
use Rattle.laws.proofs.Once.{once_facts}
use Rattle.rules.specs.declared.State.{State}
use Rattle.rules.specs.SoundFacts.{Sound}
use Rattle.rules.specs.State.{at, list_of, arrived_at, is_present}
use Rattle.rules.proofs.Shape.{Shaped}
use Rattle.searching.specs.Searching.{Arrived}

pub arrived_read : (w : State) → Shaped w → Sound w → (now : ℕ) → w.clock ≤ now → Arrived w.jobs.arrival w.arrivals now
arrived_read w shape h now late = (h.arrivals.rising, came)
  where
    came : (i : ℕ) → i < w.arrivals.count → (at w.arrivals.jobs i < 32) × (at w.jobs.arrival (at w.arrivals.jobs i) ≤ now)
    came i l =
        let n = h.arrivals.count in
        let here : arrived_at w i ≡ at w.arrivals.jobs i = get_or-take w.arrivals.count w.arrivals.jobs i 0 l in
        let long = length-take-le w.arrivals.count w.arrivals.jobs (omega (arith, shape.arrivals)) in
        let k : holds (at w.arrivals.jobs i) (list_of w.arrivals) ≡ true =
        subst (λ x. holds x (list_of w.arrivals) ≡ true) here (holds_get_or (list_of w.arrivals) i 0 (omega (arith, long)))
        in
        ((once_facts (is_present w) 32 (list_of w.arrivals) h.arrivals.once).below (at w.arrivals.jobs i) k, omega (arith, h.arrivals.past (at w.arrivals.jobs i) k))
