-- A4's law at work: at 50 percent flat two deliveries, each a success that counts, are as many as are needed, and the most that the law allows.
use mathlib.Core.Path.{◌≡◌, refl}
use mathlib.Core.Bool.{true}
use mathlib.Core.List.{List, [], ◌∷◌}
use Rattle.laws.specs.Fractions.{rounded_up}
use Rattle.rules.specs.declared.Setup.{Setup}
use Rattle.rules.specs.Sizes.{U}
use Rattle.rules.specs.Setup.{first_state, setup_in_range, fresh_state}
use Rattle.rules.specs.Windows.{feedback}
use Rattle.rules.specs.Calls.{Call, pick}
use Rattle.rules.specs.Recovery.{reports_in, in_arow, needed}
use Rattle.rules.specs.Examples.{flat, usual, one_with, job_to0}
use Rattle.rules.specs.Tallies.{delivered}
use Rattle.rules.proofs.Opened.{rules}

abbrev pub halves : Setup
halves = one_with (flat 50) 1

abbrev pub two_successes : List Call
two_successes = job_to0 0 2 ∷ pick 0 ∷ delivered 0 0 ∷ pick 0 ∷ delivered 1 1 ∷ []

pub two_halves :
    (setup_in_range halves ≡ true)
    × (in_arow (fresh_state halves) 0 two_successes ≡ true)
    × (reports_in (fresh_state halves) 0 two_successes ≡ 2)
    × (needed (usual (flat 50)) (first_state (usual (flat 50))) ≡ 2)
    × (rounded_up U (feedback (flat 50) 5) ≡ 2)
unfolding rules
two_halves = (refl, refl, refl, refl, refl)
