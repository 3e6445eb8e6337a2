-- The two ways that a set-up can end: what the code gives there is the rules' reply.
use mathlib.Core.Path.{◌≡◌, refl}
use mathlib.Core.Bool.{true, false}
use mathlib.Core.List.{[]}
use Rattle.laws.specs.Bools.{when◌then◌else◌}
use Rattle.rules.specs.declared.Setup.{Setup}
use Rattle.rules.specs.declared.State.{State}
use Rattle.rules.specs.Setup.{setup_in_range, zero_state, fresh_state}
use Rattle.rules.specs.Refusals.{setup_refusal}
use Rattle.rules.specs.Calls.{refused, granted, unless_refused, setup_reply}

pub setup_refused : (u : Setup) (z : State) → setup_in_range u ≡ false → z ≡ zero_state → record { says = refused 2; state = z; buffer = [] } ≡ setup_reply u
unfolding setup_reply setup_refusal unless_refused when◌then◌else◌
setup_refused u z h e = rw (h, e) refl

pub setup_accepted : (u : Setup) (z : State) → setup_in_range u ≡ true → z ≡ fresh_state u → record { says = granted []; state = z; buffer = [] } ≡ setup_reply u
unfolding setup_reply setup_refusal unless_refused when◌then◌else◌
setup_accepted u z h e = rw (h, e) refl
