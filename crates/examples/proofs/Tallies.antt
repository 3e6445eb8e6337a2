-- The tally of three lists of calls, each from an accepted set-up: computed, it is what was worked out by hand.
use mathlib.Core.Path.{◌≡◌, refl}
use mathlib.Core.Bool.{true}
use Rattle.rules.specs.Setup.{setup_in_range}
use Rattle.rules.specs.Examples.{one_transport}
use Rattle.rules.specs.Tallies.{W8Tallied, two_transports, PassedOverTallied, GonePastTallied}
use Rattle.rules.proofs.Opened.{rules}

pub accepted : (setup_in_range (one_transport 1) ≡ true) × (setup_in_range two_transports ≡ true)
unfolding rules
accepted = (refl, refl)

pub w8_tallied : W8Tallied
unfolding rules
w8_tallied = refl

pub passed_over_tallied : PassedOverTallied
unfolding rules
passed_over_tallied = refl

pub gone_past_tallied : GonePastTallied
unfolding rules
gone_past_tallied = refl
