-- The waking of one destination, over what it reads of a state: the destinations, and parts of the set-up.
use Rattle.std.specs.Prelude.{ℕ, Bool, false, List, leb}
use Rattle.rules.specs.declared.Settings.{Settings}
use Rattle.rules.specs.declared.Setup.{Setup}
use Rattle.rules.specs.declared.Health.{Health}
use Rattle.rules.specs.declared.Health.TheVariants.{Live, Dead}

-- "whose suspension ends at or before it"
unfoldable pub is_due : Health → ℕ → Bool
is_due (Live u) now = false
is_due (Dead end) now = leb end now

-- a set-up with these homes and settings, and so many destinations: waking reads nothing else of one
abbrev pub setup_of : List ℕ → List Settings → ℕ → Setup
setup_of home settings count = record { transports = 0; settings = settings; destinations = count; home = home }
