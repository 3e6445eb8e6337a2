-- What a set-up in range says of its counts, and of a destination's transport.
use Prim.Native.Nat.{ℕ, ◌≤◌, ◌<◌}
use mathlib.Core.Bool.{true}
use mathlib.Core.Path.{◌≡◌}
use Rattle.rules.specs.declared.Setup.{Setup}
use Rattle.rules.specs.State.{at, settings_in}
use Rattle.rules.specs.Setup.{setup_in_range}
use Rattle.rules.proofs.RangeFacts.{windows_range, in_range_facts}

module _ (u : Setup) (r : setup_in_range u ≡ true) where
  pub transports_few : u.transports ≤ 4
  transports_few = (in_range_facts u r).transports.1

  pub destinations_few : u.destinations ≤ 32
  destinations_few = (in_range_facts u r).destinations.1

  pub cohorts_few : (d : ℕ) → d < u.destinations → (settings_in u d).cohortlimit ≤ 100
  cohorts_few d l = (windows_range _ ((in_range_facts u r).settings (at u.home d) ((in_range_facts u r).home d l))).cohortlimit.1
