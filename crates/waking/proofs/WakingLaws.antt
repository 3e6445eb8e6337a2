-- Laws of the test of a clock, and of the waking of all destinations.
use Prim.Native.Nat.{ℕ, ◌+◌, ◌≤◌, ◌<◌}
use mathlib.Core.Bool.{Bool, true, false, false≢true, ◌||◌}
use mathlib.Core.Path.{◌≡◌, refl, ◌∙◌, ap}
use mathlib.Core.List.{List, ◌++◌}
use native.Mathlib.Numerals.{add-one}
use lib.Dec.{leb, ltb}
use native.Mathlib.Omega.{arith}
use lib.ListN.{length, get_or, set, drop}
use borrow.Author.Tests.{lt-ltb, le-ltb}
use Rattle.laws.specs.Bools.{when◌then◌else◌}
use Rattle.laws.specs.Range.{table_to}
use Rattle.laws.proofs.Fill.{get_or_fill, table_drop, table_keep, table_rest}
use Rattle.rules.specs.Changed.{at_clock, on_destinations}
use Rattle.rules.specs.declared.Settings.{Settings}
use Rattle.rules.specs.declared.Setup.{Setup}
use Rattle.rules.specs.declared.Sums.{Sums}
use Rattle.rules.specs.declared.Health.{Health}
use Rattle.rules.specs.declared.Health.TheVariants.{Live, Dead}
use Rattle.rules.specs.declared.Destination.{Destination}
use Rattle.rules.specs.declared.State.{State}
use Rattle.rules.specs.Sizes.{last_second}
use Rattle.rules.specs.State.{at, zero_destination, settings_in}
use Rattle.rules.specs.Setup.{first_state}
use Rattle.rules.specs.Windows.{woken_health, woken_at, woken}
use Rattle.rules.specs.Refusals.{bad_clock}
use Rattle.rules.specs.SoundFacts.{Sound}
use Rattle.rules.proofs.RangeFacts.{in_range_of, home_below}
use Rattle.waking.specs.Waking.{is_due, setup_of}

-- One turn of the code's loop.

not_due : (g : Settings) (h : Health) (now : ℕ) → is_due h now ≡ false → woken_health g now h ≡ h
unfolding is_due woken_health when◌then◌else◌
not_due g (Live u) now e = refl
not_due g (Dead end) now e = rw e

is_due_lem : (g : Settings) (h : Health) (now : ℕ) → is_due h now ≡ true → woken_health g now h ≡ Live (first_state g)
unfolding is_due woken_health when◌then◌else◌
is_due_lem g (Live u) now e = absurd (false≢true e)
is_due_lem g (Dead end) now e = rw e

module _ (ds : List Destination) (u : Setup) (now : ℕ) where
  -- the destinations with those below d woken
  abbrev pub woken_to : ℕ → List Destination
  woken_to d = table_to (woken_at ds u now) d ++ drop d ds

  pub woken_none : ds ≡ woken_to 0
  unfolding table_to
  woken_none = refl

  -- the next one, number d, is as it came
  module _ (d : ℕ) (next : List Destination) (n : next ≡ woken_to d) (l : d < u.destinations) (h : d < length ds) where
    as_it_came : get_or next d zero_destination ≡ get_or ds d zero_destination
    as_it_came = ap (λ l. get_or l d zero_destination) n ∙ get_or_fill (woken_at ds u now) ds d d zero_destination (omega arith)

    pub woken_kept : is_due (get_or next d zero_destination).health now ≡ false → next ≡ woken_to (d + 1)
    unfolding woken_at when◌then◌else◌
    woken_kept e =
        let f : is_due (get_or ds d zero_destination).health now ≡ false = rw as_it_came at e in
        n ∙ rw add-one (table_keep (woken_at ds u now) zero_destination ds d h (rw (lt-ltb d u.destinations l, not_due _ _ now f)))

    pub woken_written : (r : Sums) → is_due (get_or next d zero_destination).health now ≡ true
        → r ≡ first_state (settings_in u d) → set next d (record { health = Live r }) ≡ woken_to (d + 1)
    unfolding woken_at when◌then◌else◌
    woken_written r e k =
        let f : is_due (get_or ds d zero_destination).health now ≡ true = rw as_it_came at e in
        let g = settings_in u d in
        let w : woken_at ds u now d ≡ record { health = Live r } = rw (lt-ltb d u.destinations l, is_due_lem g (get_or ds d zero_destination).health now f, k) in
        rw (n, add-one) (rw w at (table_drop (woken_at ds u now) ds d h))

  pub woken_all : (d : ℕ) → d ≡ u.destinations → d ≤ length ds → woken_to d ≡ table_to (woken_at ds u now) (length ds)
  unfolding woken_at when◌then◌else◌
  woken_all d e h = table_rest (woken_at ds u now) zero_destination ds d h (λ i l. rw (le-ltb i u.destinations (omega arith)))

-- whether one is due, by its case

pub due_live : (h : Health) (u : Sums) (now : ℕ) → h ≡ Live u → false ≡ is_due h now
unfolding is_due
due_live h u now e = rw e

pub due_dead : (h : Health) (end now : ℕ) → h ≡ Dead end → leb end now ≡ is_due h now
unfolding is_due
due_dead h end now e = rw e

-- What the two functions say of a state, for the calls.

-- the state with this clock and these destinations
abbrev pub built : State → ℕ → List Destination → State
built s now ds = at_clock now (on_destinations (λ l. ds) s)

module _ (s : State) (now : ℕ) where
  pub clock_is : (bad : Bool) → bad ≡ (ltb now s.clock || ltb last_second now) → bad ≡ bad_clock s now
  unfolding bad_clock
  clock_is bad e = e

  -- what waking asks
  pub wakes : Sound s → (s.setup.destinations ≤ 32) × ((d : ℕ) → d < s.setup.destinations → at s.setup.home d < 4)
  wakes whole = (whole.setup.destinations.1, home_below s.setup (in_range_of s.setup whole.setup))

  module _ (ds : List Destination)
      (e : ds ≡ table_to (woken_at s.destinations (setup_of s.setup.home s.setup.settings s.setup.destinations) now) 32) where
    pub woken_is : ds ≡ (woken s now).destinations
    unfolding woken woken_at
    woken_is = e

    pub woken_built : built s now ds ≡ woken s now
    unfolding woken woken_at
    woken_built = rw e
