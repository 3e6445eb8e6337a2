-- The first destinations of a set-up, as the code goes about them.
use Prim.Native.Nat.{ℕ, ◌+◌, ◌≤◌, ◌<◌}
use mathlib.Core.Path.{◌≡◌, refl, sym}
use mathlib.Core.List.{List, ◌++◌}
use native.Mathlib.Numerals.{add-one}
use native.Mathlib.Omega.{arith}
use lib.ListN.{set, drop, replicate}
use borrow.Author.Tests.{lt-ltb, le-ltb}
use Rattle.laws.specs.Bools.{when◌then◌else◌}
use Rattle.laws.specs.Range.{table_to}
use Rattle.laws.proofs.Fill.{table_drop, table_rest}
use Rattle.laws.proofs.Places.{get_or_repeated}
use Rattle.rules.specs.declared.Busy.{Busy}
use Rattle.rules.specs.declared.Entries.{Entries}
use Rattle.rules.specs.declared.JobList.{JobList}
use Rattle.rules.specs.declared.Jobs.{Jobs}
use Rattle.rules.specs.declared.Setup.{Setup}
use Rattle.rules.specs.declared.Sums.{Sums}
use Rattle.rules.specs.declared.Health.TheVariants.{Live}
use Rattle.rules.specs.declared.Destination.{Destination}
use Rattle.rules.specs.State.{zero_destination, zero_list, settings_in}
use Rattle.rules.specs.Setup.{first_state, no_busy, no_jobs, no_entries, empty_state, first_destination}

-- nothing in any column, and nothing has happened
pub nothing_yet : (u : Setup) (ds : List Destination) {busy : Busy} {q arrivals : JobList} {jobs : Jobs} {entries : Entries}
    → busy ≡ no_busy → q ≡ zero_list → arrivals ≡ zero_list → jobs ≡ no_jobs → entries ≡ no_entries
    → record {
      setup = u;
      clock = 0;
      ticket = 0;
      turn = 0;
      destinations = ds;
      busy = busy;
      queues = replicate 4 q;
      arrivals = arrivals;
      jobs = jobs;
      entries = entries;
    } ≡ empty_state u ds
unfolding empty_state
nothing_yet u ds b q a j e = rw (b, q, a, j, e) refl

module _ (u : Setup) where
  -- the destinations with those below d in their first state, the others zeros
  abbrev pub first_to : ℕ → List Destination
  first_to d = table_to (first_destination u) d ++ drop d (replicate 32 zero_destination)

  pub first_none : (z : Destination) → z ≡ zero_destination → replicate 32 z ≡ first_to 0
  unfolding table_to
  first_none z e = rw e

  pub first_written : (d : ℕ) (ds : List Destination) (r : Sums) → ds ≡ first_to d → d < u.destinations → d < 32
      → r ≡ first_state (settings_in u d) → set ds d (record { health = Live r }) ≡ first_to (d + 1)
  unfolding first_destination when◌then◌else◌
  first_written d ds r n l h k =
      let w : first_destination u d ≡ record { health = Live r } = rw (lt-ltb d u.destinations l, k) in
      rw (n, add-one) (rw w at (table_drop (first_destination u) (replicate 32 zero_destination) d h))

  pub first_all : (d : ℕ) → d ≡ u.destinations → d ≤ 32 → first_to d ≡ table_to (first_destination u) 32
  unfolding first_destination when◌then◌else◌
  first_all d e h = table_rest (first_destination u) zero_destination (replicate 32 zero_destination) d h (λ i l. rw (le-ltb i u.destinations (omega arith)) (sym (get_or_repeated zero_destination 32 i)))
