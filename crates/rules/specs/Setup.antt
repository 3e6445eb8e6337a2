-- Document 01, "Sizes", "Set-up ranges": what a site may give, the state that it starts from, and the state of all zeros.
use Rattle.std.specs.Prelude.{ℕ, ◌*◌, Bool, false, ◌&&◌, ◌||◌, List, get_or, replicate, eqb, ltb, leb}
use Rattle.laws.specs.Bools.{when◌then◌else◌}
use Rattle.laws.specs.Range.{all_to, table_to}
use Rattle.rules.specs.declared.Feedback.{Feedback}
use Rattle.rules.specs.declared.Settings.{Settings}
use Rattle.rules.specs.declared.Setup.{Setup}
use Rattle.rules.specs.declared.Sums.{Sums}
use Rattle.rules.specs.declared.Health.TheVariants.{Live}
use Rattle.rules.specs.declared.Destination.{Destination}
use Rattle.rules.specs.declared.Busy.{Busy}
use Rattle.rules.specs.declared.Jobs.{Jobs}
use Rattle.rules.specs.declared.Entries.{Entries}
use Rattle.rules.specs.declared.State.{State}
use Rattle.rules.specs.Sizes.{max_transports, max_destinations, max_jobs, max_entries, max_agents, max_window}
use Rattle.rules.specs.State.{at, zero_settings, zero_destination, zero_list, settings_in}

-- low to high, both ends in
unfoldable pub within : ℕ → ℕ → ℕ → Bool
within low high x = leb low x && leb x high

-- feedback in percent, from its least to 100; "each flat or per window", or of "the third published form" (A6)
unfoldable pub feedback_in_range : ℕ → Feedback → Bool
feedback_in_range least f = within least 100 f.percent && within 0 2 f.form

-- "Per transport: agents" 1-1,000 (A6); "slot cost c 0 (preemption off) or 2-100; loan L 0-100; discount d 0-100; minimum slots M 0-100"
unfoldable pub slots_in_range : Settings → Bool
slots_in_range g =
    within 1 max_agents g.agents
    && (eqb g.cost 0 || within 2 100 g.cost)
    && within 0 100 g.loan
    && within 0 100 g.discount
    && within 0 100 g.minimum

-- "window limit" 1-1,000 (A6); "initial window 1 to that limit; positive and negative feedback in percent", 1-100 (A4) and 0-100;
-- "cohort limit 1-100; suspension 1-86,400 s"
unfoldable pub windows_in_range : Settings → Bool
windows_in_range g =
    within 1 max_window g.limit
    && within 1 g.limit g.initial
    && feedback_in_range 1 g.positive
    && feedback_in_range 0 g.negative
    && within 1 100 g.cohortlimit
    && within 1 86_400 g.suspension

unfoldable pub settings_in_range : Settings → Bool
settings_in_range g = slots_in_range g && windows_in_range g

-- "Transports 1 to 4; destinations 1 to 32, each belonging to one transport"
unfoldable pub setup_in_range : Setup → Bool
setup_in_range u =
    within 1 max_transports u.transports
    && within 1 max_destinations u.destinations
    && all_to (λ t. settings_in_range (get_or u.settings t zero_settings)) u.transports
    && all_to (λ d. ltb (at u.home d) u.transports) u.destinations

-- "First state: window initial, success, failure and cohorts 0"
abbrev pub first_state : Settings → Sums
first_state g = record { window = g.initial; success = 0; failure = 0; cohorts = 0 }

-- Columns without anything in them.

abbrev pub no_busy : Busy
no_busy = record { transport = replicate max_transports 0; destination = replicate max_destinations 0 }

abbrev pub no_jobs : Jobs
no_jobs =
    record {
      present = replicate max_jobs false;
      transport = replicate max_jobs 0;
      n = replicate max_jobs 0;
      picked = replicate max_jobs 0;
      dropped = replicate max_jobs 0;
      sold = replicate max_jobs 0;
      parent = replicate max_jobs 0;
      preempted = replicate max_jobs false;
      arrival = replicate max_jobs 0;
      overtakers = replicate max_jobs 0;
      turn = replicate max_jobs 0;
      places = replicate max_jobs 0;
      order = replicate (max_jobs * max_destinations) 0;
    }

abbrev pub no_entries : Entries
no_entries =
    record {
      kind = replicate max_entries 0;
      job = replicate max_entries 0;
      destination = replicate max_entries 0;
      ticket = replicate max_entries 0;
    }

-- nothing has happened yet; only the set-up and the destinations differ
unfoldable pub empty_state : Setup → List Destination → State
empty_state u ds =
    record {
      setup = u;
      clock = 0;
      ticket = 0;
      turn = 0;
      destinations = ds;
      busy = no_busy;
      queues = replicate max_transports zero_list;
      arrivals = zero_list;
      jobs = no_jobs;
      entries = no_entries;
    }

abbrev pub zero_setup : Setup
zero_setup =
    record {
      transports = 0;
      settings = replicate max_transports zero_settings;
      destinations = 0;
      home = replicate max_destinations 0;
    }

-- "A refused set-up gives a state of all zeros"
unfoldable pub zero_state : State
zero_state = empty_state zero_setup (replicate max_destinations zero_destination)

-- a destination of the set-up in its first state; the places past them are zeros
unfoldable pub first_destination : Setup → ℕ → Destination
first_destination u d =
    when ltb d u.destinations
    then record { health = Live (first_state (settings_in u d)) }
    else zero_destination

-- the state of an accepted set-up
unfoldable pub fresh_state : Setup → State
fresh_state u = empty_state u (table_to (first_destination u) max_destinations)
