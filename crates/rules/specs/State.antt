-- Reading a state: the names under which the rules speak of its columns.
use Rattle.std.specs.Prelude.{ℕ, ◌+◌, ◌*◌, Bool, true, false, not, ◌&&◌, List, [], length, get_or, take, eqb}
use Rattle.laws.specs.Range.{count_to}
use Rattle.laws.specs.Sequence.{padded}
use Rattle.rules.specs.declared.Feedback.{Feedback}
use Rattle.rules.specs.declared.Settings.{Settings}
use Rattle.rules.specs.declared.Setup.{Setup}
use Rattle.rules.specs.declared.Sums.{Sums}
use Rattle.rules.specs.declared.Health.{Health}
use Rattle.rules.specs.declared.Health.TheVariants.{Live, Dead}
use Rattle.rules.specs.declared.Destination.{Destination}
use Rattle.rules.specs.declared.JobList.{JobList}
use Rattle.rules.specs.declared.State.{State}
use Rattle.rules.specs.Sizes.{max_jobs, max_destinations, max_entries}

-- what stands at a place of a column; 0 past its end
abbrev pub at : List ℕ → ℕ → ℕ
at l i = get_or l i 0

-- All zeros, of each kind of record.

abbrev pub zero_feedback : Feedback
zero_feedback = record { percent = 0; form = 0 }

abbrev pub zero_settings : Settings
zero_settings =
    record {
      agents = 0;
      cost = 0;
      loan = 0;
      discount = 0;
      minimum = 0;
      limit = 0;
      initial = 0;
      positive = zero_feedback;
      negative = zero_feedback;
      cohortlimit = 0;
      suspension = 0;
    }

abbrev pub zero_sums : Sums
zero_sums = record { window = 0; success = 0; failure = 0; cohorts = 0 }

abbrev pub zero_destination : Destination
zero_destination = record { health = Live zero_sums }

abbrev pub zero_list : JobList
zero_list = record { jobs = padded max_jobs []; count = 0 }

-- Set-up and destinations.

abbrev pub settings_of : State → ℕ → Settings
settings_of s t = get_or s.setup.settings t zero_settings

-- the transport that a destination belongs to
abbrev pub transport_of : State → ℕ → ℕ
transport_of s d = at s.setup.home d

-- the settings of a destination's transport, by the set-up and by a state
abbrev pub settings_in : Setup → ℕ → Settings
settings_in u d = get_or u.settings (at u.home d) zero_settings

abbrev pub settings_for : State → ℕ → Settings
settings_for s d = settings_in s.setup d

abbrev pub health_of : State → ℕ → Health
health_of s d = (get_or s.destinations d zero_destination).health

unfoldable pub is_live : Health → Bool
is_live (Live u) = true
is_live (Dead e) = false

-- the window of a live destination
unfoldable pub window_of : Health → ℕ
window_of (Live u) = u.window
window_of (Dead e) = 0

-- Lists of jobs.

-- the job numbers of a list, in its order
abbrev pub list_of : JobList → List ℕ
list_of q = take q.count q.jobs

-- the list of these job numbers, zeros behind them
abbrev pub listed : List ℕ → JobList
listed l = record { jobs = padded max_jobs l; count = length l }

abbrev pub queue_of : State → ℕ → List ℕ
queue_of s t = list_of (get_or s.queues t zero_list)

-- the job of an arrival rank
abbrev pub arrived_at : State → ℕ → ℕ
arrived_at s rank = at (list_of s.arrivals) rank

-- Entries.

abbrev pub is_free : State → ℕ → Bool
is_free s e = eqb (at s.entries.kind e) 0

abbrev pub is_waiting : State → ℕ → Bool
is_waiting s e = eqb (at s.entries.kind e) 1

abbrev pub is_busy : State → ℕ → Bool
is_busy s e = eqb (at s.entries.kind e) 2

abbrev pub job_of : State → ℕ → ℕ
job_of s e = at s.entries.job e

abbrev pub destination_of : State → ℕ → ℕ
destination_of s e = at s.entries.destination e

-- Jobs.

abbrev pub is_present : State → ℕ → Bool
is_present s j = get_or s.jobs.present j false

abbrev pub has_preempted : State → ℕ → Bool
has_preempted s j = get_or s.jobs.preempted j false

-- the waiting entries of a job
unfoldable pub waits_of : State → ℕ → ℕ → Bool
waits_of s j e = is_waiting s e && eqb (job_of s e) j

-- its busy ones
unfoldable pub busy_of : State → ℕ → ℕ → Bool
busy_of s j e = is_busy s e && eqb (job_of s e) j

-- its waiting or busy ones
unfoldable pub used_of : State → ℕ → ℕ → Bool
used_of s j e = not (is_free s e) && eqb (job_of s e) j

-- how many entries of a job wait
unfoldable pub waiting_of : State → ℕ → ℕ
waiting_of s j = count_to (waits_of s j) max_entries

-- the destination at a place of a job's order
abbrev pub order_at : State → ℕ → ℕ → ℕ
order_at s j k = at s.jobs.order (max_destinations * j + k)

-- the link to a job's parent: 0 for none, suc p for p
abbrev pub parent_of : State → ℕ → ℕ
parent_of s j = at s.jobs.parent j
