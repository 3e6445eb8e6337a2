-- Document 01, "Refusal numbers", "Sound means": each clause a test, in its order.
use Rattle.std.specs.Prelude.{ℕ, zero, suc, ◌+◌, ◌*◌, Bool, true, false, not, ◌&&◌, ◌||◌, List, get_or, eqb, ltb, leb}
use Rattle.laws.specs.Range.{all_to, any_to, count_to, table_to}
use Rattle.laws.specs.Chain.{ends_in}
use Rattle.laws.specs.Sequence.{holds, times_in, every_in, holds_each_once, never_falling}
use Rattle.rules.specs.declared.Settings.{Settings}
use Rattle.rules.specs.declared.Sums.{Sums}
use Rattle.rules.specs.declared.Health.{Health}
use Rattle.rules.specs.declared.Health.TheVariants.{Live, Dead}
use Rattle.rules.specs.declared.State.{State}
use Rattle.rules.specs.Sizes.{U, sum_limit, max_destinations, max_jobs, max_entries, max_length}
use Rattle.rules.specs.State.{at, settings_of, transport_of, settings_for, health_of, zero_list, list_of, queue_of, is_free, is_waiting, is_busy, job_of}
use Rattle.rules.specs.State.{destination_of, is_present, has_preempted, busy_of, used_of, waiting_of, order_at, parent_of}
use Rattle.rules.specs.Setup.{within, setup_in_range}
use Rattle.rules.specs.Windows.{cohort_bound}

-- where the first test holds, so does the second
unfoldable pub implies : Bool → Bool → Bool
implies true b = b
implies false b = true

-- "belongs to a present job of its destination's transport"
unfoldable pub belongs : State → ℕ → Bool
belongs s e =
    is_present s (job_of s e)
    && ltb (destination_of s e) s.setup.destinations
    && eqb (at s.jobs.transport (job_of s e)) (transport_of s (destination_of s e))

-- "each used entry is either waiting or busy and belongs .."
unfoldable pub entry_sound : State → ℕ → Bool
entry_sound s e = is_free s e || (is_waiting s e || is_busy s e) && belongs s e

-- the busy entries of a transport, and of a destination
unfoldable pub busy_on : State → ℕ → ℕ → Bool
busy_on s t e = is_busy s e && eqb (transport_of s (destination_of s e)) t

unfoldable pub busy_to : State → ℕ → ℕ → Bool
busy_to s d e = is_busy s e && eqb (destination_of s e) d

-- "busy counts of transports and destinations equal the busy entries"
unfoldable pub busy_sound : State → Bool
busy_sound s =
    all_to (λ t. eqb (at s.busy.transport t) (count_to (busy_on s t) max_entries)) s.setup.transports
    && all_to (λ d. eqb (at s.busy.destination d) (count_to (busy_to s d) max_entries)) s.setup.destinations

-- the present jobs of a transport
unfoldable pub is_job_on : State → ℕ → ℕ → Bool
is_job_on s t j = is_present s j && eqb (at s.jobs.transport j) t

-- "each transport's list holds its present jobs once each"
unfoldable pub queue_sound : State → ℕ → Bool
queue_sound s t = leb (get_or s.queues t zero_list).count max_jobs && holds_each_once (is_job_on s t) max_jobs (queue_of s t)

-- "arrival ranks run from 0 without gap, once each, arrival seconds never falling along them or passing the last accepted clock"
unfoldable pub arrivals_sound : State → Bool
arrivals_sound s =
    leb s.arrivals.count max_jobs
    && holds_each_once (is_present s) max_jobs (list_of s.arrivals)
    && never_falling (at s.jobs.arrival) (list_of s.arrivals)
    && every_in (λ j. leb (at s.jobs.arrival j) s.clock) (list_of s.arrivals)

-- the destinations of a job's order
unfoldable pub order_of : State → ℕ → List ℕ
order_of s j = table_to (order_at s j) (at s.jobs.places j)

-- "its destination order names no destination twice and misses none of its entries'"
unfoldable pub order_sound : State → ℕ → Bool
order_sound s j =
    leb (at s.jobs.places j) max_destinations
    && every_in (λ d. eqb (times_in d (order_of s j)) 1) (order_of s j)
    && all_to (λ e. implies (used_of s j e) (holds (destination_of s e) (order_of s j))) max_entries

-- "a job's waiting, picked and dropped entries add up to its n of 1 to 256, its busy ones are at most the picked"
unfoldable pub counts_sound : State → ℕ → Bool
counts_sound s j =
    eqb (waiting_of s j + at s.jobs.picked j + at s.jobs.dropped j) (at s.jobs.n j)
    && within 1 max_length (at s.jobs.n j)
    && leb (count_to (busy_of s j) max_entries) (at s.jobs.picked j)

-- the slot cost of a job's transport
abbrev pub cost_of : State → ℕ → ℕ
cost_of s j = (settings_of s (at s.jobs.transport j)).cost

-- "c times what it has sold is at most n (sold is 0 where c is 0)"
unfoldable pub sold_sound : State → ℕ → Bool
sold_sound s j =
    leb (cost_of s j * at s.jobs.sold j) (at s.jobs.n j)
    && implies (eqb (cost_of s j) 0) (eqb (at s.jobs.sold j) 0)

-- "a parent is a present job of the same transport, picked from at least once, its child marked as having preempted"
unfoldable pub child_of : State → ℕ → ℕ → Bool
child_of s j zero = true
child_of s j (suc p) =
    is_present s p
    && eqb (at s.jobs.transport p) (at s.jobs.transport j)
    && leb 1 (at s.jobs.picked p)
    && has_preempted s j

-- the clauses that speak of one present job
unfoldable pub job_sound : State → ℕ → Bool
job_sound s j =
    counts_sound s j
    && order_sound s j
    && sold_sound s j
    -- "each job has a waiting or busy entry"
    && any_to (used_of s j) max_entries
    && child_of s j (parent_of s j)
    -- "following parents ends within 32 steps"
    && ends_in (parent_of s) 32 (parent_of s j)
    -- "overtaking sums are at most 65,535"
    && leb (at s.jobs.overtakers j) sum_limit
    -- "turns name what exists", this job's
    && leb (at s.jobs.turn j) (at s.jobs.places j)

-- "a live destination has window 1 to limit and both parts in 0 to U-1, with cohorts below limit times U" (A2)
unfoldable pub sums_fit : Settings → Sums → Bool
sums_fit g u =
    within 1 g.limit u.window
    && ltb u.success U
    && ltb u.failure U
    && ltb u.cohorts (cohort_bound g)

-- ".. ; a dead one has no waiting entry"
unfoldable pub health_sound : State → ℕ → Health → Bool
health_sound s d (Live u) = sums_fit (settings_for s d) u
health_sound s d (Dead end) = not (any_to (λ e. is_waiting s e && eqb (destination_of s e) d) max_entries)

unfoldable pub sound : State → Bool
sound s =
    setup_in_range s.setup
    && all_to (entry_sound s) max_entries
    && busy_sound s
    && all_to (queue_sound s) s.setup.transports
    && arrivals_sound s
    && all_to (λ j. implies (is_present s j) (job_sound s j)) max_jobs
    && all_to (λ d. health_sound s d (health_of s d)) s.setup.destinations
    -- "turns name what exists", the transports'
    && leb s.turn s.setup.transports
