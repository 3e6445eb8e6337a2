-- Document 01, "Picking and preemption", first part: which transport, which job, which entry. The state here is the one after waking.
use Rattle.std.specs.Prelude.{ℕ, ◌+◌, ◌%◌, Bool, not, ◌&&◌, List, eqb, ltb}
use Rattle.laws.specs.Range.{any_to, first_to}
use Rattle.laws.specs.Sequence.{keep, first_of, up_to, count_in}
use Rattle.rules.specs.declared.State.{State}
use Rattle.rules.specs.Sizes.{max_jobs, max_entries}
use Rattle.rules.specs.State.{at, settings_of, transport_of, health_of, is_live, window_of, queue_of, is_waiting, job_of, destination_of, waiting_of, order_at}

-- "its destination is live with busy below window"
unfoldable pub has_room : State → ℕ → Bool
has_room s d = is_live (health_of s d) && ltb (at s.busy.destination d) (window_of (health_of s d))

-- "its transport has a free agent"
unfoldable pub has_agent : State → ℕ → Bool
has_agent s t = ltb (at s.busy.transport t) (settings_of s t).agents

-- "An entry is eligible if it waits, its destination is live with busy below window, and its transport has a free agent"
unfoldable pub eligible : State → ℕ → Bool
eligible s e = is_waiting s e && has_room s (destination_of s e) && has_agent s (transport_of s (destination_of s e))

-- the eligible entries of a transport, of a job, and of a job to a destination
unfoldable pub eligible_on : State → ℕ → ℕ → Bool
eligible_on s t e = eligible s e && eqb (transport_of s (destination_of s e)) t

unfoldable pub eligible_of : State → ℕ → ℕ → Bool
eligible_of s j e = eligible s e && eqb (job_of s e) j

unfoldable pub eligible_to : State → ℕ → ℕ → ℕ → Bool
eligible_to s j d e = eligible_of s j e && eqb (destination_of s e) d

unfoldable pub has_eligible : State → ℕ → Bool
has_eligible s j = any_to (eligible_of s j) max_entries

-- turns among n: how far from `start` on, going round, the first that passes the test is; n where none does
unfoldable pub steps_to : (ℕ → Bool) → ℕ → ℕ → ℕ
steps_to p n start = first_to (λ i. p ((start + i) % n)) n

-- "Transports take turns after the last one picked from (fresh: 0 first); those without an eligible entry are skipped"
unfoldable pub transport_steps : State → ℕ
transport_steps s = steps_to (λ t. any_to (eligible_on s t) max_entries) s.setup.transports s.turn

-- some transport has its turn
unfoldable pub finds : State → Bool
finds s = ltb (transport_steps s) s.setup.transports

unfoldable pub next_transport : State → ℕ
next_transport s = (s.turn + transport_steps s) % s.setup.transports

-- "The current job is the first on the list with an eligible entry"
unfoldable pub current_job : State → ℕ → ℕ
current_job s t = first_of (has_eligible s) (queue_of s t) max_jobs

-- a job "with a waiting entry"
abbrev pub has_waiting : State → ℕ → Bool
has_waiting s j = ltb 0 (waiting_of s j)

-- "the number of jobs passed over: those before the old current job with a waiting entry"
unfoldable pub passed_over : State → ℕ → ℕ → ℕ
passed_over s t y = count_in (has_waiting s) (up_to y (queue_of s t))

-- "it had a waiting entry and none eligible" (A13)
unfoldable pub is_blocked : State → ℕ → Bool
is_blocked s j = has_waiting s j && not (has_eligible s j)

-- the jobs that a pick from j goes past (A13): it "chose a job behind" each of them "in the list" while that one was blocked
unfoldable pub went_past : State → ℕ → ℕ → List ℕ
went_past s t j = keep (is_blocked s) (up_to j (queue_of s t))

-- "Inside a job, destinations in order of first appearance among its n take turns after the last one picked (at first, from the front),
-- skipping those with nothing eligible": the place in the order
unfoldable pub next_place : State → ℕ → ℕ
next_place s j =
    (at s.jobs.turn j
    + steps_to (λ k. any_to (eligible_to s j (order_at s j k)) max_entries) (at s.jobs.places j) (at s.jobs.turn j))
    % at s.jobs.places j

-- "inside a destination, job order"
unfoldable pub next_entry : State → ℕ → ℕ
next_entry s j = first_to (eligible_to s j (order_at s j (next_place s j))) max_entries
