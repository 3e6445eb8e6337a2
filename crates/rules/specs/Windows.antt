-- Document 01, "Windows" and the waking of "Time and tickets".
use Rattle.std.specs.Prelude.{ℕ, ◌+◌, ◌-◌, ◌*◌, ◌/◌, min, max, Bool, List, get_or, eqb, ltb, leb}
use Rattle.laws.specs.Bools.{when◌then◌else◌}
use Rattle.laws.specs.Range.{greatest_to, table_to}
use Rattle.laws.specs.Fractions.{rounded_up}
use Rattle.rules.specs.declared.Feedback.{Feedback}
use Rattle.rules.specs.declared.Settings.{Settings}
use Rattle.rules.specs.declared.Setup.{Setup}
use Rattle.rules.specs.declared.Sums.{Sums}
use Rattle.rules.specs.declared.Health.{Health}
use Rattle.rules.specs.declared.Health.TheVariants.{Live, Dead}
use Rattle.rules.specs.declared.Destination.{Destination}
use Rattle.rules.specs.declared.State.{State}
use Rattle.rules.specs.declared.Outcome.{Outcome}
use Rattle.rules.specs.declared.Outcome.TheVariants.{Success, Failure}
use Rattle.rules.specs.declared.Move.{Move}
use Rattle.rules.specs.declared.StepAnswer.{StepAnswer}
use Rattle.rules.specs.Sizes.{U, max_destinations}
use Rattle.rules.specs.State.{zero_destination, settings_in}
use Rattle.rules.specs.Changed.{at_clock, on_destinations}
use Rattle.rules.specs.Setup.{first_state}

-- "the greatest whole R with R·R·N ≤ U·U" (A6); none is above U
unfoldable pub root : ℕ → ℕ
root N = greatest_to (λ R. leb (R * R * N) (U * U)) U

-- "Feedback of p percent is p·U/100 flat, or p·U/(100·window) per window", the latter "rounded up to a whole part", or by the square root,
-- "p·R/100 rounded down" (A6)
unfoldable pub feedback : Feedback → ℕ → ℕ
feedback f window =
    when eqb f.form 0
    then f.percent * U / 100
    else (when eqb f.form 1 then rounded_up (f.percent * U) (100 * window) else f.percent * root window / 100)

-- "cohorts grow by U/window", "rounded up to a whole part" (A6): the share of a cohort that one failure is
unfoldable pub cohort_share : ℕ → ℕ
cohort_share window = rounded_up U window

-- "limit times U", the cohort limit
abbrev pub cohort_bound : Settings → ℕ
cohort_bound g = g.cohortlimit * U

-- "cohorts are at or above limit times U" (A2)
unfoldable pub is_dead_at : Settings → ℕ → Bool
is_dead_at g cohorts = leb (cohort_bound g) cohorts

-- "success grows by the feedback; at U or more, U is taken off, window grows by 1, failure becomes 0; a window over the limit is set to it"
unfoldable pub raised : Settings → Sums → ℕ → Sums
raised g u success =
    when leb U success
    then record { window = min (u.window + 1) g.limit; success = success - U; failure = 0; cohorts = 0 }
    else record { window = u.window; success = success; failure = u.failure; cohorts = 0 }

-- "Live: cohorts 0. Then, only if window < busy + initial, busy still counting this delivery: success grows"
unfoldable pub live_after_success : Settings → ℕ → Sums → Sums
live_after_success g busy u =
    when ltb u.window (busy + g.initial)
    then raised g u (u.success + feedback g.positive u.window)
    else record { window = u.window; success = u.success; failure = u.failure; cohorts = 0 }

-- "Success .. Dead: first state"
unfoldable pub after_success : Settings → ℕ → Health → Health
after_success g busy (Live u) = Live (live_after_success g busy u)
after_success g busy (Dead end) = Live (first_state g)

-- "failure falls by the feedback of the old window; below 0, U is added, window falls by 1, success becomes 0; a window under 1 is set to 1"
unfoldable pub lowered : Sums → ℕ → ℕ → Sums
lowered u fall cohorts =
    when ltb u.failure fall
    then record { window = max (u.window - 1) 1; success = 0; failure = u.failure + U - fall; cohorts = cohorts }
    else record { window = u.window; success = u.success; failure = u.failure - fall; cohorts = cohorts }

-- "cohorts grow by U/window. If cohorts are at or above limit times U, the destination is dead until now + suspension .. Else .."
unfoldable pub live_after_failure : Settings → ℕ → Sums → ℕ → Health
live_after_failure g now u cohorts =
    when is_dead_at g cohorts
    then Dead (now + g.suspension)
    else Live (lowered u (feedback g.negative u.window) cohorts)

-- "Failure .. Dead: nothing changes"
unfoldable pub after_failure : Settings → ℕ → Health → Health
after_failure g now (Live u) = live_after_failure g now u (u.cohorts + cohort_share u.window)
after_failure g now (Dead end) = Dead end

-- the step of a report; "busy still counting this delivery"
unfoldable pub after_report : Settings → ℕ → ℕ → Outcome → Health → Health
after_report g busy now Success h = after_success g busy h
after_report g busy now Failure h = after_failure g now h

-- Why the number moved (A7).

-- "Raised and lowered mean that a live window ends larger or smaller than the step found it, so a step pushed back by a limit is unchanged"
unfoldable pub window_moved : ℕ → ℕ → Move
window_moved found left =
    when ltb found left then Move.Raised
    else when ltb left found then Move.Lowered
    else Move.Unchanged

-- "dead that it died in the step"
unfoldable pub live_moved : ℕ → Health → Move
live_moved found (Live u) = window_moved found u.window
live_moved found (Dead end) = Move.Dead

-- "revived that a success found it dead; all else is unchanged"
unfoldable pub dead_moved : Outcome → Move
dead_moved Success = Move.Revived
dead_moved Failure = Move.Unchanged

-- by the outcome, and by the destination as the step found it and as it left it
unfoldable pub moved : Outcome → Health → Health → Move
moved outcome (Live u) left = live_moved u.window left
moved outcome (Dead end) left = dead_moved outcome

-- each case's number, in the order of the request
unfoldable pub move_number : Move → ℕ
move_number Move.Unchanged = 0
move_number Move.Raised = 1
move_number Move.Lowered = 2
move_number Move.Dead = 3
move_number Move.Revived = 4

-- "The window step shall also answer" it
abbrev pub stepped : Settings → ℕ → ℕ → Outcome → Health → StepAnswer
stepped g busy now outcome h =
    record {
      health = after_report g busy now outcome h;
      moved = moved outcome h (after_report g busy now outcome h);
    }

-- "wakes destinations whose suspension ends at or before it, to their first state"
unfoldable pub woken_health : Settings → ℕ → Health → Health
woken_health g now (Live u) = Live u
woken_health g now (Dead end) = when leb end now then Live (first_state g) else Dead end

-- a destination after waking; past the set-up's destinations nothing is woken
unfoldable pub woken_at : List Destination → Setup → ℕ → ℕ → Destination
woken_at ds u now d =
    when ltb d u.destinations
    then record { health = woken_health (settings_in u d) now (get_or ds d zero_destination).health }
    else get_or ds d zero_destination

-- "Once accepted, each first wakes destinations": the state with this clock as the last accepted one, and all of them woken
unfoldable pub woken : State → ℕ → State
woken s now = at_clock now (on_destinations (λ ds. table_to (woken_at ds s.setup now) max_destinations) s)
