-- What a pick reads, as the rules define it: where something is found, the transport, the current job, how many it passed over, who preempts it
-- with how many waiting, and the job, place and entry that the pick is from.
use Rattle.std.specs.Prelude.{ℕ, Option, Some, None}
use Rattle.laws.specs.Bools.{when◌then◌else◌}
use Rattle.rules.specs.declared.State.{State}
use Rattle.rules.specs.Picking.{finds, next_transport, current_job, passed_over, next_place, next_entry}
use Rattle.rules.specs.Preemption.{preemptor_of}
use Rattle.preemption.specs.declared.Preemptor.{Preemptor}
use Rattle.preemption.specs.Preempting.{preemptor_at}
use Rattle.choice.specs.declared.Choice.{Choice}

-- the job picked from: the one that preempts, or the current one
unfoldable pub picked_from : ℕ → Option Preemptor → ℕ
picked_from y None = y
picked_from y (Some p) = p.job

-- on transport t with the current job y, preempted by p, the pick is from j
abbrev pub chosen : State → ℕ → ℕ → Option Preemptor → ℕ → Choice
chosen s t y p j =
    record {
      transport = t;
      current = y;
      passed = passed_over s t y;
      preemptor = p;
      job = j;
      place = next_place s j;
      entry = next_entry s j;
    }

abbrev pub chosen_with : State → ℕ → ℕ → Option Preemptor → Choice
chosen_with s t y p = chosen s t y p (picked_from y p)

abbrev pub chosen_on : State → ℕ → ℕ → ℕ → Choice
chosen_on s now t y = chosen_with s t y (preemptor_at s (preemptor_of s now t y))

unfoldable pub choice_of : State → ℕ → Option Choice
choice_of s now = when finds s then Some (chosen_on s now (next_transport s) (current_job s (next_transport s))) else None
