-- Document 01, "Windows", last part: what a report does after the destination's step. The state here is the one after waking.
use Rattle.std.specs.Prelude.{ℕ, ◌+◌, ◌-◌, Bool, true, false, ◌&&◌, List, set, eqb}
use Rattle.laws.specs.Bools.{when◌then◌else◌}
use Rattle.laws.specs.Range.{any_to, count_to, chosen_to, table_to}
use Rattle.laws.specs.Chain.{first_along}
use Rattle.laws.specs.Sequence.{keep}
use Rattle.rules.specs.declared.Health.{Health}
use Rattle.rules.specs.declared.Busy.{Busy}
use Rattle.rules.specs.declared.State.{State}
use Rattle.rules.specs.declared.Outcome.{Outcome}
use Rattle.rules.specs.declared.Move.{Move}
use Rattle.rules.specs.declared.StepAnswer.{StepAnswer}
use Rattle.rules.specs.Sizes.{max_jobs, max_entries}
use Rattle.rules.specs.State.{at, transport_of, settings_for, health_of, is_waiting, job_of, destination_of, is_present}
use Rattle.rules.specs.State.{used_of, parent_of}
use Rattle.rules.specs.Changed.{on_destinations, on_busy, on_queue, on_arrivals, on_jobs, on_entries, on_present, on_dropped, on_parent, with_kinds}
use Rattle.rules.specs.Windows.{stepped}

-- the destination's step
abbrev pub reported_step : State → ℕ → ℕ → Outcome → StepAnswer
reported_step s now d outcome = stepped (settings_for s d) (at s.busy.destination d) now outcome (health_of s d)

-- it died in this step
unfoldable pub is_death : Move → Bool
is_death Move.Unchanged = false
is_death Move.Raised = false
is_death Move.Lowered = false
is_death Move.Dead = true
is_death Move.Revived = false

-- "its waiting entries are put off"
unfoldable pub is_put_off : State → Bool → ℕ → ℕ → Bool
is_put_off s died d e = died && is_waiting s e && eqb (destination_of s e) d

-- "entry numbers rising in the list"
unfoldable pub put_off_entries : State → Bool → ℕ → List ℕ
put_off_entries s died d = chosen_to (is_put_off s died d) max_entries

-- how many entries of a job are put off
unfoldable pub put_off_of : State → Bool → ℕ → ℕ → ℕ
put_off_of s died d j = count_to (λ e. is_put_off s died d e && eqb (job_of s e) j) max_entries

-- "the reported entry is free"
unfoldable pub kind_after : State → Bool → ℕ → ℕ → ℕ → ℕ
kind_after s died d e i = when eqb i e then 0 else when is_put_off s died d i then 0 else at s.entries.kind i

abbrev pub one_less_busy : Busy → ℕ → ℕ → Busy
one_less_busy b t d =
    record {
      transport = set b.transport t (at b.transport t - 1);
      destination = set b.destination d (at b.destination d - 1);
    }

-- entry e, to destination d, is free again, and d's waiting entries are put off where it died
unfoldable pub settled : State → ℕ → ℕ → Health → Bool → State
settled s e d health died =
    on_destinations (λ ds. set ds d (record { health = health }))
    (on_busy (λ b. one_less_busy b (transport_of s d) d)
    (on_jobs (on_dropped (λ dropped. table_to (λ j. at dropped j + put_off_of s died d j) max_jobs))
    (on_entries (λ g. with_kinds g (table_to (kind_after s died d e) max_entries) g.ticket) s)))

-- "Every job then without a waiting or busy entry leaves": the others stay
unfoldable pub stays : State → ℕ → Bool
stays s j = is_present s j && any_to (used_of s j) max_entries

-- the link to "the nearest ancestor that stays"; 0 where there is none
abbrev pub nearest_staying : State → ℕ → ℕ
nearest_staying s j = first_along (stays s) (parent_of s) max_jobs (parent_of s j)

-- "Its children pass to the nearest ancestor that stays, or to none"
unfoldable pub parent_after : State → ℕ → ℕ
parent_after s j = when stays s j then nearest_staying s j else parent_of s j

-- the jobs that do not stay have left. A report ends entries of one transport t only, so they are t's; "ranks close up when one leaves"
unfoldable pub departed : State → ℕ → State
departed s t =
    on_queue t (keep (stays s))
    (on_arrivals (keep (stays s))
    (on_jobs (λ g. on_present (λ present. table_to (stays s) max_jobs) (on_parent (λ parent. table_to (parent_after s) max_jobs) g)) s))

-- the put-off entries, why the destination's number moved, and the state after a report of entry e
pub record Reported : Type 0 where
  pub putoff : List ℕ
  pub moved : Move
  pub state : State

-- "A report hands this on" (A7)
unfoldable pub reported_at : State → ℕ → ℕ → StepAnswer → Reported
reported_at s e d step =
    record {
      putoff = put_off_entries s (is_death step.moved) d;
      moved = step.moved;
      state = departed (settled s e d step.health (is_death step.moved)) (transport_of s d);
    }

unfoldable pub reporting : State → ℕ → ℕ → ℕ → Outcome → Reported
reporting s now e d outcome = reported_at s e d (reported_step s now d outcome)
