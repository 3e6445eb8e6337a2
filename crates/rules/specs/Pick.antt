-- Document 01, "Picking and preemption": a pick put together, and what it decides. The state here is the one after waking.
use Rattle.std.specs.Prelude.{ℕ, zero, suc, ◌+◌, ◌%◌, List, set}
use Rattle.rules.specs.declared.Busy.{Busy}
use Rattle.rules.specs.declared.Jobs.{Jobs}
use Rattle.rules.specs.declared.State.{State}
use Rattle.rules.specs.Sizes.{tickets}
use Rattle.rules.specs.State.{at, destination_of, waiting_of}
use Rattle.rules.specs.Changed.{at_turn, on_busy, on_jobs, on_entries, on_picked, on_turn, with_kinds}
use Rattle.rules.specs.Picking.{next_transport, current_job, passed_over, went_past, next_place, next_entry}
use Rattle.rules.specs.Preemption.{preemptor_of, preempting}

-- who preempted whom with how many waiting
pub data Preemption : Type 0 where
  nobody : Preemption
  -- by x, of y, with m waiting
  preemption : ℕ → ℕ → ℕ → Preemption

-- what a pick finds
pub record Found : Type 0 where
  pub transport : ℕ
  pub job : ℕ
  pub entry : ℕ
  -- how many jobs it passed over, and which it went past (A13)
  pub passed : ℕ
  pub past : List ℕ
  pub preempted : Preemption

abbrev pub picked_jobs : Jobs → ℕ → ℕ → Jobs
picked_jobs g j place = on_picked (λ picked. set picked j (at picked j + 1)) (on_turn (λ turn. set turn j (place + 1)) g)

abbrev pub one_more_busy : Busy → ℕ → ℕ → Busy
one_more_busy b t d =
    record {
      transport = set b.transport t (at b.transport t + 1);
      destination = set b.destination d (at b.destination d + 1);
    }

-- entry e of job j, at this place of its destination order, is handed out on transport t: "Every pick issues a ticket"
unfoldable pub handed_out : State → ℕ → ℕ → ℕ → ℕ → State
handed_out s t j place e =
    at_turn ((s.ticket + 1) % tickets) (t + 1)
    (on_busy (λ b. one_more_busy b t (destination_of s e))
    (on_jobs (λ g. picked_jobs g j place)
    (on_entries (λ g. with_kinds g (set g.kind e 2) (set g.ticket e s.ticket)) s)))

-- what is picked, and the state after it: from the current job y, or from the job that preempts it
pub record Picked : Type 0 where
  pub found : Found
  pub state : State

unfoldable pub pick_from : State → ℕ → ℕ → ℕ → List ℕ → Preemption → Picked
pick_from s t j passed past p =
    record {
      found = record { transport = t; job = j; entry = next_entry s j; passed = passed; past = past; preempted = p };
      state = handed_out s t j (next_place s j) (next_entry s j);
    }

-- jobs passed over are those before y as the list stands; those gone past "at the moment of choosing, after the preempting job has been moved" (A13)
unfoldable pub pick_with : State → ℕ → ℕ → ℕ → Picked
pick_with s t y zero = pick_from s t y (passed_over s t y) (went_past s t y) nobody
pick_with s t y (suc x) = pick_from moved t x (passed_over s t y) (went_past moved t x) (preemption x y (waiting_of s x))
  where
    moved : State
    moved = preempting s t x y (waiting_of s x)

unfoldable pub pick_on : State → ℕ → ℕ → ℕ → Picked
pick_on s now t y = pick_with s t y (preemptor_of s now t y)

-- the pick where some entry is eligible
unfoldable pub picking : State → ℕ → Picked
picking s now = pick_on s now (next_transport s) (current_job s (next_transport s))
