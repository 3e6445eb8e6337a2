-- What the search for the best candidate takes for granted of the list of arrivals, and what it answers.
use Rattle.std.specs.Prelude.{ℕ, suc, ◌≤◌, ◌<◌, ◌≡◌, true, List, Option, Some, None}
use Rattle.laws.specs.Sequence.{never_falling}
use Rattle.rules.specs.declared.JobList.{JobList}
use Rattle.rules.specs.State.{at, list_of}

-- the seconds of a list of jobs never fall along it; each job is one of the 32, and came at or before now
abbrev pub Arrived : List ℕ → JobList → ℕ → Type 0
Arrived arrival l now =
    (never_falling (at arrival) (list_of l) ≡ true)
    × ((i : ℕ) → i < l.count → (at l.jobs i < 32) × (at arrival (at l.jobs i) ≤ now))

-- the link to a job, where there is one; 0 for none
abbrev pub link_to : Option ℕ → ℕ
link_to None = 0
link_to (Some j) = suc j
