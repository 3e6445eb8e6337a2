-- What the tests of a job read of a state, over the columns that its functions are lent.
use Rattle.std.specs.Prelude.{ℕ, Bool, false, not, ◌&&◌, List, length, get_or, eqb, ltb}
use Rattle.laws.specs.Bools.{when◌then◌else◌}
use Rattle.laws.specs.Range.{all_to, count_to, chosen_to}
use Rattle.laws.specs.Sequence.{every_in, keep}
use Rattle.rules.specs.declared.Destination.{Destination}
use Rattle.rules.specs.Sizes.{max_jobs, max_entries, max_length}
use Rattle.rules.specs.State.{at, zero_destination, is_live}
use Rattle.rules.specs.Setup.{within}

-- `is_dead`, of the destinations
unfoldable pub dead_on : List Destination → ℕ → Bool
dead_on ds d = not (is_live (get_or ds d zero_destination).health)

-- `is_destination_on`, of a set-up's homes and its number of destinations
unfoldable pub on_transport : List ℕ → ℕ → ℕ → ℕ → Bool
on_transport home count t d = ltb d count && eqb (at home d) t

-- `is_free`, of the column of kinds
unfoldable pub free_in : List ℕ → ℕ → Bool
free_in kind e = eqb (at kind e) 0

-- `kept_of` and `put_off_positions`, by a table of the dead
unfoldable pub kept_by : List Bool → List ℕ → List ℕ
kept_by dead dests = keep (λ d. not (get_or dead d false)) dests

unfoldable pub put_off_by : List Bool → List ℕ → List ℕ
put_off_by dead dests = chosen_to (λ i. get_or dead (at dests i) false) (length dests)

-- `job_refusal` once the clock is good, of the state after waking: over the homes, who is present and the column of kinds, a set-up's numbers of transports
-- and destinations, the job's transport and destinations, how many of these are not dead, and how many places the list has
unfoldable pub further_refusal : List ℕ → List Bool → List ℕ → ℕ → ℕ → ℕ → List ℕ → ℕ → ℕ → ℕ
further_refusal home present kind transports count t dests n places =
    when not (ltb t transports) then 4
    else when not (within 1 max_length (length dests)) then 5
    else when not (every_in (on_transport home count t) dests) then 6
    else when ltb 0 n && all_to (λ j. get_or present j false) max_jobs then 7
    else when ltb (count_to (free_in kind) max_entries) n then 8
    else when ltb places (length dests) then 10
    else 0
