-- Document 01, "Time and tickets", second part: what a new job becomes. The state here is the one after waking.
use Rattle.std.specs.Prelude.{ℕ, ◌+◌, ◌*◌, Bool, true, false, not, List, [], ◌∷◌, ◌++◌, length, take, drop, set}
use Rattle.laws.specs.Range.{first_to, chosen_to, fold_to}
use Rattle.laws.specs.Sequence.{keep, padded, firsts_to}
use Rattle.rules.specs.declared.Jobs.{Jobs}
use Rattle.rules.specs.declared.Entries.{Entries}
use Rattle.rules.specs.declared.State.{State}
use Rattle.rules.specs.Sizes.{max_destinations, max_jobs, max_entries}
use Rattle.rules.specs.State.{at, health_of, is_live, is_free, is_present}
use Rattle.rules.specs.Changed.{on_queue, on_arrivals, on_jobs, on_entries}

-- "Its entries for dead destinations are put off at once"
unfoldable pub is_dead : State → ℕ → Bool
is_dead s d = not (is_live (health_of s d))

-- "their positions in the job .. in rising order"
unfoldable pub put_off_positions : State → List ℕ → List ℕ
put_off_positions s dests = chosen_to (λ i. is_dead s (at dests i)) (length dests)

-- the destinations of the entries that must wait, in job order
unfoldable pub kept_of : State → List ℕ → List ℕ
kept_of s dests = keep (λ d. not (is_dead s d)) dests

-- "n counts the others"
unfoldable pub n_of : State → List ℕ → ℕ
n_of s dests = length (kept_of s dests)

-- "a job takes the lowest free number"
unfoldable pub new_number : State → ℕ
new_number s = first_to (λ j. not (is_present s j)) max_jobs

-- "its waiting entries the lowest free places, rising in job order"
unfoldable pub free_places : State → List ℕ
free_places s = chosen_to (is_free s) max_entries

-- a column with f i at the i-th of these places, for i below n
unfoldable pub filled : List ℕ → (ℕ → ℕ) → ℕ → List ℕ → List ℕ
filled places f n column = fold_to (λ i l. set l (at places i) (f i)) column n

-- "destinations in order of first appearance among its n"
unfoldable pub new_order : List ℕ → List ℕ
new_order kept = firsts_to kept (length kept)

-- the places of job j in the column of orders, written anew
unfoldable pub with_order : List ℕ → ℕ → List ℕ → List ℕ
with_order column j order =
    take (max_destinations * j) column
    ++ padded max_destinations order
    ++ drop (max_destinations * j + max_destinations) column

abbrev pub new_jobs : Jobs → ℕ → ℕ → ℕ → List ℕ → Jobs
new_jobs g j t now kept =
    record {
      present = set g.present j true;
      transport = set g.transport j t;
      n = set g.n j (length kept);
      picked = set g.picked j 0;
      dropped = set g.dropped j 0;
      sold = set g.sold j 0;
      parent = set g.parent j 0;
      preempted = set g.preempted j false;
      arrival = set g.arrival j now;
      overtakers = set g.overtakers j 0;
      turn = set g.turn j 0;
      places = set g.places j (length (new_order kept));
      order = with_order g.order j (new_order kept);
    }

abbrev pub new_entries : Entries → List ℕ → ℕ → List ℕ → Entries
new_entries e places j kept =
    record {
      kind = filled places (λ i. 1) (length kept) e.kind;
      job = filled places (λ i. j) (length kept) e.job;
      destination = filled places (at kept) (length kept) e.destination;
      ticket = e.ticket;
    }

-- "A new job goes to the end of its transport's list"; its arrival rank is the last
unfoldable pub taken : State → ℕ → ℕ → ℕ → List ℕ → State
taken s j t now kept =
    on_queue t (λ l. l ++ (j ∷ []))
    (on_arrivals (λ l. l ++ (j ∷ []))
    (on_jobs (λ g. new_jobs g j t now kept) (on_entries (λ e. new_entries e (free_places s) j kept) s)))
