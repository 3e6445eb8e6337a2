-- Who stays after a report, over the columns that the code reads: what rules/specs/Reporting.antt says of a state with these columns.
use Rattle.std.specs.Prelude.{ℕ, ◌+◌, ◌*◌, ◌<◌, ◌≡◌, Bool, true, false, not, ◌&&◌, ◌||◌, List, get_or, eqb, ltb}
use Rattle.laws.specs.Bools.{when◌then◌else◌}
use Rattle.laws.specs.Range.{any_to}
use Rattle.laws.specs.Chain.{first_along}
use Rattle.rules.specs.Sizes.{max_jobs, max_entries}
use Rattle.rules.specs.State.{at}

-- a job's waiting or busy entries
abbrev pub used_at : List ℕ → List ℕ → ℕ → ℕ → Bool
used_at kind job j e = not (eqb (at kind e) 0) && eqb (at job e) j

-- a present job with such an entry among the first n
abbrev pub stays_at : List ℕ → List ℕ → List Bool → ℕ → ℕ → Bool
stays_at kind job present n j = get_or present j false && any_to (used_at kind job j) n

-- by the table of what waits, an entry of job j waits for x, which is not d
abbrev pub elsewhere : List ℕ → ℕ → ℕ → ℕ → Bool
elsewhere pairs d j x = ltb 0 (at pairs (32 * j + x)) && not (eqb x d)

-- where destination d dies at a report of an entry of the job `of`: job j loses an entry, and none of its waits elsewhere
abbrev pub emptied : List ℕ → ℕ → ℕ → ℕ → Bool
emptied pairs d of j = (ltb 0 (at pairs (32 * j + d)) || eqb j of) && not (any_to (elsewhere pairs d j) 32)

-- each present job but these has a waiting or busy entry
abbrev pub OthersStay : (ℕ → Bool) → List ℕ → List ℕ → List Bool → Type 0
OthersStay these kind job present =
    (j : ℕ) → j < max_jobs → these j ≡ false → get_or present j false ≡ true → any_to (used_at kind job j) max_entries ≡ true

-- the link to the nearest ancestor that stays
abbrev pub nearest_of : List Bool → List ℕ → ℕ → ℕ
nearest_of stays parent link = first_along (λ x. get_or stays x false) (at parent) max_jobs link

-- the parent of a job after the others have left
abbrev pub adopted_at : List Bool → List ℕ → ℕ → ℕ
adopted_at stays parent j = when get_or stays j false then nearest_of stays parent (at parent j) else at parent j
