-- What holds of the groups (A5), for every limit of 1 or more and every list of destinations; and what a relay does with them next.
use Rattle.std.specs.Prelude.{ℕ, ◌≤◌, ◌<◌, ◌≡◌, List, length, eqb, ltb}
use Rattle.laws.specs.Bools.{when◌then◌else◌}
use Rattle.laws.specs.Range.{count_to, first_to}
use Rattle.rules.specs.declared.State.{State}
use Rattle.rules.specs.State.{at}
use Rattle.rules.specs.Windows.{woken}
use Rattle.rules.specs.Refusals.{bad_clock, lacks_number, lacks_places, job_refusal}
use Rattle.recipients.specs.Groups.{destinations_of, entries_of, group_count, group_of}
use Rattle.recipients.specs.Grouping.{group_refusal, group_reply}

-- how many pairs group g has
unfoldable pub pairs_in : ℕ → List ℕ → ℕ → ℕ
pairs_in limit dests g = count_to (λ i. eqb (group_of limit dests i) g) (length dests)

-- the first pair to d
unfoldable pub first_pair : List ℕ → ℕ → ℕ
first_pair dests d = first_to (λ i. eqb (at dests i) d) (length dests)

module _ (limit : ℕ) (dests : List ℕ) where
  -- of pairs i and j of the list
  abbrev Pair : ℕ → Type 0
  Pair i = i < length dests

  pub record GroupsHold : Type 0 where
    -- the group numbers are below the answer ..
    pub below : (i : ℕ) → Pair i → group_of limit dests i < group_count limit dests
    -- .. and each of those is used: a group has a pair, and "at most that many recipients"
    pub sizes : (g : ℕ) → g < group_count limit dests → (1 ≤ pairs_in limit dests g) × (pairs_in limit dests g ≤ limit)
    -- "to one destination"
    pub alone : (i j : ℕ) → Pair i → Pair j → group_of limit dests i ≡ group_of limit dests j → at dests i ≡ at dests j
    -- "a group is filled before the next is begun": only the last group of a destination may be short
    pub full : (i j : ℕ) → Pair i → Pair j → at dests i ≡ at dests j → group_of limit dests i < group_of limit dests j → pairs_in limit dests (group_of limit dests i) ≡ limit
    -- "recipients in given order"
    pub ordered : (i j : ℕ) → Pair j → i ≤ j → at dests i ≡ at dests j → group_of limit dests i ≤ group_of limit dests j
    -- "Groups come by first appearance of the destination"
    pub appearing : (i j : ℕ) → Pair i → Pair j → first_pair dests (at dests i) < first_pair dests (at dests j) → group_of limit dests i < group_of limit dests j
    -- the entry of a pair's group is to the pair's destination
    pub entries : (i : ℕ) → Pair i → at (entries_of limit dests) (group_of limit dests i) ≡ at dests i

-- "no job is taken and all else stays", whatever is handed over
abbrev pub StateStays : Type 0
StateStays = (s : State) (t limit : ℕ) (pairs list : List ℕ) → (group_reply s t limit pairs list).state ≡ s

-- What a relay does next: it hands over a job with an entry for each group. Of the job's tests only those are left that no group can foresee.
abbrev pub JobFollows : Type 0
JobFollows =
    (s : State) (now t limit : ℕ) (pairs numbers list : List ℕ)
    → group_refusal s t limit pairs numbers ≡ 0
    → job_refusal s now t (entries_of limit (destinations_of pairs)) list
    ≡ (when bad_clock s now then 3
    else when lacks_number (woken s now) (entries_of limit (destinations_of pairs)) then 7
    else when lacks_places (woken s now) (entries_of limit (destinations_of pairs)) then 8
    else when ltb (length list) (group_count limit (destinations_of pairs)) then 10
    else 0)
