-- What waits and where there is room, over columns. proofs/ ties each to the rule of `rules` whose columns these are.
use Rattle.std.specs.Prelude.{ℕ, ◌+◌, ◌-◌, ◌*◌, ◌≤◌, ◌<◌, ◌≡◌, Bool, true, false, ◌&&◌, List, get_or, eqb, ltb}
use Rattle.laws.specs.Bools.{when◌then◌else◌}
use Rattle.laws.specs.Range.{any_to, count_to, table_to}
use Rattle.rules.specs.declared.Busy.{Busy}
use Rattle.rules.specs.declared.Destination.{Destination}
use Rattle.rules.specs.declared.Jobs.{Jobs}
use Rattle.rules.specs.declared.Setup.{Setup}
use Rattle.rules.specs.declared.State.{State}
use Rattle.rules.specs.State.{at, zero_destination, is_live, window_of, waiting_of, settings_in}
use Rattle.rules.specs.Picking.{has_eligible}

-- a destination with room, whose transport has a free agent
unfoldable pub is_open : List Destination → Busy → Setup → ℕ → Bool
is_open ds b u d =
    (is_live (get_or ds d zero_destination).health && ltb (at b.destination d) (window_of (get_or ds d zero_destination).health))
    && ltb (at b.transport (at u.home d)) (settings_in u d).agents

-- entry e waits for job j
unfoldable pub waits_in : List ℕ → List ℕ → ℕ → ℕ → Bool
waits_in kind job j e = eqb (at kind e) 1 && eqb (at job e) j

-- what waits of job j, by its own counts; 0 where it is absent
unfoldable pub left_in : List Bool → List ℕ → List ℕ → List ℕ → ℕ → ℕ
left_in present n picked dropped j = when get_or present j false then at n j - (at picked j + at dropped j) else 0

-- .. which soundness ties to the entries
pub record Adds (g : Jobs) (kind job : List ℕ) : Type 0 where
  pub present : (j : ℕ) → j < 32 → get_or g.present j false ≡ true → count_to (waits_in kind job j) 512 + at g.picked j + at g.dropped j ≡ at g.n j
  pub absent : (j : ℕ) → j < 32 → get_or g.present j false ≡ false → count_to (waits_in kind job j) 512 ≡ 0
  pub others : (j : ℕ) → 32 ≤ j → count_to (waits_in kind job j) 512 ≡ 0

-- job j has an entry that waits for destination d, which has room
unfoldable pub open_pair : List ℕ → List Bool → ℕ → ℕ → Bool
open_pair pairs room j d = ltb 0 (at pairs (32 * j + d)) && get_or room d false

-- the same of a number that may be no destination
unfoldable pub open_to : List ℕ → List Bool → ℕ → ℕ → Bool
open_to pairs room j d = ltb d 32 && open_pair pairs room j d

-- which jobs have an entry that waits for a destination with room
unfoldable pub ready_in : List ℕ → List Bool → List Bool
ready_in pairs room = table_to (λ j. any_to (open_pair pairs room j) 32) 32

-- the tables hold, of each job, how many of its entries wait and whether one is eligible
pub record Reads (s : State) (waits : List ℕ) (ready : List Bool) : Type 0 where
  pub waiting : (j : ℕ) → j < 256 → at waits j ≡ waiting_of s j
  pub eligible : (j : ℕ) → j < 256 → get_or ready j false ≡ has_eligible s j

-- entry e of job j waits for destination d
unfoldable pub waits_for : List ℕ → List ℕ → List ℕ → ℕ → ℕ → ℕ → Bool
waits_for kind job destination j d e = (eqb (at kind e) 1 && eqb (at job e) j) && eqb (at destination e) d

-- an entry of job j waits for the destination at a place of its order, which has room
unfoldable pub open_place : List ℕ → List ℕ → List Bool → ℕ → ℕ → Bool
open_place order pairs room j k = open_to pairs room j (at order (32 * j + k))
