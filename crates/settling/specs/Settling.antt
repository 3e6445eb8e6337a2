-- The parts of a report on its destination and its entries, over the columns that they read: each is what rules/specs/Reporting.antt says of a state with
-- these columns.
use Rattle.std.specs.Prelude.{ℕ, ◌+◌, ◌≤◌, ◌<◌, ◌≡◌, Bool, false, not, ◌&&◌, List, length, Option, Some, None, eqb, ltb}
use Rattle.laws.specs.Bools.{when◌then◌else◌}
use Rattle.laws.specs.Range.{count_to, chosen_to, table_to}
use Rattle.rules.specs.Sizes.{max_jobs, max_entries, max_length}
use Rattle.rules.specs.State.{at}
use Rattle.rules.specs.Calls.{written}

-- the waiting entries of d, where it died
abbrev pub put_off_at : List ℕ → List ℕ → Option ℕ → ℕ → Bool
put_off_at kind destination None e = false
put_off_at kind destination (Some d) e = eqb (at kind e) 1 && eqb (at destination e) d

-- the kind of an entry after the put-off
abbrev pub kept_at : List ℕ → List ℕ → Option ℕ → ℕ → ℕ
kept_at kind destination dead e = when put_off_at kind destination dead e then 0 else at kind e

-- what a job has dropped, the put-off among the first n entries counted in
abbrev pub dropped_at : List ℕ → List ℕ → List ℕ → List ℕ → Option ℕ → ℕ → ℕ → ℕ
dropped_at kind job destination dropped dead n j =
    at dropped j + count_to (λ e. put_off_at kind destination dead e && eqb (at job e) j) n

-- What `put_off` needs: the columns' lengths, which are in their types, and of each waiting entry that its job is one and has dropped no more
-- than a job has entries.
pub record CanPutOff (kind job dropped list : List ℕ) : Type 0 where
  pub entries : length kind ≡ max_entries
  pub jobs : length dropped ≡ max_jobs
  pub places : max_entries ≤ length list
  pub theirs : (e : ℕ) → e < max_entries → at kind e ≡ 1 → at job e < max_jobs
  pub few : (e : ℕ) → e < max_entries → at kind e ≡ 1 → at dropped (at job e) ≤ max_length

-- What it does: kinds, dropped counts, the list, and the number put off.
pub record PutOff (dead : Option ℕ) (kind job destination dropped list : List ℕ) (kind' dropped' list' : List ℕ) (n : ℕ) : Type 0 where
  pub kinds : kind' ≡ table_to (kept_at kind destination dead) max_entries
  pub counts : dropped' ≡ table_to (dropped_at kind job destination dropped dead max_entries) max_jobs
  pub listed : list' ≡ written (chosen_to (put_off_at kind destination dead) max_entries) list
  pub number : n ≡ length (chosen_to (put_off_at kind destination dead) max_entries)

-- `report_refusal` once the clock is good, over the columns that it reads: 9 where the entry is not busy with this ticket, 10 where the list is too short.
unfoldable pub entry_refusal : List ℕ → List ℕ → ℕ → ℕ → ℕ → ℕ
entry_refusal kind tickets e ticket places =
    when not (ltb e max_entries && eqb (at kind e) 2 && eqb (at tickets e) ticket) then 9
    else when ltb places max_entries then 10
    else 0
