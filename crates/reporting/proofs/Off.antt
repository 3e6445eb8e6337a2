-- What a report puts off, by whether its destination died.
use Prim.Native.Nat.{ℕ, ◌+◌}
use mathlib.Core.Path.{◌≡◌}
use mathlib.Core.Bool.{Bool, true, false, ◌&&◌}
use mathlib.Core.List.{List}
use Rattle.std.specs.Bool.{then_some}
use lib.ListN.{length}
use lib.Dec.{eqb}
use Rattle.laws.specs.Bools.{when◌then◌else◌}
use Rattle.laws.specs.Range.{count_to, chosen_to, table_to}
use Rattle.rules.specs.Sizes.{max_jobs, max_entries}
use Rattle.rules.specs.State.{at}
use Rattle.rules.specs.Calls.{written}
use Rattle.settling.specs.Settling.{PutOff}

-- the waiting entries of d, where it died
abbrev pub off_at : List ℕ → List ℕ → Bool → ℕ → ℕ → Bool
off_at kind destination died d e = died && eqb (at kind e) 1 && eqb (at destination e) d

-- what `PutOff` says, of d where it died
pub record Off (died : Bool) (d : ℕ) (kind job destination dropped list : List ℕ) (kind' dropped' list' : List ℕ) (n : ℕ) : Type 0 where
  pub kinds : kind' ≡ table_to (λ e. when off_at kind destination died d e then 0 else at kind e) max_entries
  pub counts : dropped' ≡ table_to (λ j. at dropped j + count_to (λ e. off_at kind destination died d e && eqb (at job e) j) max_entries) max_jobs
  pub listed : list' ≡ written (chosen_to (off_at kind destination died d) max_entries) list
  pub number : n ≡ length (chosen_to (off_at kind destination died d) max_entries)

pub off_of : (died : Bool) (d : ℕ) (kind job destination dropped list kind' dropped' list' : List ℕ) (n : ℕ)
    → PutOff (then_some died d) kind job destination dropped list kind' dropped' list' n
    → Off died d kind job destination dropped list kind' dropped' list' n
off_of true d kind job destination dropped list kind' dropped' list' n p = record { kinds = p.kinds; counts = p.counts; listed = p.listed; number = p.number }
off_of false d kind job destination dropped list kind' dropped' list' n p = record { kinds = p.kinds; counts = p.counts; listed = p.listed; number = p.number }
