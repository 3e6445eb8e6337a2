-- "Also, from the history: entries taken to wait = picked + put off later + still waiting": a row for each job ever taken, fed decisions.
use Rattle.std.specs.Prelude.{ℕ, zero, suc, ◌+◌, ◌&&◌, get_or, set, eqb}
use mathlib.Core.List.{List, [], ◌∷◌, ◌++◌, foldl}
use Rattle.laws.specs.Bools.{when◌then◌else◌}
use Rattle.laws.specs.Newest.{newest}
use Rattle.rules.specs.declared.Setup.{Setup}
use Rattle.rules.specs.declared.State.{State}
use Rattle.rules.specs.State.{is_present, waiting_of}
use Rattle.rules.specs.Setup.{fresh_state}
use Rattle.rules.specs.Calls.{Call, Decision, took, picked, put_off}
use Rattle.rules.specs.History.{decisions_from}

pub record Account : Type 0 where
  pub job : ℕ
  -- the entries taken to wait, those picked since, those put off since
  pub taken : ℕ
  pub picked : ℕ
  pub putoff : ℕ

abbrev pub no_account : Account
no_account = record { job = 0; taken = 0; picked = 0; putoff = 0 }

abbrev pub account_at : List Account → ℕ → Account
account_at l i = get_or l i no_account

-- the link to the newest account with this job number
unfoldable pub account_of : List Account → ℕ → ℕ
account_of l j = newest (λ a. a.job) no_account l j

-- p more picked and q more put off at the account that the link leads to
unfoldable pub booked : ℕ → ℕ → ℕ → List Account → List Account
booked zero p q l = l
booked (suc i) p q l =
    set l i
    (record {
      job = (account_at l i).job;
      taken = (account_at l i).taken;
      picked = (account_at l i).picked + p;
      putoff = (account_at l i).putoff + q;
    })

unfoldable pub entered : List Account → Decision → List Account
entered l (took j t n) = l ++ (record { job = j; taken = n; picked = 0; putoff = 0 } ∷ [])
entered l (picked j passed past p) = booked (account_of l j) 1 0 l
entered l (put_off j) = booked (account_of l j) 0 1 l

-- the accounts after these calls
unfoldable pub accounts_of : Setup → List Call → List Account
accounts_of u calls = foldl entered [] (decisions_from (fresh_state u) calls)

-- what of account i still waits: of the newest account of a present job its waiting entries, else none
unfoldable pub still_waiting : State → List Account → ℕ → ℕ
still_waiting s l i =
    when is_present s (account_at l i).job && eqb (account_of l (account_at l i).job) (suc i)
    then waiting_of s (account_at l i).job
    else 0
