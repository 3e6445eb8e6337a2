-- Demand 3: small mail may overtake, at a price with a ceiling. One claim about a whole list of calls from an accepted set-up.
use Rattle.std.specs.Prelude.{ℕ, ◌+◌, ◌-◌, ◌/◌, ◌≤◌, ◌<◌, ◌≡◌, true, List, [], ◌∷◌, ◌++◌, length, get_or}
use Rattle.laws.specs.Range.{any_to}
use Rattle.rules.specs.declared.Setup.{Setup}
use Rattle.rules.specs.Sizes.{max_entries}
use Rattle.rules.specs.State.{at, is_present, zero_settings}
use Rattle.rules.specs.Setup.{setup_in_range}
use Rattle.rules.specs.Sound.{sound}
use Rattle.rules.specs.Windows.{woken}
use Rattle.rules.specs.Picking.{eligible, finds}
use Rattle.rules.specs.Refusals.{pick_refusal}
use Rattle.rules.specs.Calls.{Call, granted, reply_to}
use Rattle.rules.specs.Tally.{Row, row_at, row_of, linked_row, sum_on}
use Rattle.rules.specs.History.{state_after, tally_of}
use Rattle.rules.specs.Ledger.{account_at, accounts_of, still_waiting}

-- the slot cost of a row's transport
abbrev pub cost_for : Setup → Row → ℕ
cost_for u r = (get_or u.settings r.transport zero_settings).cost

-- what holds of one row; its P is the number of picks that had gone past it at its last one (A13)
pub record Ceilings (c : ℕ) (r : Row) : Type 0 where
  -- with c of 2 or more, the overtakers are at most n/(c-1) rounded down
  pub overtakers : 2 ≤ c → r.overtakers ≤ r.n / (c - 1)
  -- with c = 0 nobody overtakes
  pub nobody : c ≡ 0 → r.overtakers ≡ 0
  -- "its last pick comes no later than N + N/(c-1) rounded down + P"; "With c = 0 the middle term is 0" (A13)
  pub lastpick : 2 ≤ c → r.lastpick ≤ r.upto + r.upto / (c - 1) + r.lastpast
  pub lastpickoff : c ≡ 0 → r.lastpick ≤ r.upto + r.lastpast
  -- P is no more than the jobs passed over by then: 0 where nobody was
  pub past : r.lastpast ≤ r.lasttotal

-- "The old statement follows, its P being 0" (A13): what document 01 says of a last pick up to which nobody was passed over
pub record NobodyPassed (c : ℕ) (r : Row) : Type 0 where
  pub past : r.lastpast ≡ 0
  pub lastpick : 2 ≤ c → r.lastpick ≤ r.upto + r.upto / (c - 1)
  pub lastpickoff : c ≡ 0 → r.lastpick ≤ r.upto

abbrev pub OldFollows : Type 0
OldFollows = (c : ℕ) (r : Row) → Ceilings c r → r.lasttotal ≡ 0 → NobodyPassed c r

pub record Demand3 (u : Setup) (calls : List Call) : Type 0 where
  -- every row of the tally, of jobs that left too
  pub ceilings : (i : ℕ) → i < length (tally_of u calls).rows → Ceilings (cost_for u (row_at (tally_of u calls).rows i)) (row_at (tally_of u calls).rows i)
  -- beside A13's claim, what its rows count, in sum: over a transport's rows, the picks that went past them add up to the jobs passed over on it
  pub counted : (t : ℕ) → sum_on t (λ r. r.past) (tally_of u calls).rows ≡ (tally_of u calls).total t
  -- after every prefix a present job has a row, and asking about it is accepted and answers that row's overtakers
  pub asking :
      (before after : List Call)
      → calls ≡ before ++ after
      → (j : ℕ)
      → is_present (state_after u before) j ≡ true
      → (1 ≤ row_of (tally_of u before).rows j)
      × ((reply_to (state_after u before) (Call.ask j)).says
      ≡ granted ((linked_row (tally_of u before).rows (row_of (tally_of u before).rows j)).overtakers ∷ []))

-- beside it, of the same runs
pub record Companions (u : Setup) (calls : List Call) : Type 0 where
  -- every state reached is sound
  pub reached : sound (state_after u calls) ≡ true
  -- so no call is refused with 1
  pub never1 : (call : Call) → (reply_to (state_after u calls) call).says.refusal ≡ 1 → ⊥
  -- an accepted pick finds something exactly when some entry is eligible
  pub finds_eligible : (now : ℕ) → pick_refusal (state_after u calls) now ≡ 0 → finds (woken (state_after u calls) now) ≡ any_to (eligible (woken (state_after u calls) now)) max_entries
  -- entries taken to wait = picked + put off later + still waiting, for each job ever taken
  pub nothing_lost :
      (i : ℕ)
      → i < length (accounts_of u calls)
      → (account_at (accounts_of u calls) i).taken
      ≡ (account_at (accounts_of u calls) i).picked + (account_at (accounts_of u calls) i).putoff + still_waiting (state_after u calls) (accounts_of u calls) i
  -- the stop at 65,535 never bites: sums stay at most n, that is at most 256
  pub sums_small : (j : ℕ) → is_present (state_after u calls) j ≡ true → at (state_after u calls).jobs.overtakers j ≤ 256

-- what is claimed, for every accepted set-up and every list of calls
abbrev pub Demand3Holds : Type 0
Demand3Holds = (u : Setup) (calls : List Call) → setup_in_range u ≡ true → Demand3 u calls × Companions u calls
