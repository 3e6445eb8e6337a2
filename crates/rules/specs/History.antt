-- A list of calls, run by the rules from the state of a set-up: "each later one the state as the call before left it".
use Rattle.std.specs.Prelude.{ℕ}
use mathlib.Core.List.{List, [], ◌∷◌, ◌++◌, foldl}
use Rattle.rules.specs.declared.Setup.{Setup}
use Rattle.rules.specs.declared.State.{State}
use Rattle.rules.specs.Setup.{fresh_state}
use Rattle.rules.specs.Calls.{Reply, Call, Decision, reply_to, decisions_on}
use Rattle.rules.specs.Tally.{Tally, no_tally, tallied}

-- the state after these calls
unfoldable pub state_from : State → List Call → State
state_from s [] = s
state_from s (call ∷ calls) = state_from (reply_to s call).state calls

unfoldable pub state_after : Setup → List Call → State
state_after u calls = state_from (fresh_state u) calls

-- what each call gives back
unfoldable pub replies_from : State → List Call → List Reply
replies_from s [] = []
replies_from s (call ∷ calls) = reply_to s call ∷ replies_from (reply_to s call).state calls

-- what each reply adds to a text or a list, one behind the other
unfoldable pub gathered : (Call → Reply → List ℕ) → State → List Call → List ℕ
gathered f s [] = []
gathered f s (call ∷ calls) = f call (reply_to s call) ++ gathered f (reply_to s call).state calls

-- what the rules decide, call by call
unfoldable pub decisions_from : State → List Call → List Decision
decisions_from s [] = []
decisions_from s (call ∷ calls) = decisions_on s call ++ decisions_from (reply_to s call).state calls

-- the tally of these calls
unfoldable pub tally_of : Setup → List Call → Tally
tally_of u calls = foldl tallied no_tally (decisions_from (fresh_state u) calls)
