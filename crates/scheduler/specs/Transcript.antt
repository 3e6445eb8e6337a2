-- What was seen of a run of the program: the set-up, then each call with the state that it was handed and what it gave back.
use Rattle.std.specs.Prelude.{◌≡◌, true, List, [], ◌∷◌, map}
use Rattle.rules.specs.declared.Setup.{Setup}
use Rattle.rules.specs.declared.State.{State}
use Rattle.rules.specs.declared.HandedBack.{HandedBack}
use Rattle.rules.specs.Setup.{fresh_state}
use Rattle.rules.specs.Calls.{Reply, Call, reply_to}
use Rattle.rules.specs.History.{replies_from}
use Rattle.rules.specs.Demand3.{Demand3, Companions}
use Rattle.rules.specs.Gave.{SetupKept, accepts}

-- one call: its arguments, the state that it was handed, and what it gave back
pub record Step : Type 0 where
  pub call : Call
  pub handed : State
  pub gave : Reply

-- what the contract of the function called says of what it gave
abbrev pub Kept : Call → State → Reply → Type 0
Kept call s g = g ≡ reply_to s call

-- the first call is handed this state, each later one the state as the call before left it
abbrev pub Follows : State → List Step → Type 0
Follows s [] = Unit {0}
Follows s (x ∷ xs) = (x.handed ≡ s) × Kept x.call x.handed x.gave × Follows x.gave.state xs

pub record Transcript (u : Setup) (start : HandedBack (Unit {0})) (steps : List Step) : Type 0 where
  -- what the contract of set-up says, and that its answer was an acceptance
  pub begins : SetupKept u start
  pub accepted : accepts start.answer ≡ true
  pub follows : Follows start.state steps

abbrev pub calls_of : List Step → List Call
calls_of = map (λ x. x.call)

-- demand 3, said of the program: of every transcript
pub record Holds (u : Setup) (steps : List Step) : Type 0 where
  -- every answer, and every lent buffer after its call, is what the rules give for the same set-up and calls
  pub replies : map (λ x. x.gave) steps ≡ replies_from (fresh_state u) (calls_of steps)
  pub demand3 : Demand3 u (calls_of steps)
  pub companions : Companions u (calls_of steps)
