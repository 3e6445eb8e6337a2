-- A name makes no call.
use Prim.Native.Nat.{ℕ}
use mathlib.Core.Path.{◌≡◌, refl, ap}
use mathlib.Core.List.{List, [], ◌∷◌, ◌++◌}
use Rattle.rules.specs.History.{state_from}
use Rattle.journal.specs.Records.{Event, name}
use Rattle.journal.specs.Replays.{call_of, calls_of, NamesLeave}

passed : (before after : List Event) (d : ℕ) (word : List ℕ) → calls_of (before ++ (name d word ∷ after)) ≡ calls_of (before ++ after)
unfolding call_of calls_of
passed [] after d word = refl
passed (e ∷ before) after d word = ap (λ l. call_of e ++ l) (passed before after d word)

pub names_leave : NamesLeave
unfolding state_from call_of
names_leave = record { state = λ s d word. refl; calls = passed }
