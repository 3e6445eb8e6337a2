-- Calls one after another: more calls at the end, and one call more.
use Prim.Native.Nat.{ℕ}
use mathlib.Core.Path.{◌≡◌, refl, sym, ◌∙◌, ap}
use mathlib.Core.List.{List, [], ◌∷◌, ◌++◌, append_assoc, append-nil}
use Rattle.rules.specs.declared.State.{State}
use Rattle.rules.specs.Calls.{Reply, Call, reply_to}
use Rattle.rules.specs.History.{state_from, gathered}

pub state_append : (s : State) (done more : List Call) → state_from s (done ++ more) ≡ state_from (state_from s done) more
unfolding state_from
state_append s [] more = refl
state_append s (call ∷ done) more = state_append (reply_to s call).state done more

pub gathered_append : (f : Call → Reply → List ℕ) (s : State) (done more : List Call) → gathered f s (done ++ more) ≡ gathered f s done ++ gathered f (state_from s done) more
unfolding gathered state_from
gathered_append f s [] more = refl
gathered_append f s (call ∷ done) more =
    ap (λ l. f call (reply_to s call) ++ l) (gathered_append f (reply_to s call).state done more) ∙ sym (append_assoc (f call (reply_to s call)) _ _)

pub state_more : (s : State) (done : List Call) (call : Call) → state_from s (done ++ (call ∷ [])) ≡ (reply_to (state_from s done) call).state
unfolding state_from
state_more s done call = state_append s done (call ∷ [])

pub gathered_more :
    (f : Call → Reply → List ℕ) (s : State) (done : List Call) (call : Call)
    → gathered f s (done ++ (call ∷ []))
    ≡ gathered f s done ++ f call (reply_to (state_from s done) call)
unfolding gathered
gathered_more f s done call = gathered_append f s done (call ∷ []) ∙ ap (λ l. gathered f s done ++ l) (append-nil _)
