-- Demand 3 of every transcript.
use mathlib.Core.Path.{◌≡◌, refl, sym, ◌∙◌, ap, ap₂, subst}
use mathlib.Core.Bool.{true}
use mathlib.Core.List.{List, [], ◌∷◌, map}
use Rattle.rules.specs.declared.Setup.{Setup}
use Rattle.rules.specs.declared.State.{State}
use Rattle.rules.specs.declared.HandedBack.{HandedBack}
use Rattle.rules.specs.Setup.{setup_in_range, fresh_state}
use Rattle.rules.specs.Calls.{reply_to}
use Rattle.rules.specs.History.{replies_from}
use Rattle.rules.proofs.Replies.{start_is}
use Rattle.rules.proofs.Demand3.{demand3, companions}
use Rattle.scheduler.specs.Transcript.{Step, Follows, Transcript, calls_of, Holds}

replies_are : (s : State) (steps : List Step) → Follows s steps → map (λ x. x.gave) steps ≡ replies_from s (calls_of steps)
unfolding replies_from
replies_are s [] h = refl
replies_are s (x ∷ xs) (handed, kept, rest) =
    let given : x.gave ≡ reply_to s x.call = kept ∙ ap (λ z. reply_to z x.call) handed in
    ap₂ ◌∷◌ given (replies_are x.gave.state xs rest ∙ ap (λ r. replies_from r.state (calls_of xs)) given)

pub transcript_holds : (u : Setup) (start : HandedBack (Unit {0})) (steps : List Step) → Transcript u start steps → Holds u steps
transcript_holds u start steps t =
    let inside : setup_in_range u ≡ true = sym t.begins.1 ∙ t.accepted in
    let first : start.state ≡ fresh_state u = ap (λ r. r.state) t.begins.0 ∙ start_is u inside in
    record {
      replies = replies_are (fresh_state u) steps (subst (λ s. Follows s steps) first t.follows);
      demand3 = demand3 u inside (calls_of steps);
      companions = companions u inside (calls_of steps);
    }
