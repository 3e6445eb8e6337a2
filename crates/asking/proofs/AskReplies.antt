-- The ways that asking about a job can end: what the code gives there is the rules' reply.
use Prim.Native.Nat.{ℕ}
use mathlib.Core.Path.{◌≡◌, refl}
use mathlib.Core.Bool.{true, false}
use mathlib.Core.List.{[], ◌∷◌}
use Rattle.laws.specs.Bools.{when◌then◌else◌}
use Rattle.rules.specs.declared.State.{State}
use Rattle.rules.specs.State.{at, is_present}
use Rattle.rules.specs.Sound.{sound}
use Rattle.rules.specs.Refusals.{ask_refusal}
use Rattle.rules.specs.Calls.{refused, granted, unless_refused, reply_to, ask_reply}

module _ (s : State) (j : ℕ) where
  pub ask_absent : sound s ≡ true → is_present s j ≡ false → record { says = refused 11; state = s; buffer = [] } ≡ ask_reply s j
  unfolding reply_to ask_refusal unless_refused when◌then◌else◌
  ask_absent h p = rw (h, p) refl

  pub ask_answered : (sum : ℕ) → sound s ≡ true → is_present s j ≡ true → sum ≡ at s.jobs.overtakers j
      → record { says = granted (sum ∷ []); state = s; buffer = [] } ≡ ask_reply s j
  unfolding reply_to ask_refusal unless_refused when◌then◌else◌
  ask_answered sum h p e = rw (h, p, e) refl
