-- What the case of a pick's answer tells, where the pick says what the rules say.
use Prim.Native.Nat.{ℕ}
use mathlib.Core.Path.{◌≡◌, refl, sym, ◌∙◌, ap}
use mathlib.Core.Bool.{Bool, true, false}
use native.Mathlib.Omega.{arith}
use lib.ListN.{length}
use Rattle.laws.specs.Bools.{when◌then◌else◌}
use Rattle.laws.specs.Range.{any_to}
use Rattle.rules.specs.declared.State.{State}
use Rattle.std.specs.Prelude.{Option, Some, None, Result, Ok, Err}
use Rattle.rules.specs.declared.Refusal.{Refusal}
use Rattle.rules.specs.declared.PickAnswer.{PickAnswer}
use Rattle.rules.specs.Sizes.{max_entries}
use Rattle.rules.specs.Windows.{woken}
use Rattle.rules.specs.Picking.{eligible, finds}
use Rattle.rules.specs.Refusals.{pick_refusal}
use Rattle.rules.specs.Calls.{Call, unless_refused, picking_reply, after_pick, reply_to, pick_reply}
use Rattle.rules.specs.Answers.{pick_says}
use Rattle.rules.specs.Gave.{FindsExactly}
use Rattle.rules.proofs.Shape.{Shaped}
use Rattle.rules.proofs.Soundness.{sound_facts}
use Rattle.rules.proofs.KeptWaking.{kept_woken}
use Rattle.rules.proofs.Picked.{finds_some}
use Rattle.rules.proofs.Accepted.{pick_accepted}
use Rattle.rules.proofs.Refused.{refusal_answered}

module _ (s : State) (now : ℕ) (shape : Shaped s) where
  by_case : (b : Bool) → finds (woken s now) ≡ b → length (after_pick (woken s now) now).says.values ≡ (when finds (woken s now) then 4 else 1)
  unfolding after_pick picking_reply when◌then◌else◌
  by_case true h = rw h refl
  by_case false h = rw h refl

  -- an accepted pick of a sound state has four values where an entry is eligible, one where none is
  values : pick_refusal s now ≡ 0 → length (pick_reply s now).says.values ≡ (when any_to (eligible (woken s now)) max_entries then 4 else 1)
  unfolding reply_to unless_refused
  values e =
      let a = pick_accepted s now e in
      let kept = kept_woken s now shape (sound_facts s a.whole) a.clock.later in
      rw (e, sym (finds_some (woken s now) kept.1)) (by_case (finds (woken s now)) refl)

  four : (b : Bool) → ◌≡◌ {A = ℕ} 4 (when b then 4 else 1) → b ≡ true
  unfolding when◌then◌else◌
  four true h = refl
  four false h = absurd (omega (arith, h))

  one : (b : Bool) → ◌≡◌ {A = ℕ} 1 (when b then 4 else 1) → b ≡ false
  unfolding when◌then◌else◌
  one true h = absurd (omega (arith, h))
  one false h = refl

  some : (b : Bool) → ◌≡◌ {A = ℕ} 0 (when b then 4 else 1) → ⊥
  unfolding when◌then◌else◌
  some true h = omega (arith, h)
  some false h = omega (arith, h)

  pub finds_exactly : (a : Result (Option PickAnswer) Refusal) → pick_says a ≡ (pick_reply s now).says → FindsExactly s now a
  finds_exactly (Err k) h = λ e. some _ (ap (λ x. length x.values) h ∙ values e)
  finds_exactly (Ok (Some a)) h =
      let accepted = sym (ap (λ x. x.refusal) h ∙ refusal_answered s (Call.pick now)) in
      (accepted, four _ (ap (λ x. length x.values) h ∙ values accepted))
  finds_exactly (Ok None) h =
      let accepted = sym (ap (λ x. x.refusal) h ∙ refusal_answered s (Call.pick now)) in
      (accepted, one _ (ap (λ x. length x.values) h ∙ values accepted))
