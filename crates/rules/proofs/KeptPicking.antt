-- A pick keeps shape and soundness.
use Prim.Native.Nat.{ℕ, zero, suc}
use mathlib.Core.Bool.{true}
use mathlib.Core.Path.{◌≡◌, refl, ◌∙◌}
use Rattle.rules.specs.declared.State.{State}
use Rattle.rules.specs.State.{at, is_present, waiting_of}
use Rattle.rules.specs.SoundFacts.{Sound}
use Rattle.rules.specs.Picking.{has_eligible, finds, next_transport, current_job, next_place, next_entry}
use Rattle.rules.specs.Preemption.{preemptor_of, preempting}
use Rattle.rules.specs.Pick.{Picked, handed_out, pick_from, pick_with, pick_on, picking}
use Rattle.rules.proofs.Shape.{Shaped}
use Rattle.rules.proofs.HandedOut.{CanHandOut}
use Rattle.rules.proofs.KeptHandedOut.{kept_handed_out}
use Rattle.rules.proofs.Picked.{TransportFound, transport_found, Current, current_found, next_found}
use Rattle.rules.proofs.Preemptor.{Preempts, preemptor_found}
use Rattle.rules.proofs.KeptPreempting.{kept_preempting}
use Rattle.rules.proofs.Preempted.{preempting_eligible, preempting_present, preempting_transport}

-- a job's next entry can be handed out
pub next_can : (w : State) (t j : ℕ) → Shaped w → Sound w → is_present w j ≡ true → at w.jobs.transport j ≡ t → has_eligible w j ≡ true → CanHandOut w t j (next_place w j) (next_entry w j)
next_can w t j shape h p on e =
    let k = next_found w j shape h p e in
    record { below = k.below; waits = k.waits; job = k.job; ordered = k.place; transport = k.transport ∙ on }

pub kept_pick_from : (w : State) (t j : ℕ) → Shaped w → Sound w → is_present w j ≡ true → at w.jobs.transport j ≡ t → has_eligible w j ≡ true
    → Shaped (handed_out w t j (next_place w j) (next_entry w j)) × Sound (handed_out w t j (next_place w j) (next_entry w j))
kept_pick_from w t j shape h p on e = kept_handed_out w t j (next_place w j) (next_entry w j) shape h (next_can w t j shape h p on e)

-- What a pick comes to: it is from the current job y, or from the one that preempts it.

module _ {ℓ} (P : Picked → Type ℓ) (w : State) (now : ℕ) (shape : Shaped w) (h : Sound w) (f : finds w ≡ true) where
  with_link : (t y : ℕ) → TransportFound w t → Current w t y
      → (preemptor_of w now t y ≡ 0 → P (pick_with w t y 0))
      → ((x : ℕ) → preemptor_of w now t y ≡ suc x → Preempts w now t y x → P (pick_with w t y (suc x)))
      → (link : ℕ) → preemptor_of w now t y ≡ link → P (pick_with w t y link)
  with_link t y k cur plain pre zero e = plain e
  with_link t y k cur plain pre (suc x) e = pre x e (preemptor_found w now t y x shape h k.below cur e)

  pub picking_cases :
      ((t y : ℕ) → t ≡ next_transport w → y ≡ current_job w t → TransportFound w t → Current w t y → preemptor_of w now t y ≡ 0 → P (pick_with w t y 0))
      → ((t y x : ℕ) → t ≡ next_transport w → y ≡ current_job w t → TransportFound w t → Current w t y → preemptor_of w now t y ≡ suc x → Preempts w now t y x
      → P (pick_with w t y (suc x)))
      → P (picking w now)
  unfolding picking pick_on
  picking_cases plain pre =
      let t = next_transport w in
      let y = current_job w t in
      let k = transport_found w f in
      let cur = current_found w t shape h k in
      with_link t y k cur (plain t y refl refl k cur) (λ x. pre t y x refl refl k cur) (preemptor_of w now t y) refl

pub kept_picking : (w : State) (now : ℕ) → Shaped w → Sound w → finds w ≡ true → Shaped (picking w now).state × Sound (picking w now).state
unfolding pick_with pick_from
kept_picking w now shape h f =
    picking_cases (λ r. Shaped r.state × Sound r.state) w now shape h f
    (λ t y et ey k cur e. kept_pick_from w t y shape h cur.present cur.transport cur.eligible)
    (λ t y x et ey k cur e p.
    let m = waiting_of w x in
    let r = kept_preempting w now t y x shape h k.below cur p in
    kept_pick_from (preempting w t x y m) t x r.0 r.1
    (preempting_present w t x y m x ∙ p.present) (preempting_transport w t x y m x ∙ p.transport) (preempting_eligible w t x y m x ∙ p.eligible))
