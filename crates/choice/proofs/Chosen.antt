-- What a sound state has ready for the leaf functions, and their answers put together.
use Prim.Native.Nat.{ℕ, zero, suc, ◌*◌, ◌≤◌, ◌<◌}
use mathlib.Core.Bool.{true, false}
use mathlib.Core.Path.{◌≡◌, refl, sym, ◌∙◌, ap, subst}
use native.Mathlib.Omega.{arith}
use Rattle.laws.proofs.Bools.{if_true, if_false}
use Rattle.rules.specs.declared.State.{State}
use Rattle.rules.specs.SoundFacts.{Sound}
use Rattle.rules.specs.State.{at, settings_of, is_present}
use Rattle.rules.specs.Picking.{finds, has_eligible, next_transport, current_job, passed_over, next_place, next_entry}
use Rattle.rules.specs.Preemption.{preemptor_of}
use Rattle.rules.proofs.Shape.{Shaped}
use Rattle.rules.proofs.Picked.{Current}
use Rattle.rules.proofs.Preemptor.{preemptor_found}
use Rattle.choice.specs.declared.Choice.{Choice}
use Rattle.std.specs.Prelude.{Some, None}
use Rattle.preemption.specs.Preempting.{preemptor_at}
use Rattle.choice.specs.Choosing.{picked_from, chosen, chosen_with, chosen_on, choice_of}

module _ (w : State) (shape : Shaped w) (h : Sound w) where
  pub sold_read : (t y : ℕ) → Current w t y → (settings_of w t).cost * at w.jobs.sold y ≤ 256
  sold_read t y r =
      let s = h.jobs y r.below r.present in
      omega (arith, ap (λ x. (settings_of w x).cost * at w.jobs.sold y) r.transport, s.sold, s.n.1)

  -- the job picked from
  pub job_read : (now t y link j : ℕ) → t < w.setup.transports → Current w t y → link ≡ preemptor_of w now t y → j ≡ picked_from y (preemptor_at w link)
      → (j < 32) × (is_present w j ≡ true) × (has_eligible w j ≡ true)
  unfolding picked_from preemptor_at
  job_read now t y zero j l r p e = subst (λ x. (x < 32) × (is_present w x ≡ true) × (has_eligible w x ≡ true)) (sym e) (r.below, r.present, r.eligible)
  job_read now t y (suc x) j l r p e =
      let f = preemptor_found w now t y x shape h l r (sym p) in
      subst (λ z. (z < 32) × (is_present w z ≡ true) × (has_eligible w z ≡ true)) (sym e) (f.below, f.present, f.eligible)

-- the answers

pub nothing_chosen : (w : State) (now : ℕ) → finds w ≡ false → None ≡ choice_of w now
unfolding choice_of
nothing_chosen w now f = sym (if_false (Some (chosen_on w now (next_transport w) (current_job w (next_transport w)))) None f)

pub all_chosen : (w : State) (now : ℕ) (c : Choice) → finds w ≡ true → c.transport ≡ next_transport w → c.current ≡ current_job w c.transport → c.passed ≡ passed_over w c.transport c.current
    → c.preemptor ≡ preemptor_at w (preemptor_of w now c.transport c.current) → c.job ≡ picked_from c.current c.preemptor → c.place ≡ next_place w c.job → c.entry ≡ next_entry w c.job
    → Some c ≡ choice_of w now
unfolding choice_of
all_chosen w now c f et ey ep el ej ek ee =
    ap (λ c. Some c)
    (parts
    ∙ ap (chosen w c.transport c.current c.preemptor) ej
    ∙ ap (chosen_with w c.transport c.current) el
    ∙ ap (chosen_on w now c.transport) ey
    ∙ ap (λ x. chosen_on w now x (current_job w x)) et)
    ∙ sym (if_true (Some (chosen_on w now (next_transport w) (current_job w (next_transport w)))) None f)
  where
    parts : c ≡ chosen w c.transport c.current c.preemptor c.job
    parts = rw (← ep, ← ek, ← ee) refl
