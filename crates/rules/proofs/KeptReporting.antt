-- A report keeps shape and soundness.
use Prim.Native.Nat.{ℕ, ◌<◌}
use mathlib.Core.Path.{◌≡◌, refl, ap}
use mathlib.Core.Logic.{◌⊎◌, inl, inr, ⊎_elim}
use mathlib.Core.Bool.{Bool, true}
use native.Mathlib.Omega.{arith}
use Rattle.rules.specs.declared.Settings.{Settings}
use Rattle.rules.specs.declared.Sums.{Sums}
use Rattle.rules.specs.declared.Health.{Health}
use Rattle.rules.specs.declared.Health.TheVariants.{Live, Dead}
use Rattle.rules.specs.declared.Outcome.{Outcome}
use Rattle.rules.specs.declared.Outcome.TheVariants.{Success, Failure}
use Rattle.rules.specs.declared.StepAnswer.{StepAnswer}
use Rattle.rules.specs.declared.State.{State}
use Rattle.rules.specs.Sizes.{max_entries}
use Rattle.rules.specs.State.{at, health_of, settings_for, transport_of, is_busy, destination_of}
use Rattle.rules.specs.Setup.{settings_in_range}
use Rattle.rules.specs.SoundFacts.{LiveSound, Sound}
use Rattle.rules.specs.Windows.{after_success, after_failure, after_report, live_moved, moved}
use Rattle.rules.specs.Reporting.{reported_step, is_death, settled, reported_at, reporting}
use Rattle.rules.proofs.Shape.{Shaped}
use Rattle.rules.proofs.WindowLaws.{live_report}
use Rattle.rules.proofs.Settled.{freed}
use Rattle.rules.proofs.SettledCounts.{reported_entry, reported_transport}
use Rattle.rules.proofs.KeptSettling.{Stepped, shaped_settled, sound_settled}
use Rattle.rules.proofs.KeptDeparting.{shaped_departed, sound_departed}

-- The destination's step.

success_lives : (g : Settings) (busy : ℕ) (h : Health) (end : ℕ) → after_success g busy h ≡ Dead end → ⊥
unfolding after_success
success_lives g busy (Live u) end e = let z : ◌≡◌ {A = ℕ} 0 1 = cc in omega arith
success_lives g busy (Dead x) end e = let z : ◌≡◌ {A = ℕ} 0 1 = cc in omega arith

failure_dies : (g : Settings) (now : ℕ) (h : Health) (end : ℕ) → after_failure g now h ≡ Dead end
    → (is_death (moved Failure h (after_failure g now h)) ≡ true) ⊎ ((x : ℕ) × (h ≡ Dead x))
unfolding after_failure moved live_moved is_death
failure_dies g now (Live u) end e = inl (ap (λ x. is_death (live_moved u.window x)) e)
failure_dies g now (Dead x) end e = inr (x, refl)

module _ (w : State) (now d : ℕ) (sound : Sound w) (inside : d < w.setup.destinations) where
  range : settings_in_range (settings_for w d) ≡ true
  range = sound.setup.settings (transport_of w d) (sound.setup.home d inside)

  lives : (outcome : Outcome) (u : Sums) → (reported_step w now d outcome).health ≡ Live u → LiveSound (settings_for w d) u
  lives outcome u = live_report (settings_for w d) (at w.busy.destination d) now outcome (health_of w d) u range (sound.destinations d inside).live

  pub stepped_of : (outcome : Outcome) → Stepped w d (reported_step w now d outcome).health (is_death (reported_step w now d outcome).moved)
  unfolding after_report
  stepped_of Success =
      record {
        live = lives Success;
        dead = λ end e. absurd (success_lives (settings_for w d) (at w.busy.destination d) (health_of w d) end e);
      }
  stepped_of Failure =
      record {
        live = lives Failure;
        dead =
            λ end e. ⊎_elim inl (λ r. inr ((sound.destinations d inside).dead r.0 r.1)) (failure_dies (settings_for w d) now (health_of w d) end e);
      }

module _ (w : State) (e : ℕ) (step : StepAnswer) (shaped : Shaped w) (sound : Sound w) (inside : e < max_entries) (busy : is_busy w e ≡ true) where
  abbrev health : Health
  health = step.health

  abbrev died : Bool
  died = is_death step.moved

  home : transport_of w (destination_of w e) < (freed w e health died).setup.transports
  unfolding settled
  home = reported_transport w e health died shaped sound inside busy

  pub kept_reported_at : Stepped w (destination_of w e) health died → Shaped (reported_at w e (destination_of w e) step).state × Sound (reported_at w e (destination_of w e) step).state
  unfolding reported_at
  kept_reported_at fits =
      let a = sound_settled w e health died shaped sound inside busy fits in
      let s = shaped_settled w e health died shaped sound inside busy in
      (shaped_departed (freed w e health died) (transport_of w (destination_of w e)) s a home, sound_departed (freed w e health died) (transport_of w (destination_of w e)) s a home)

pub kept_reporting : (w : State) (now e : ℕ) (outcome : Outcome) → Shaped w → Sound w → e < max_entries → is_busy w e ≡ true
    → Shaped (reporting w now e (destination_of w e) outcome).state × Sound (reporting w now e (destination_of w e) outcome).state
unfolding reporting
kept_reporting w now e outcome shaped sound inside busy =
    let d = destination_of w e in
    let step = reported_step w now d outcome in
    kept_reported_at w e step shaped sound inside busy
    (stepped_of w now d sound (reported_entry w e step.health (is_death step.moved) shaped sound inside busy).destination outcome)
