-- A pick with a good clock.
use Rattle.std.proofs.Common.{◌≡◌, ℕ, true, false, refl}
use Rattle.laws.specs.Bools.{when◌then◌else◌}
use Rattle.rules.specs.declared.State.{State}
use Rattle.rules.specs.Sound.{sound}
use Rattle.rules.specs.Refusals.{bad_clock, pick_refusal}

module _ (s : State) (now : ℕ) where
  pub pick_unrefused : sound s ≡ true → bad_clock s now ≡ false → pick_refusal s now ≡ 0
  unfolding pick_refusal when◌then◌else◌
  pick_unrefused h b = rw (h, b) refl
