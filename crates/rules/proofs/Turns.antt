-- Laws of stepsTo: turns that go round.
use Prim.Native.Nat.{ℕ, ◌+◌, ◌-◌, ◌%◌, ◌≤◌, ◌<◌}
use mathlib.Core.Bool.{Bool, true}
use mathlib.Core.Path.{◌≡◌, ◌∙◌, ap}
use native.Mathlib.Nat.{mod-lt, mod-eq_of_lt, add-mod_left, lt_of_le_of_lt}
use native.Mathlib.Decide.{dec_lt}
use native.Mathlib.Omega.{arith}
use lib.Dec.{ltb}
use borrow.Author.Tests.{ltb-true, lt-ltb}
use Rattle.laws.specs.Range.{any_to}
use Rattle.laws.proofs.Bools.{bool_same}
use Rattle.laws.proofs.All.{any_of, any_witness}
use Rattle.laws.proofs.First.{first_holds, first_some}
use Rattle.rules.specs.Picking.{steps_to}

-- every place has its turn
turn_at : (n start k : ℕ) → start ≤ n → k < n → (i : ℕ) × (i < n) × ((start + i) % n ≡ k)
turn_at n start k h l = elim (dec_lt k start) [
  | yes b ↦ (
      let e : start + (n + k - start) ≡ n + k = omega arith in
      (n + k - start, omega arith, ap (λ x. x % n) e ∙ add-mod_left n k ∙ mod-eq_of_lt l))
  | no b ↦ (
      let e : start + (k - start) ≡ k = omega arith in
      (k - start, omega arith, ap (λ x. x % n) e ∙ mod-eq_of_lt l))
]

module _ (p : ℕ → Bool) (n start : ℕ) where
  pub steps_found : start ≤ n → (k : ℕ) → k < n → p k ≡ true → steps_to p n start < n
  unfolding steps_to
  steps_found h k l t =
      let w = turn_at n start k h l in
      lt_of_le_of_lt (first_some (λ i. p ((start + i) % n)) n w.0 (ap p w.2 ∙ t)) w.1

  pub steps_holds : steps_to p n start < n → p ((start + steps_to p n start) % n) ≡ true
  unfolding steps_to
  steps_holds l = first_holds (λ i. p ((start + i) % n)) n l

  pub steps_below : steps_to p n start < n → (start + steps_to p n start) % n < n
  steps_below l = mod-lt (start + steps_to p n start) (omega arith)

  pub steps_any : start ≤ n → ltb (steps_to p n start) n ≡ any_to p n
  steps_any h =
      bool_same
      (λ t. let l = ltb-true (steps_to p n start) n t in any_of p n ((start + steps_to p n start) % n) (steps_below l) (steps_holds l))
      (λ t. let w = any_witness p n t in lt-ltb (steps_to p n start) n (steps_found h w.0 w.1 w.2))
