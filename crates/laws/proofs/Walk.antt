-- A chain walked one element at a time, as code has it: the link is a number, and 1 or more leads to the element one below.
use Prim.Native.Nat.{ℕ, zero, suc, ◌-◌, ◌≤◌}
use mathlib.Core.Path.{◌≡◌, refl, sym, ◌∙◌, ap}
use mathlib.Core.Bool.{Bool, true, false}
use native.Mathlib.Omega.{arith}
use Rattle.laws.specs.Chain.{along_chain, ends_in, first_along}
use Rattle.laws.proofs.Chain.{ends_zero, along_suc, first_along_zero, first_along_here, first_along_next}

-- whether the chain ends

pub ends_stuck : (next : ℕ → ℕ) (n k p : ℕ) → n ≡ 0 → k ≡ suc p → ends_in next n k ≡ false
unfolding ends_in
ends_stuck next n k p e q = rw (e, q)

pub ends_turn : (next : ℕ → ℕ) (n k m p : ℕ) → n ≡ suc m → k ≡ suc p → ends_in next n k ≡ ends_in next m (next p)
unfolding ends_in
ends_turn next n k m p e q = rw (e, q)

pub ends_here : (next : ℕ → ℕ) (n k : ℕ) → k ≡ 0 → ends_in next n k ≡ true
ends_here next n k e = ap (ends_in next n) e ∙ ends_zero next n

-- a step at each element
pub along_step {ℓ} : {A : Type ℓ} (next : ℕ → ℕ) (step : ℕ → A → A) (n link : ℕ) (a : A) → 1 ≤ n → 1 ≤ link
    → along_chain next step n link a ≡ along_chain next step (n - 1) (next (link - 1)) (step (link - 1) a)
along_step next step zero link a p q = absurd (omega arith)
along_step next step (suc n) zero a p q = absurd (omega arith)
along_step next step (suc n) (suc x) a p q =
    let e : suc n - 1 ≡ n = omega arith in
    let f : suc x - 1 ≡ x = omega arith in
    rw (e, f) (along_suc next step n x a)

-- to the nearest that passes; x is the link as the code has it
module _ (p : ℕ → Bool) (next : ℕ → ℕ) where
  pub nearest_none : (n link : ℕ) → n ≤ 0 → first_along p next n link ≡ 0
  unfolding first_along
  nearest_none zero link h = refl
  nearest_none (suc n) link h = absurd (omega arith)

  pub nearest_end : (n link : ℕ) → link ≡ 0 → first_along p next n link ≡ 0
  nearest_end n link e = rw e (first_along_zero p next n)

  pub nearest_here : (n link x : ℕ) → 1 ≤ n → 1 ≤ link → x ≡ link → p (x - 1) ≡ true → first_along p next n link ≡ link
  nearest_here zero link x a b e t = absurd (omega arith)
  nearest_here (suc n) zero x a b e t = absurd (omega arith)
  nearest_here (suc n) (suc y) x a b e t =
      let f : x - 1 ≡ y = omega arith in
      first_along_here p next n y (rw f at t)

  pub nearest_on : (n link x : ℕ) → 1 ≤ n → 1 ≤ link → x ≡ link → p (x - 1) ≡ false → first_along p next (n - 1) (next (x - 1)) ≡ first_along p next n link
  nearest_on zero link x a b e t = absurd (omega arith)
  nearest_on (suc n) zero x a b e t = absurd (omega arith)
  nearest_on (suc n) (suc y) x a b e t =
      let f : x - 1 ≡ y = omega arith in
      let g : suc n - 1 ≡ n = omega arith in
      rw (g, f) (sym (first_along_next p next n y (rw f at t)))
