-- The marked examples hold: the rules, computed, give what the paper says. The rows of windows are computed in rules/proofs/Edges.antt.
use mathlib.Core.Path.{◌≡◌, refl, ap₂}
use mathlib.Core.List.{[], ◌∷◌, ◌++◌}
use Rattle.rules.specs.Examples.{A, B, C, first_two, picked_at, W8, W11, W12, outcome8, outcome11, outcome12, Worked}
use Rattle.rules.proofs.Edges.{window_rows}
use Rattle.rules.proofs.Opened.{rules}

-- Two lemmas, with a part for each run: six runs in one are within the prover's limit of 50 million steps, all seven are not.

w8_to_w10 : (W8 ≡ outcome8) × (first_two 14 ≡ A ∷ A ∷ []) × (first_two 15 ≡ A ∷ B ∷ []) × (picked_at 13 ≡ B) × (picked_at 14 ≡ C)
unfolding rules
w8_to_w10 = (refl, refl, refl, refl, refl)

w11_and_w12 : (W11 ≡ outcome11) × (W12 ≡ outcome12)
unfolding rules
w11_and_w12 = (refl, refl)

pub worked : Worked
worked =
    let w9 = ap₂ ◌++◌ w8_to_w10.1 w8_to_w10.2 in
    let w10 = ap₂ ◌∷◌ w8_to_w10.3 (ap₂ ◌∷◌ w8_to_w10.4 refl) in
    let runs = ap₂ ◌∷◌ w8_to_w10.0 (ap₂ ◌∷◌ w9 (ap₂ ◌∷◌ w10 (ap₂ ◌∷◌ w11_and_w12.0 (ap₂ ◌∷◌ w11_and_w12.1 refl)))) in
    ap₂ ◌++◌ window_rows runs
