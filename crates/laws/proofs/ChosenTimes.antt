-- The chosen numbers' images, counted.
use Prim.Native.Nat.{ℕ, zero, suc}
use mathlib.Core.Bool.{Bool, false, ◌&&◌}
use mathlib.Core.Path.{◌≡◌, refl}
use mathlib.Core.List.{[], ◌∷◌, map, map-append}
use native.Mathlib.Omega.{arith}
use lib.Dec.{eqb}
use Rattle.laws.specs.Range.{count_to, chosen_to}
use Rattle.laws.specs.Sequence.{times_in}
use Rattle.laws.proofs.Bools.{case_bool, one_false, and_left_false, eqb_sym}
use Rattle.laws.proofs.First.{chosen_true, chosen_false}
use Rattle.laws.proofs.Sequence.{times_append, times_single}

-- how often x is the image of a chosen number
pub times_chosen : (f : ℕ → ℕ) (p : ℕ → Bool) (x n : ℕ) → times_in x (map f (chosen_to p n)) ≡ count_to (λ i. p i && eqb (f i) x) n
unfolding chosen_to count_to times_in
times_chosen f p x zero = refl
times_chosen f p x (suc n) =
    let r = times_chosen f p x n in
    case_bool (p n)
    (λ t.
    rw (chosen_true p n t, map-append f (chosen_to p n) (n ∷ []), times_append x (map f (chosen_to p n)) (f n ∷ []), times_single x (f n), eqb_sym x (f n), t)
    (omega arith))
    (λ u. rw (chosen_false p n u, u) (omega (arith, one_false (and_left_false {a = false} (eqb (f n) x) refl))))
