-- A job's row of the table of pairs, beside the table of rooms.
use Rattle.std.proofs.Common.{ℕ, ◌≡◌, ◌*◌, ◌<◌, Bool, false, ◌&&◌, List, length, get_or, take, drop, ltb, refl, sym, ap, ◌∙◌, arith, length-take, length-drop}
use Rattle.std.specs.List.{list_any, zip}
use Rattle.std.proofs.lemmas.List.{get_or-drop, get_or-take}
use Rattle.std.proofs.lemmas.Slice.Zip.{get_or-zip, length-zip}
use Rattle.laws.specs.Range.{any_to}
use Rattle.laws.proofs.All.{any_same}
use Rattle.laws.proofs.Iterated.{any_to_any}
use Rattle.eligibility.specs.Eligibility.{open_pair}

abbrev pub is_open_pair : ℕ × Bool → Bool
is_open_pair p = ltb 0 p.0 && p.1

pub row_open : (pairs : List ℕ) (room : List Bool) (j : ℕ) → j < 32 → length pairs ≡ 1024 → length room ≡ 256
    → any_to (open_pair pairs room j) 32 ≡ list_any is_open_pair (zip (take 32 (drop (32 * j) pairs)) room)
unfolding open_pair
row_open pairs room j h p r =
    let row = take 32 (drop (32 * j) pairs) in
    let l = zip row room in
    let n : length row ≡ 32 = omega (arith, length-take {A = ℕ}, length-drop {A = ℕ}) in
    let m : length l ≡ 32 = omega (arith, length-zip row room) in
    any_same (open_pair pairs room j) (λ i. is_open_pair (get_or l i (0, false))) 32
    (λ i k.
    let a : i < length row = omega arith in
    let b : i < length room = omega arith in
    rw (get_or-zip row room i (0, false) a b, get_or-take 32 (drop (32 * j) pairs) i 0 k, get_or-drop (32 * j) pairs i 0) refl)
    ∙ ap (any_to (λ i. is_open_pair (get_or l i (0, false)))) (sym m)
    ∙ any_to_any is_open_pair l (0, false)
