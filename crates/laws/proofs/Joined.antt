-- Several tests joined, taken apart at once.
use mathlib.Core.Path.{◌≡◌}
use mathlib.Core.Bool.{Bool, true, ◌&&◌}
use Rattle.laws.proofs.Bools.{and_left, and_right}

pub and_3 : (a b c : Bool) → a && b && c ≡ true → (a ≡ true) × (b ≡ true) × (c ≡ true)
and_3 a b c h =
    let k = and_left (a && b) c h in
    (and_left a b k, and_right a b k, and_right (a && b) c h)

pub and_4 : (a b c d : Bool) → a && b && c && d ≡ true → (a ≡ true) × (b ≡ true) × (c ≡ true) × (d ≡ true)
and_4 a b c d h =
    let k = and_3 a b c (and_left (a && b && c) d h) in
    (k.0, k.1, k.2, and_right (a && b && c) d h)

pub and_5 : (a b c d e : Bool) → a && b && c && d && e ≡ true → (a ≡ true) × (b ≡ true) × (c ≡ true) × (d ≡ true) × (e ≡ true)
and_5 a b c d e h =
    let k = and_4 a b c d (and_left (a && b && c && d) e h) in
    (k.0, k.1, k.2, k.3, and_right (a && b && c && d) e h)

pub and_6 : (a b c d e f : Bool) → a && b && c && d && e && f ≡ true → (a ≡ true) × (b ≡ true) × (c ≡ true) × (d ≡ true) × (e ≡ true) × (f ≡ true)
and_6 a b c d e f h =
    let k = and_5 a b c d e (and_left (a && b && c && d && e) f h) in
    (k.0, k.1, k.2, k.3, k.4, and_right (a && b && c && d && e) f h)

pub and_8 :
    (a b c d e f g i : Bool)
    → a && b && c && d && e && f && g && i ≡ true
    → (a ≡ true) × (b ≡ true) × (c ≡ true) × (d ≡ true) × (e ≡ true) × (f ≡ true) × (g ≡ true) × (i ≡ true)
and_8 a b c d e f g i h =
    let z = and_left (a && b && c && d && e && f && g) i h in
    let k = and_6 a b c d e f (and_left (a && b && c && d && e && f) g z) in
    (k.0, k.1, k.2, k.3, k.4, k.5, and_right (a && b && c && d && e && f) g z, and_right (a && b && c && d && e && f && g) i h)
