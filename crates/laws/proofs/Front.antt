-- Values over the front of a list, and behind them what the list held.
use Prim.Native.Nat.{suc, ◌+◌, ◌≤◌, ◌<◌}
use mathlib.Core.Path.{◌≡◌, ◌∙◌}
use mathlib.Core.List.{List, [], ◌∷◌, ◌++◌, append_assoc}
use native.Mathlib.Numerals.{add-one}
use native.Mathlib.Omega.{arith}
use lib.ListN.{length, get_or, set, drop, length-append, length-drop}
use lib.Seq.{drop-cons, set-append_seam}

module _ {ℓ} {A : Type ℓ} where
  pub length_snoc : (l : List A) (x : A) → length (l ++ (x ∷ [])) ≡ length l + 1
  length_snoc l x = length-append l (x ∷ [])

  pub length_front : (vs l : List A) → length vs ≤ length l → length (vs ++ drop (length vs) l) ≡ length l
  length_front vs l h = omega (arith, length-append vs (drop (length vs) l), length-drop (length vs) l)

  -- one more
  pub front_more : (vs l : List A) (x : A) → length vs < length l → set (vs ++ drop (length vs) l) (length vs) x ≡ (vs ++ (x ∷ [])) ++ drop (length (vs ++ (x ∷ []))) l
  front_more vs l x h =
      let e : length (vs ++ (x ∷ [])) ≡ suc (length vs) = length_snoc vs x ∙ add-one (length vs) in
      rw (drop-cons l (length vs) x h, e, append_assoc) (set-append_seam vs (get_or l (length vs) x) (drop (suc (length vs)) l) x)
