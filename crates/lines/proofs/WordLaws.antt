-- The words of what is left of a line, from a place on.
use Prim.Native.Nat.{ℕ, zero, suc, ◌+◌, ◌-◌, ◌≤◌, ◌<◌}
use mathlib.Core.Path.{◌≡◌, refl, sym, ◌∙◌, ap}
use mathlib.Core.Bool.{Bool, true, false, not, ◌&&◌}
use mathlib.Core.List.{List, [], ◌∷◌, ◌++◌, append-nil}
use native.Mathlib.Omega.{arith}
use native.Mathlib.Decide.{dec_lt}
use lib.ListN.{length, get_or, take, drop, take-append-drop, length-drop, drop_of_length-le}
use lib.Seq.{drop-cons, drop-drop, get_or-take, get_or-drop, length-take-le}
use lib.Dec.{eqb}
use lib.Pointwise.{pointwise}
use borrow.Author.Tests.{eqb-true, not-true, not-false}
use Rattle.laws.specs.Bools.{when◌then◌else◌}
use Rattle.laws.specs.Sequence.{every_in}
use Rattle.laws.proofs.Bools.{and_left, and_right, not_is_true, true_not_false}
use Rattle.laws.proofs.Sequence.{every_from_get_or}
use Rattle.lines.specs.Words.{longer, pieces, not_empty, words_of, same_bytes, FirstFrom, is_byte, not_blank}

abbrev no_blank : ℕ → Bool
no_blank b = not (eqb b 32)

pieces_alone : (p : List ℕ) → every_in no_blank p ≡ true → pieces p ≡ p ∷ []
unfolding pieces longer every_in when◌then◌else◌
pieces_alone [] h = refl
pieces_alone (b ∷ p) h = rw (not-true (eqb b 32) (and_left (no_blank b) (every_in no_blank p) h), pieces_alone p (and_right (no_blank b) (every_in no_blank p) h)) refl

pieces_before : (p q : List ℕ) → every_in no_blank p ≡ true → pieces (p ++ (32 ∷ q)) ≡ p ∷ pieces q
unfolding pieces longer every_in when◌then◌else◌
pieces_before [] q h = refl
pieces_before (b ∷ p) q h = rw (not-true (eqb b 32) (and_left (no_blank b) (every_in no_blank p) h), pieces_before p q (and_right (no_blank b) (every_in no_blank p) h)) refl

words_blank : (q : List ℕ) → words_of (32 ∷ q) ≡ words_of q
unfolding words_of pieces not_empty when◌then◌else◌
words_blank q = refl

words_alone : (p : List ℕ) → 0 < length p → every_in no_blank p ≡ true → words_of p ≡ p ∷ words_of []
unfolding words_of pieces not_empty
words_alone [] n h = absurd (omega arith)
words_alone (b ∷ p) n h = rw (pieces_alone (b ∷ p) h) refl

words_before : (p q : List ℕ) → 0 < length p → every_in no_blank p ≡ true → words_of (p ++ (32 ∷ q)) ≡ p ∷ words_of (32 ∷ q)
unfolding words_of not_empty
words_before [] q n h = absurd (omega arith)
words_before (b ∷ p) q n h = rw (pieces_before (b ∷ p) q h, words_blank q) refl

-- from a place on, blanks left out
pub words_skip :
    (s : List ℕ) (k from r : ℕ) → from + k ≡ r → r ≤ length s → ((i : ℕ) → from ≤ i → i < r → not_blank s i ≡ false)
    → words_of (drop from s) ≡ words_of (drop r s)
words_skip s zero from r e n h = let f : from ≡ r = omega arith in rw f
words_skip s (suc k) from r e n h =
    let l : from < length s = omega arith in
    let b : get_or s from 0 ≡ 32 = eqb-true (get_or s from 0) 32 (not-false (eqb (get_or s from 0) 32) (h from (omega arith) (omega arith))) in
    ap words_of (drop-cons s from 0 l) ∙ ap (λ x. words_of (x ∷ drop (suc from) s)) b ∙ words_blank (drop (suc from) s)
    ∙ words_skip s k (suc from) r (omega arith) n (λ i m q. h i (omega arith) q)

-- where no blank stands at a place, the first one is behind it
pub blank_behind :
    (s : List ℕ) (at end : ℕ) → at < length s → not_blank s at ≡ true → FirstFrom (is_byte s 32) at (length s) end
    → FirstFrom (is_byte s 32) (at + 1) (length s) end
blank_behind s at end h b f = record { start = later; end = f.end; before = λ i l m. f.before i (omega arith) m; there = f.there }
  where
    later : at + 1 ≤ end
    later = elim (dec_lt at end) [
      | yes l ↦ omega arith
      | no l ↦
          let e : end ≡ at = omega (arith, f.start) in
          true_not_false (rw e at (f.there (omega arith))) (not-true (is_byte s 32 at) b)
    ]

-- a word that begins at a place, up to the next blank or the end
module _ (s : List ℕ) (at end : ℕ) (b : not_blank s at ≡ true) (f : FirstFrom (is_byte s 32) (at + 1) (length s) end) where
  -- its bytes
  abbrev word : List ℕ
  word = take (end - at) (drop at s)

  word_length : length word ≡ end - at
  word_length = length-take-le (end - at) (drop at s) (omega (arith, length-drop at s, f.end))

  word_clean : every_in no_blank word ≡ true
  word_clean = every_from_get_or no_blank word 0 λ i h. let k : i < end - at = omega (arith, word_length) in ap no_blank (get_or-take (end - at) (drop at s) i 0 k ∙ get_or-drop at s i 0) ∙ clean i k
    where
      clean : (i : ℕ) → i < end - at → not_blank s (at + i) ≡ true
      clean i h = elim (dec_lt 0 i) [ yes l ↦ not_is_true (f.before (at + i) (omega arith) (omega arith)) | no l ↦ let e : at + i ≡ at = omega arith in rw e b ]

  word_rest : drop at s ≡ word ++ drop end s
  word_rest =
      let e : at + (end - at) ≡ end = omega (arith, f.start) in
      sym (take-append-drop (end - at) (drop at s)) ∙ ap (λ l. word ++ l) (drop-drop (end - at) at s ∙ ap (λ k. drop k s) e)

  pub words_first : words_of (drop at s) ≡ word ∷ words_of (drop end s)
  words_first =
      let n : 0 < length word = omega (arith, word_length, f.start) in
      ap words_of word_rest ∙ elim (dec_lt end (length s)) [
        | yes l ↦
            let e : drop end s ≡ 32 ∷ drop (suc end) s = drop-cons s end 0 l ∙ ap (λ x. x ∷ drop (suc end) s) (eqb-true (get_or s end 0) 32 (f.there l)) in
            rw e (words_before word (drop (suc end) s) n word_clean)
        | no l ↦ rw (drop_of_length-le s {i = end} (omega arith)) (ap words_of (append-nil word) ∙ words_alone word n word_clean)
      ]

-- Two words compared byte for byte.

-- the equality of slices says it
pub same_pointwise : (a b : List ℕ) → pointwise eqb a b ≡ same_bytes a b
unfolding same_bytes
same_pointwise [] [] = refl
same_pointwise [] (y ∷ b) = refl
same_pointwise (x ∷ a) [] = refl
same_pointwise (x ∷ a) (y ∷ b) = ap (λ t. eqb x y && t) (same_pointwise a b)

-- what `==` told of two slices, the second of known bytes
pub same_is : (a : List ℕ) {b d : List ℕ} {r t : Bool} → r ≡ pointwise eqb a b → b ≡ d → r ≡ t → same_bytes a d ≡ t
same_is a {b} {d} e h t = sym (e ∙ ap (pointwise eqb a) h ∙ same_pointwise a d) ∙ t
