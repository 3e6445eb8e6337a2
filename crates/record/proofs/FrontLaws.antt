-- The front of a line: its blanks, its first word, and what stands behind them.
use Prim.Native.Nat.{ℕ, zero, suc, ◌+◌, ◌-◌}
use mathlib.Core.Path.{◌≡◌, sym, ◌∙◌, ap}
use mathlib.Core.Bool.{Bool}
use mathlib.Core.List.{List, [], ◌∷◌}
use native.Mathlib.Omega.{arith}
use lib.ListN.{length, get_or, take, drop, length-drop}
use lib.Seq.{take_all, take-nil, drop-nil, drop-drop, get_or-drop, length-take-le}
use lib.Dec.{eqb}
use borrow.Author.Tests.{not-true, not-false}
use Rattle.laws.specs.Sequence.{up_to}
use Rattle.laws.proofs.Bools.{if_true, if_false}
use Rattle.lines.specs.Words.{FirstFrom, is_byte, not_blank}
use Rattle.record.specs.Lines.{unblanked, first_word, behind}

-- what the code lends of a list from a place up to its end
pub to_end : (s : List ℕ) (k : ℕ) → take (length s - k) (drop k s) ≡ drop k s
to_end s k = take_all (length s - k) (drop k s) (omega (arith, length-drop k s))

-- the first one, without the place before all
first_less : {p : ℕ → Bool} {n r : ℕ} → FirstFrom p 0 (suc n) (suc r) → FirstFrom (λ i. p (suc i)) 0 n r
first_less f = record {
  start = omega arith;
  end = omega (arith, f.end);
  before = λ i l m. f.before (suc i) (omega arith) (omega (arith, m));
  there = λ l. f.there (omega (arith, l));
}

pub unblanked_is : (s : List ℕ) (r : ℕ) → FirstFrom (not_blank s) 0 (length s) r → unblanked s ≡ drop r s
unfolding unblanked
unblanked_is [] r f = sym (drop-nil r)
unblanked_is (b ∷ s) zero f = if_false _ _ (not-true (eqb b 32) (f.there (omega arith)))
unblanked_is (b ∷ s) (suc r) f =
    if_true _ _ (not-false (eqb b 32) (f.before 0 (omega arith) (omega arith))) ∙ unblanked_is s r (first_less f)

word_here : (s : List ℕ) (r : ℕ) → FirstFrom (is_byte s 32) 0 (length s) r → up_to 32 s ≡ take r s
unfolding up_to
word_here [] r f = sym (take-nil r)
word_here (b ∷ s) zero f = if_true _ _ (f.there (omega arith))
word_here (b ∷ s) (suc r) f = if_false _ _ (f.before 0 (omega arith) (omega arith)) ∙ ap (λ l. b ∷ l) (word_here s r (first_less f))

-- The first word goes from p up to end.
pub record FirstWord (s : List ℕ) (p end : ℕ) : Type 0 where
  pub begins : FirstFrom (not_blank s) 0 (length s) p
  pub ends : FirstFrom (is_byte s 32) p (length s) end

-- as the code finds it
pub found_word : (s : List ℕ) (p end : ℕ) → FirstFrom (not_blank s) 0 (length s) p → FirstFrom (is_byte s 32) p (length s) end → FirstWord s p end
found_word s p end f e = record { begins = f; ends = e }

module _ (s : List ℕ) (p end : ℕ) (w : FirstWord s p end) where
  abbrev word : List ℕ
  word = take (end - p) (drop p s)

  pub word_long : length word ≡ end - p
  word_long = length-take-le (end - p) (drop p s) (omega (arith, length-drop p s, w.ends.end))

  p_then : p + (end - p) ≡ end
  p_then = omega (arith, w.ends.start)

  from_there : FirstFrom (is_byte (drop p s) 32) 0 (length (drop p s)) (end - p)
  from_there = record {
    start = omega arith;
    end = omega (arith, length-drop p s, w.ends.end);
    before = λ i l m. ap (λ x. eqb x 32) (get_or-drop p s i 0) ∙ w.ends.before (p + i) (omega arith) (omega (arith, m));
    there = λ l. ap (λ x. eqb x 32) (get_or-drop p s (end - p) 0 ∙ ap (λ k. get_or s k 0) p_then) ∙ w.ends.there (omega (arith, l, length-drop p s));
  }

  pub first_word_is : first_word (unblanked s) ≡ word
  first_word_is = rw (unblanked_is s p w.begins) (word_here (drop p s) (end - p) from_there)

  pub behind_is : behind (unblanked s) ≡ drop end s
  behind_is = rw (first_word_is, unblanked_is s p w.begins, word_long, drop-drop, p_then)
