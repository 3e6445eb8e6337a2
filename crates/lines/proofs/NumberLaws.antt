-- A word read as a number, digit after digit.
use Prim.Native.Nat.{ℕ, suc, ◌+◌, ◌*◌, ◌-◌, ◌≤◌, ◌<◌}
use mathlib.Core.Path.{◌≡◌, refl, sym, ◌∙◌}
use mathlib.Core.Bool.{true, false, ◌&&◌}
use mathlib.Core.List.{List, [], ◌∷◌}
use native.Mathlib.Omega.{arith}
use native.Mathlib.Numerals.{add-one}
use native.Mathlib.Nat.{le_trans}
use lib.ListN.{length, get_or, drop, drop_of_length-le}
use lib.Seq.{drop-cons}
use borrow.Author.Tests.{le-leb, lt-ltb, le-ltb}
use Rattle.laws.specs.Bools.{when◌then◌else◌}
use Rattle.laws.specs.Sequence.{every_in}
use Rattle.laws.proofs.Bools.{if_false, and_left_false, and_right_false}
use Rattle.std.proofs.Common.{Some, None}
use Rattle.lines.specs.Words.{is_digit, value_from, value_of, is_number, number_of}

-- more digits make no number smaller
pub value_grows : (x : ℕ) (l : List ℕ) → x ≤ value_from x l
unfolding value_from
value_grows x [] = omega arith
value_grows x (b ∷ l) = omega (arith, value_grows (x * 10 + (b - 48)) l)

-- x is the value of what was read up to place i, all of it digits
pub record Valued (word : List ℕ) (x i : ℕ) : Type 0 where
  pub within : i ≤ length word
  pub small : x < 18446744073709551616
  pub digits : every_in is_digit word ≡ every_in is_digit (drop i word)
  pub value : value_of word ≡ value_from x (drop i word)

pub valued_start : (word : List ℕ) → Valued word 0 0
unfolding value_of
valued_start word = record { within = omega arith; small = omega arith; digits = refl; value = refl }

pub not_number : (word : List ℕ) → is_number word ≡ false → None ≡ number_of word
unfolding number_of
not_number word h = sym (if_false _ _ h)

module _ (word : List ℕ) (x i : ℕ) (v : Valued word x i) where
  pub valued_end : length word ≤ i → Some x ≡ number_of word
  unfolding number_of is_number value_from every_in when◌then◌else◌
  valued_end h =
      let e : drop i word ≡ [] = drop_of_length-le word h in
      let d : every_in is_digit word ≡ true = v.digits ∙ rw e in
      let w : value_of word ≡ x = v.value ∙ rw e in
      rw (d, w, lt-ltb x 18446744073709551616 v.small) refl

  module _ (h : i < length word) where
    digits_next : every_in is_digit word ≡ is_digit (get_or word i 0) && every_in is_digit (drop (suc i) word)
    unfolding every_in
    digits_next = v.digits ∙ rw (drop-cons word i 0 h)

    value_next : value_of word ≡ value_from (x * 10 + (get_or word i 0 - 48)) (drop (suc i) word)
    unfolding value_from
    value_next = v.value ∙ rw (drop-cons word i 0 h)

    pub not_digit : is_digit (get_or word i 0) ≡ false → None ≡ number_of word
    unfolding is_number
    not_digit f = not_number word (and_left_false _ (digits_next ∙ and_left_false _ f))

    pub too_large : 18446744073709551616 ≤ x * 10 + (get_or word i 0 - 48) → None ≡ number_of word
    unfolding is_number
    too_large l =
        let g : 18446744073709551616 ≤ value_of word = rw value_next (le_trans l (value_grows _ _)) in
        not_number word (and_right_false (every_in is_digit word) (le-ltb (value_of word) 18446744073709551616 g))

    pub valued_more :
        48 ≤ get_or word i 0 → get_or word i 0 ≤ 57 → x * 10 + (get_or word i 0 - 48) < 18446744073709551616
        → Valued word (x * 10 + (get_or word i 0 - 48)) (i + 1)
    valued_more l m s =
        record {
          within = omega arith;
          small = s;
          digits = digits_next ∙ rw (le-leb 48 (get_or word i 0) l, le-leb (get_or word i 0) 57 m, add-one) refl;
          value = value_next ∙ rw add-one refl;
        }
