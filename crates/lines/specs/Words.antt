-- The words of a line, and words as decimal numbers. docs/DECISIONS.md, "The console".
use Rattle.std.specs.Prelude.{ℕ, ◌+◌, ◌*◌, ◌-◌, ◌≤◌, ◌<◌, ◌≡◌, Bool, true, false, not, ◌&&◌, List, [], ◌∷◌, map, length, get_or, take, Option, Some, None, eqb, ltb, leb}
use Rattle.laws.specs.Bools.{when◌then◌else◌}
use Rattle.laws.specs.Sequence.{every_in}

-- Words are parted by one or more blanks, byte 32.

-- a byte put before the first piece
unfoldable pub longer : ℕ → List (List ℕ) → List (List ℕ)
longer b [] = (b ∷ []) ∷ []
longer b (piece ∷ rest) = (b ∷ piece) ∷ rest

-- what stands between single blanks
unfoldable pub pieces : List ℕ → List (List ℕ)
pieces [] = [] ∷ []
pieces (b ∷ bytes) = when eqb b 32 then [] ∷ pieces bytes else longer b (pieces bytes)

-- those that are not empty
unfoldable pub not_empty : List (List ℕ) → List (List ℕ)
not_empty [] = []
not_empty ([] ∷ rest) = not_empty rest
not_empty ((b ∷ piece) ∷ rest) = (b ∷ piece) ∷ not_empty rest

unfoldable pub words_of : List ℕ → List (List ℕ)
words_of line = not_empty (pieces line)

-- two words are the same bytes
unfoldable pub same_bytes : List ℕ → List ℕ → Bool
same_bytes [] [] = true
same_bytes [] (y ∷ b) = false
same_bytes (x ∷ a) [] = false
same_bytes (x ∷ a) (y ∷ b) = eqb x y && same_bytes a b

-- A word as a decimal number.

-- the bytes '0' to '9'
abbrev pub is_digit : ℕ → Bool
is_digit b = leb 48 b && leb b 57

-- the number that is x before these digits
unfoldable pub value_from : ℕ → List ℕ → ℕ
value_from x [] = x
value_from x (b ∷ digits) = value_from (x * 10 + (b - 48)) digits

unfoldable pub value_of : List ℕ → ℕ
value_of word = value_from 0 word

-- all digits, and below 2^64
unfoldable pub is_number : List ℕ → Bool
is_number word = every_in is_digit word && ltb (value_of word) 18446744073709551616

unfoldable pub all_numbers : List (List ℕ) → Bool
all_numbers [] = true
all_numbers (word ∷ rest) = is_number word && all_numbers rest

abbrev pub numbers_of : List (List ℕ) → List ℕ
numbers_of words = map value_of words

-- What the functions of src/text.rt promise.

-- the first number from `from` on, below `to`, that passes the test; `to` where there is none
pub record FirstFrom (p : ℕ → Bool) (from to r : ℕ) : Type 0 where
  pub start : from ≤ r
  pub end : r ≤ to
  pub before : (i : ℕ) → from ≤ i → i < r → p i ≡ false
  pub there : r < to → p r ≡ true

abbrev pub is_byte : List ℕ → ℕ → ℕ → Bool
is_byte s byte i = eqb (get_or s i 0) byte

abbrev pub not_blank : List ℕ → ℕ → Bool
not_blank s i = not (eqb (get_or s i 0) 32)

-- whether all words are numbers; if so, the numbers stand at the front
pub record Read (words : List (List ℕ)) (whole : Bool) (count : ℕ) (exit : List ℕ) : Type 0 where
  pub told : whole ≡ all_numbers words
  pub fits : count ≤ length exit
  pub front : take count exit ≡ (when whole then numbers_of words else [])

unfoldable pub number_of : List ℕ → Option ℕ
number_of word = when is_number word then Some (value_of word) else None
