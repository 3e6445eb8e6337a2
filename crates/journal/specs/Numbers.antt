-- Request A1: "numbers in variable-length groups of seven bits, lowest group first, top bit set on all but the last group, shortest form only, at
-- most five groups and below 2^32".
use Rattle.std.specs.Prelude.{ℕ, zero, suc, ◌+◌, ◌*◌, ◌-◌, ◌^◌, Bool, ◌&&◌, ◌||◌, List, length, eqb, ltb, leb}
use Rattle.laws.specs.Bools.{when◌then◌else◌}
use Rattle.rules.specs.State.{at}

-- what is read at an offset as a number
pub data Number : Type 0 where
  -- the number, and the offset behind it
  number : ℕ → ℕ → Number
  -- 12 "cut short", 13 "a number not written as above"
  fault : ℕ → Number

-- "lowest group first": seven bits, and the groups above them
unfoldable pub above : ℕ → Number → Number
above low (number high next) = number (low + 128 * high) next
above low (fault k) = fault k

-- "top bit set on all but the last group", with at most so many groups
unfoldable pub groups_at : ℕ → List ℕ → ℕ → Number
groups_at zero bytes offset = fault 13
groups_at (suc most) bytes offset =
    when leb (length bytes) offset then fault 12
    else when ltb (at bytes offset) 128 then number (at bytes offset) (offset + 1)
    else above (at bytes offset - 128) (groups_at most bytes (offset + 1))

-- "below 2^32"
abbrev pub small : ℕ → Bool
small x = ltb x 4_294_967_296

-- "shortest form only": one group, or as many as it takes
unfoldable pub shortest : ℕ → ℕ → Bool
shortest groups x = eqb groups 1 || leb (128 ^ (groups - 1)) x

unfoldable pub well_written : ℕ → Number → Number
well_written offset (number x next) = when shortest (next - offset) x && small x then number x next else fault 13
well_written offset (fault k) = fault k

-- "at most five groups and below 2^32"
unfoldable pub number_at : List ℕ → ℕ → Number
number_at bytes offset = well_written offset (groups_at 5 bytes offset)
