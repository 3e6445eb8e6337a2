-- Request A1: "A replay may be given a number of records (the program's first argument, decimal; else all)".
use Rattle.std.specs.Prelude.{ℕ, min, Bool, ◌&&◌, List, length, ltb}
use Rattle.laws.specs.Bools.{when◌then◌else◌}
use Rattle.laws.specs.Sequence.{every_in}
use Rattle.lines.specs.Words.{is_digit, value_of}

-- digits only, at least one, of any number
unfoldable pub is_decimal : List ℕ → Bool
is_decimal word = ltb 0 (length word) && every_in is_digit word

-- no journal has so many records
abbrev pub all : ℕ
all = 18_446_744_073_709_551_615

-- a number past every journal is all
unfoldable pub budget_of : List ℕ → ℕ
budget_of word = when is_decimal word then min (value_of word) all else all
