-- A column of numbers with one place written.
use Rattle.std.specs.Prelude.{ℕ, eqb}
use Rattle.laws.specs.Bools.{when◌then◌else◌}

-- f, but v at j
unfoldable pub upd : (ℕ → ℕ) → ℕ → ℕ → (ℕ → ℕ)
upd f j v i = when eqb i j then v else f i
