-- The order in which numbers stand in a list.
use Rattle.std.specs.Prelude.{ℕ, true, ◌≡◌, ◌⊎◌, List, [], ◌∷◌}
use Rattle.laws.specs.Sequence.{holds}

-- an x stands somewhere before a y
unfoldable pub Before : ℕ → ℕ → List ℕ → Type 0
Before x y [] = ⊥
Before x y (z ∷ l) = ((x ≡ z) × (holds y l ≡ true)) ⊎ Before x y l
