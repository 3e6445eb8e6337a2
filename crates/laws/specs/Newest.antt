-- The last element of a list with a key.
use Rattle.std.specs.Prelude.{ℕ, List, length, get_or, eqb}
use Rattle.laws.specs.Range.{last_to}

module _ {ℓ} {A : Type ℓ} where
  -- the link to it: 0 where there is none, else its place plus 1
  unfoldable pub newest : (A → ℕ) → A → List A → ℕ → ℕ
  newest key none l j = last_to (λ i. eqb (key (get_or l i none)) j) (length l)
