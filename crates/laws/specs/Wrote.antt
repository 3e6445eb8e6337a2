-- What a writer that was lent a buffer promises.
use Rattle.std.specs.Prelude.{ℕ, ◌≡◌, List, ◌++◌, length, drop}

-- the text stands at the front of the buffer, what lies past it is untouched, and the answer is the text's length
pub record Wrote (text entry exit : List ℕ) (r : ℕ) : Type 0 where
  pub count : r ≡ length text
  pub bytes : exit ≡ text ++ drop (length text) entry
