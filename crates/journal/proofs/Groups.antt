-- The groups of a number: one, or more; and those of numbers one behind the other.
use Prim.Native.Nat.{ℕ, suc, ◌+◌, ◌/◌, ◌%◌, ◌≤◌, ◌<◌}
use mathlib.Core.Path.{◌≡◌, refl, sym, ◌∙◌, ap}
use mathlib.Core.List.{List, [], ◌∷◌, ◌++◌, append_assoc}
use borrow.Author.Tests.{lt-ltb, le-ltb}
use Rattle.laws.specs.Bools.{when◌then◌else◌}
use Rattle.journal.specs.Writes.{groups_of, number_bytes, numbers_bytes}

pub groups_one : (most x : ℕ) → x < 128 → groups_of (suc most) x ≡ x ∷ []
unfolding groups_of when◌then◌else◌
groups_one most x h = rw (lt-ltb x 128 h) refl

pub groups_more : (most x : ℕ) → 128 ≤ x → groups_of (suc most) x ≡ (128 + x % 128) ∷ groups_of most (x / 128)
unfolding groups_of when◌then◌else◌
groups_more most x h = rw (le-ltb x 128 h) refl

pub numbers_append : (a b : List ℕ) → numbers_bytes (a ++ b) ≡ numbers_bytes a ++ numbers_bytes b
unfolding numbers_bytes
numbers_append [] b = refl
numbers_append (x ∷ a) b = ap (λ l. number_bytes x ++ l) (numbers_append a b) ∙ sym (append_assoc (number_bytes x) (numbers_bytes a) (numbers_bytes b))
