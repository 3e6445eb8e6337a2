-- A field, as the code tells of it.
use Rattle.std.proofs.Common.{ℕ, ◌≡◌, ◌<◌, ◌≤◌, false, leb, refl, sym, ◌∙◌}
use borrow.Author.Tests.{le-leb, lt-leb}
use Rattle.laws.specs.Bools.{when◌then◌else◌}
use Rattle.laws.proofs.Bools.{and_left_false, and_right_false}
use Rattle.rules.specs.Setup.{within}
use Rattle.journal.specs.Numbers.{Number, number, fault}
use Rattle.journal.specs.Records.{any_size, ranged}

-- a number of any size is in its range
pub any_size_lem : (n : Number) → ranged any_size n ≡ n
unfolding ranged when◌then◌else◌
any_size_lem (number x next) = refl
any_size_lem (fault k) = refl

pub told_any : {f n m : Number} → n ≡ m → f ≡ m → f ≡ ranged any_size n
told_any {n = n} h e = e ∙ sym (any_size_lem n ∙ h)

-- A number that is read, then held to its range.

read_as : {n f : Number} → f ≡ ranged any_size n → n ≡ f
read_as {n} e = sym (e ∙ any_size_lem n)

module _ (low high : ℕ) where
  pub still_faulty : (n : Number) {k : ℕ} → fault k ≡ ranged any_size n → fault k ≡ ranged (within low high) n
  unfolding ranged
  still_faulty n e = rw (read_as e) refl

  outside : (n : Number) {x next : ℕ} → number x next ≡ ranged any_size n → within low high x ≡ false → fault 14 ≡ ranged (within low high) n
  unfolding ranged when◌then◌else◌
  outside n e o = rw (read_as e, o) refl

  pub too_low : (n : Number) {x next : ℕ} → number x next ≡ ranged any_size n → x < low → fault 14 ≡ ranged (within low high) n
  unfolding within
  too_low n {x} e l = outside n e (and_left_false (leb x high) (lt-leb low x l))

  pub too_high : (n : Number) {x next : ℕ} → number x next ≡ ranged any_size n → high < x → fault 14 ≡ ranged (within low high) n
  unfolding within
  too_high n {x} e h = outside n e (and_right_false (leb low x) (lt-leb x high h))

  pub inside : (n : Number) {x next : ℕ} → number x next ≡ ranged any_size n → low ≤ x → x ≤ high → number x next ≡ ranged (within low high) n
  unfolding ranged within when◌then◌else◌
  inside n {x} e l h = rw (read_as e, le-leb low x l, le-leb x high h) refl
