-- What holds, is counted, summed or found over the numbers 0 to n - 1. Each recurses on the bound.
use Rattle.std.specs.Prelude.{ℕ, zero, suc, ◌+◌, Bool, true, false, ◌&&◌, ◌||◌, cond, List, [], ◌∷◌, ◌++◌, Option, Some, None, ltb}
use Rattle.laws.specs.Bools.{when◌then◌else◌, one}

-- the test holds at every number below n
unfoldable pub all_to : (ℕ → Bool) → ℕ → Bool
all_to p zero = true
all_to p (suc n) = all_to p n && p n

-- the test holds at some number below n
unfoldable pub any_to : (ℕ → Bool) → ℕ → Bool
any_to p zero = false
any_to p (suc n) = any_to p n || p n

-- how many numbers below n pass the test
unfoldable pub count_to : (ℕ → Bool) → ℕ → ℕ
count_to p zero = 0
count_to p (suc n) = count_to p n + one (p n)

-- f 0 + .. + f (n - 1)
unfoldable pub sum_to : (ℕ → ℕ) → ℕ → ℕ
sum_to f zero = 0
sum_to f (suc n) = sum_to f n + f n

-- the least number below n that passes the test; n where there is none
unfoldable pub first_to : (ℕ → Bool) → ℕ → ℕ
first_to p zero = 0
first_to p (suc n) = when ltb (first_to p n) n then first_to p n else (when p n then n else suc n)

-- that number, if there is one
abbrev pub first_below : (ℕ → Bool) → ℕ → Option ℕ
first_below p n = cond (ltb (first_to p n) n) (Some (first_to p n)) None

-- the link to the greatest number below n that passes the test: 0 where there is none, else the number plus 1
unfoldable pub last_to : (ℕ → Bool) → ℕ → ℕ
last_to p zero = 0
last_to p (suc n) = when p n then suc n else last_to p n

-- the greatest number up to n, n among them, that passes the test; 0 where there is none
unfoldable pub greatest_to : (ℕ → Bool) → ℕ → ℕ
greatest_to p zero = 0
greatest_to p (suc n) = when p (suc n) then suc n else greatest_to p n

-- the numbers below n that pass the test, rising
unfoldable pub chosen_to : (ℕ → Bool) → ℕ → List ℕ
chosen_to p zero = []
chosen_to p (suc n) = when p n then chosen_to p n ++ (n ∷ []) else chosen_to p n

module _ {ℓ} {A : Type ℓ} where
  -- f 0, .., f (n - 1) as a list
  unfoldable pub table_to : (ℕ → A) → ℕ → List A
  table_to f zero = []
  table_to f (suc n) = table_to f n ++ (f n ∷ [])

  -- step (n - 1) (.. (step 0 a))
  unfoldable pub fold_to : (ℕ → A → A) → A → ℕ → A
  fold_to step a zero = a
  fold_to step a (suc n) = step n (fold_to step a n)
