-- Lists of numbers that are kept in an order: what stays, and what is moved.
use Rattle.std.specs.Prelude.{ℕ, zero, suc, ◌+◌, ◌-◌, Bool, true, false, not, ◌&&◌, ◌||◌, List, [], ◌∷◌, ◌++◌, length, get_or, replicate, eqb, ltb, leb}
use Rattle.laws.specs.Bools.{when◌then◌else◌, one}
use Rattle.laws.specs.Range.{all_to}

-- the elements that pass the test, in their order
unfoldable pub keep : (ℕ → Bool) → List ℕ → List ℕ
keep p [] = []
keep p (x ∷ l) = when p x then x ∷ keep p l else keep p l

-- x occurs
unfoldable pub holds : ℕ → List ℕ → Bool
holds x [] = false
holds x (y ∷ l) = eqb x y || holds x l

-- the first element that passes the test; other where there is none
unfoldable pub first_of : (ℕ → Bool) → List ℕ → ℕ → ℕ
first_of p [] other = other
first_of p (x ∷ l) other = when p x then x else first_of p l other

-- what stands before the first y
unfoldable pub up_to : ℕ → List ℕ → List ℕ
up_to y [] = []
up_to y (x ∷ l) = when eqb x y then [] else x ∷ up_to y l

-- x put directly before the first y
unfoldable pub insert_before : ℕ → ℕ → List ℕ → List ℕ
insert_before x y [] = []
insert_before x y (z ∷ l) = when eqb z y then x ∷ z ∷ l else z ∷ insert_before x y l

-- x taken out, and put directly before the first y
unfoldable pub move_before : ℕ → ℕ → List ℕ → List ℕ
move_before x y l = insert_before x y (keep (λ z. not (eqb z x)) l)

-- the list, and zeros behind it up to n places
unfoldable pub padded : ℕ → List ℕ → List ℕ
padded n l = l ++ replicate (n - length l) 0

-- how often x occurs
unfoldable pub times_in : ℕ → List ℕ → ℕ
times_in x [] = 0
times_in x (y ∷ l) = one (eqb x y) + times_in x l

-- every element passes the test
unfoldable pub every_in : (ℕ → Bool) → List ℕ → Bool
every_in p [] = true
every_in p (x ∷ l) = p x && every_in p l

-- how many elements pass the test
unfoldable pub count_in : (ℕ → Bool) → List ℕ → ℕ
count_in p [] = 0
count_in p (x ∷ l) = one (p x) + count_in p l

-- the list holds each number below n that passes the test just once, and nothing else
unfoldable pub holds_each_once : (ℕ → Bool) → ℕ → List ℕ → Bool
holds_each_once p n l = every_in (λ x. ltb x n && p x) l && all_to (λ x. eqb (times_in x l) (one (p x))) n

-- the values of f never fall along the list
unfoldable pub never_falling : (ℕ → ℕ) → List ℕ → Bool
never_falling f [] = true
never_falling f (x ∷ l) = every_in (λ y. leb (f x) (f y)) l && never_falling f l

-- the elements of l up to place n, each where it first appears
unfoldable pub firsts_to : List ℕ → ℕ → List ℕ
firsts_to l zero = []
firsts_to l (suc n) = when holds (get_or l n 0) (firsts_to l n) then firsts_to l n else firsts_to l n ++ (get_or l n 0 ∷ [])
