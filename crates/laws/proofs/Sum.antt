-- Sums over the numbers below a bound.
use Prim.Native.Nat.{ℕ, zero, suc, ◌+◌, ◌*◌, ◌≤◌, ◌<◌}
use mathlib.Core.Path.{◌≡◌, refl, ap}
use mathlib.Core.Logic.{◌≢◌}
use mathlib.Core.Bool.{Bool, true, false}
use native.Mathlib.Decide.{ℕ_discrete, dec_lt}
use native.Mathlib.Nat.{le_refl, le_trans}
use native.Mathlib.Numerals.{add-one}
use native.Mathlib.Omega.{arith}
use lib.Dec.{ltb}
use borrow.Author.Tests.{le-ltb}
use Rattle.laws.specs.Bools.{when◌then◌else◌, one}
use Rattle.laws.specs.Range.{sum_to}
use Rattle.laws.specs.Update.{upd}
use Rattle.laws.proofs.Bools.{if_false, if_cases, if_le}
use Rattle.laws.proofs.Update.{upd_same, upd_other, upd_all}

pub sum_le : (f g : ℕ → ℕ) (n : ℕ) → ((i : ℕ) → i < n → f i ≤ g i) → sum_to f n ≤ sum_to g n
unfolding sum_to
sum_le f g zero h = omega arith
sum_le f g (suc n) h = omega (arith, sum_le f g n (λ i l. h i (omega arith)), h n (omega arith))

pub sum_eq : (f g : ℕ → ℕ) (n : ℕ) → ((i : ℕ) → i < n → f i ≡ g i) → sum_to f n ≡ sum_to g n
unfolding sum_to
sum_eq f g zero h = refl
sum_eq f g (suc n) h = omega (arith, sum_eq f g n (λ i l. h i (omega arith)), h n (omega arith))

pub sum_zero : (f : ℕ → ℕ) (n : ℕ) → ((i : ℕ) → i < n → f i ≡ 0) → sum_to f n ≡ 0
unfolding sum_to
sum_zero f zero h = refl
sum_zero f (suc n) h = omega (arith, sum_zero f n (λ i l. h i (omega arith)), h n (omega arith))

pub sum_add : (f g : ℕ → ℕ) (n : ℕ) → sum_to (λ i. f i + g i) n ≡ sum_to f n + sum_to g n
unfolding sum_to
sum_add f g zero = omega arith
sum_add f g (suc n) = omega (arith, sum_add f g n)

pub sum_le_add : (f g h : ℕ → ℕ) (n : ℕ) → ((i : ℕ) → i < n → f i ≤ g i + h i) → sum_to f n ≤ sum_to g n + sum_to h n
sum_le_add f g h n k = omega (arith, sum_le f (λ i. g i + h i) n k, sum_add g h n)

pub sum_mul : (c : ℕ) (f : ℕ → ℕ) (n : ℕ) → sum_to (λ i. c * f i) n ≡ c * sum_to f n
unfolding sum_to
sum_mul c f zero = omega arith
sum_mul c f (suc n) = omega (arith, sum_mul c f n)

pub sum_swap : (f : ℕ → ℕ → ℕ) (m n : ℕ) → sum_to (λ i. sum_to (λ j. f i j) m) n ≡ sum_to (λ j. sum_to (λ i. f i j) n) m
unfolding sum_to
sum_swap f m zero = omega (arith, sum_zero (λ j. sum_to (λ i. f i j) 0) m (λ j l. refl))
sum_swap f m (suc n) = omega (arith, sum_swap f m n, sum_add (λ j. sum_to (λ i. f i j) n) (λ j. f n j) m)

-- one number's part is at most the sum
pub sum_term : (f : ℕ → ℕ) (j n : ℕ) → j < n → f j ≤ sum_to f n
unfolding sum_to
sum_term f j zero l = omega arith
sum_term f j (suc n) l = elim (dec_lt j n) [ yes p ↦ omega (arith, sum_term f j n p) | no p ↦ (let e : n ≡ j = omega arith in rw e (omega arith)) ]

pub sum_suc : (f : ℕ → ℕ) (n : ℕ) → sum_to f (suc n) ≡ sum_to f n + f n
unfolding sum_to
sum_suc f n = refl

-- A loop that sums: its start, and one turn.

pub sum_nothing : (f : ℕ → ℕ) → 0 ≡ sum_to f 0
unfolding sum_to
sum_nothing f = refl

pub sum_turn : (f : ℕ → ℕ) (i sum : ℕ) → sum ≡ sum_to f i → sum + f i ≡ sum_to f (i + 1)
sum_turn f i sum e = rw add-one (omega (arith, e, sum_suc f i))

-- the bound grows by one, below it nothing changes, and the new part is nothing
pub sum_grow : (f g : ℕ → ℕ) (n : ℕ) → ((i : ℕ) → i < n → g i ≡ f i) → g n ≡ 0 → sum_to g (suc n) ≡ sum_to f n
unfolding sum_to
sum_grow f g n h z = omega (arith, sum_eq g f n h)

pub sum_more : (f : ℕ → ℕ) (m n : ℕ) → m ≤ n → sum_to f m ≤ sum_to f n
unfolding sum_to
sum_more f zero zero l = omega arith
sum_more f (suc m) zero l = omega arith
sum_more f m (suc n) l = elim (dec_lt n m) [ yes p ↦ (let e : m ≡ suc n = omega arith in rw e (omega arith)) | no p ↦ omega (arith, sum_more f m n (omega arith)) ]

-- what a turn of it leaves is within a bound of the whole
pub sum_fits : (f : ℕ → ℕ) (i n sum most : ℕ) → i < n → sum ≡ sum_to f i → sum_to f n ≤ most → sum + f i ≤ most
sum_fits f i n sum most l e h = omega (arith, e, sum_suc f i, sum_more f (suc i) n (omega arith))

-- one number's part changes
pub sum_change : (f g : ℕ → ℕ) (j n : ℕ) → j < n → ((i : ℕ) → i < n → i ≢ j → g i ≡ f i) → sum_to g n + f j ≡ sum_to f n + g j
unfolding sum_to
sum_change f g j zero l h = omega arith
sum_change f g j (suc n) l h = elim (ℕ_discrete n j) [
  | yes e ↦ omega (arith, ap f e, ap g e, sum_eq g f n (λ i k. h i (omega arith) (omega arith)))
  | no p ↦ omega (arith, sum_change f g j n (omega arith) (λ i k. h i (omega arith)), h n (omega arith) p)
]

-- one number's part alone
pub sum_alone : (f : ℕ → ℕ) (j n : ℕ) → j < n → ((i : ℕ) → i < n → i ≢ j → f i ≡ 0) → sum_to f n ≡ f j
sum_alone f j n l h = omega (arith, sum_change (λ i. 0) f j n l h, sum_zero (λ i. 0) n (λ i k. refl))

-- parts that count only where a test holds
pub sum_if_le : (p q : ℕ → Bool) (f g : ℕ → ℕ) (n : ℕ) → ((i : ℕ) → i < n → p i ≡ true → (q i ≡ true) × (f i ≤ g i)) → sum_to (λ i. when p i then f i else 0) n ≤ sum_to (λ i. when q i then g i else 0) n
sum_if_le p q f g n h = sum_le _ _ n (λ i l. if_le (p i) (q i) (f i) (g i) (h i l))

pub sum_if_zero : (p : ℕ → Bool) (f : ℕ → ℕ) (n : ℕ) → ((i : ℕ) → i < n → p i ≡ true → f i ≡ 0) → sum_to (λ i. when p i then f i else 0) n ≡ 0
sum_if_zero p f n h = sum_zero _ n (λ i l. if_cases (λ v. v ≡ 0) (p i) {x = f i} {y = 0} (h i l) (λ e. refl))

-- one test for all parts
pub sum_if_all : (b : Bool) (f : ℕ → ℕ) (n : ℕ) → sum_to (λ i. when b then f i else 0) n ≡ (when b then sum_to f n else 0)
unfolding when◌then◌else◌
sum_if_all true f n = refl
sum_if_all false f n = sum_zero _ n (λ i l. refl)

-- the parts below m
pub sum_below : (f : ℕ → ℕ) (m n : ℕ) → sum_to (λ i. when ltb i m then f i else 0) n ≤ sum_to f m
unfolding sum_to
sum_below f m zero = omega arith
sum_below f m (suc n) = elim (dec_lt n m) [
  | yes l ↦
      le_trans (sum_le _ f (suc n) (λ i k. if_cases (λ v. v ≤ f i) (ltb i m) {x = f i} {y = 0} (λ e. le_refl (f i)) (λ e. omega arith)))
      (sum_more f (suc n) m l)
  | no h ↦ omega (arith, sum_below f m n, if_false (f n) 0 (le-ltb n m (omega arith)))
]

-- one part grows by 1, and counts where its test holds
pub sum_if_suc : (p : ℕ → Bool) (f : ℕ → ℕ) (j n : ℕ) → j < n → sum_to (λ i. when p i then upd f j (suc (f j)) i else 0) n ≡ sum_to (λ i. when p i then f i else 0) n + one (p j)
unfolding when◌then◌else◌ one
sum_if_suc p f j n l =
    let c = sum_change (λ i. when p i then f i else 0) (λ i. when p i then upd f j (suc (f j)) i else 0) j n l (λ i k o. rw (upd_other f j (suc (f j)) i o)) in
    omega (arith, rw upd_same at c, step (p j))
  where
    step : (b : Bool) → (when b then suc (f j) else 0) ≡ (when b then f j else 0) + one b
    step true = omega arith
    step false = omega arith

-- parts of at most 1
pub sum_ones : (f : ℕ → ℕ) (n : ℕ) → ((i : ℕ) → i < n → f i ≤ 1) → sum_to f n ≤ n
unfolding sum_to
sum_ones f zero h = omega arith
sum_ones f (suc n) h = omega (arith, sum_ones f n (λ i l. h i (omega arith)), h n (omega arith))

pub sum_ones_miss : (f : ℕ → ℕ) (n j : ℕ) → ((i : ℕ) → i < n → f i ≤ 1) → j < n → f j ≡ 0 → sum_to f n < n
sum_ones_miss f n j h l z =
    let c = sum_change f (upd f j 1) j n l (λ i k o. upd_other f j 1 i o) in
    let b = sum_ones (upd f j 1) n (λ i k. upd_all (λ a v. a < n → v ≤ 1) f j 1 (λ q. omega arith) (λ a o q. h a q) i k) in
    omega (arith, rw upd_same at c)
