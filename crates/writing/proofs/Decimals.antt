-- Laws of the decimals of a number below 2^64.
use Prim.Native.Nat.{ℕ, zero, suc, ◌+◌, ◌*◌, ◌/◌, ◌%◌, ◌≤◌, ◌<◌}
use mathlib.Core.Path.{◌≡◌, sym, ap, ◌∙◌}
use mathlib.Core.List.{List, [], ◌∷◌, ◌++◌}
use native.Mathlib.Decide.{dec_lt}
use native.Mathlib.Omega.{arith}
use lib.ListN.{length, set, length-append}
use lib.Dec.{ltb}
use borrow.Author.Tests.{lt-ltb, le-ltb}
use Rattle.laws.proofs.Bools.{if_true, if_false, if_cases}
use Rattle.laws.specs.Wrote.{Wrote}
use Rattle.laws.proofs.Writing.{wrote_none, wrote_one, wrote_length}
use Rattle.rules.specs.Board.{decimal_in, decimal}

-- 10 to the power n + 1
tens : ℕ → ℕ
tens zero = 10
tens (suc n) = 10 * tens n

in_small : (n x : ℕ) → x < 10 → decimal_in n x ≡ (48 + x) ∷ []
unfolding decimal_in
in_small zero x l = let e : x % 10 ≡ x = omega arith in rw e
in_small (suc n) x l = if_true _ _ (lt-ltb x 10 l)

in_more : (n x : ℕ) → 10 ≤ x → decimal_in (suc n) x ≡ decimal_in n (x / 10) ++ ((48 + x % 10) ∷ [])
unfolding decimal_in
in_more n x l = if_false _ _ (le-ltb x 10 l)

-- a place more changes nothing where there are places enough
in_enough : (n x : ℕ) → x < tens n → decimal_in (suc n) x ≡ decimal_in n x
unfolding tens
in_enough zero x l = in_small 1 x l ∙ sym (in_small 0 x l)
in_enough (suc n) x l = elim (dec_lt x 10) [
  | yes p ↦ in_small (suc (suc n)) x p ∙ sym (in_small (suc n) x p)
  | no p ↦ in_more (suc n) x (omega arith) ∙ ap (λ t. t ++ ((48 + x % 10) ∷ [])) (in_enough n (x / 10) (omega arith)) ∙ sym (in_more n x (omega arith))
]

pub decimal_small : (x : ℕ) → x < 10 → decimal x ≡ (48 + x) ∷ []
unfolding decimal
decimal_small x l = in_small 19 x l

pub decimal_more : (x : ℕ) → 10 ≤ x → x < 18_446_744_073_709_551_616 → decimal x ≡ decimal (x / 10) ++ ((48 + x % 10) ∷ [])
unfolding decimal tens
decimal_more x l h = in_more 18 x l ∙ ap (λ t. t ++ ((48 + x % 10) ∷ [])) (sym (in_enough 18 (x / 10) (omega arith)))

in_length : (n x : ℕ) → length (decimal_in n x) ≤ n + 1
unfolding decimal_in
in_length zero x = omega arith
in_length (suc n) x = if_cases (λ t. length t ≤ suc n + 1) (ltb x 10) {x = (48 + x) ∷ []} (λ e. omega arith) (λ e. rw length-append (omega (arith, in_length n (x / 10))))

pub decimal_length : (x : ℕ) → length (decimal x) ≤ 20
unfolding decimal
decimal_length x = in_length 19 x

pub digits_high : (x : ℕ) {w : ℕ} → w ≡ length (decimal x) → w ≤ 20
digits_high x e = omega (arith, decimal_length x)

pub digits_small : (x : ℕ) → x < 10 → length (decimal x) ≡ 1
digits_small x l = ap length (decimal_small x l)

pub digits_more : (x : ℕ) → 10 ≤ x → x < 18_446_744_073_709_551_616 → length (decimal x) ≡ length (decimal (x / 10)) + 1
digits_more x l h = ap length (decimal_more x l h) ∙ length-append (decimal (x / 10)) _

-- Putting them.

pub put_small : (x : ℕ) (e : List ℕ) → x < 10 → length (decimal x) ≤ length e → Wrote (decimal x) e (set e 0 (48 + x)) 1
put_small x e l h = rw decimal_small (wrote_one (48 + x) (wrote_none e) (omega (arith, digits_small x l)))

module _ (x : ℕ) (l : 10 ≤ x) (h : x < 18_446_744_073_709_551_616) where
  pub put_fits : {n : ℕ} → length (decimal x) ≤ n → length (decimal (x / 10)) < n
  put_fits fits = omega (arith, digits_more x l h)

  -- the last digit, behind the others
  module _ {e m : List ℕ} {r : ℕ} (fits : length (decimal x) ≤ length e) (w : Wrote (decimal (x / 10)) e m r) where
    put_same : length m ≡ length e
    put_same = wrote_length w (omega (arith, put_fits fits))

    pub put_room : r < length m
    put_room = omega (arith, put_same, put_fits fits, w.count)

    pub put_last : Wrote (decimal x) e (set m r (48 + x % 10)) (r + 1)
    put_last = rw (decimal_more x l h) (wrote_one (48 + x % 10) w (put_fits fits))
