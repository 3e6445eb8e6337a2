-- The rows and the columns of the table of jobs and destinations.
use Prim.Native.Nat.{ℕ, zero, suc, ◌+◌, ◌-◌, ◌*◌, ◌≤◌, ◌<◌}
use mathlib.Core.Bool.{Bool, true, ◌&&◌, and_comm}
use mathlib.Core.Path.{◌≡◌, refl, sym, ◌∙◌, ap}
use mathlib.Core.List.{List}
use native.Mathlib.Omega.{arith}
use lib.Dec.{eqb}
use lib.ListN.{length, drop, set, length-set, length-take, length-drop}
use lib.Seq.{get_or-set_other, get_or-take, get_or-drop}
use borrow.Rule.Slice.PartMut.{mid_of}
use Rattle.std.specs.List.{sum}
use borrow.Author.Tests.{eq-eqb, ne_eqb, eqb-true}
use Rattle.laws.specs.Bools.{one}
use Rattle.laws.specs.Range.{count_to, sum_to}
use Rattle.laws.proofs.Bools.{case_bool, bool_same, and_both, and_left, and_right, and_left_false, and_right_false, one_false}
use Rattle.laws.proofs.Sum.{sum_eq, sum_zero, sum_add, sum_alone}
use Rattle.laws.proofs.Count.{count_le_bound}
use Rattle.laws.proofs.Iterated.{sum_to_sum}
use Rattle.laws.proofs.Places.{set_more}
use Rattle.rules.specs.State.{at}
use Rattle.counting.specs.Counting.{counts_to, Counts}

-- to the first d places of a table of 32 something is added
pub record Added (f : ℕ → ℕ) (before after : List ℕ) (d : ℕ) : Type 0 where
  pub size : length after ≡ 32
  pub done : (i : ℕ) → i < d → at after i ≡ at before i + f i
  pub rest : (i : ℕ) → d ≤ i → at after i ≡ at before i

pub added_none : (f : ℕ → ℕ) (before : List ℕ) → length before ≡ 32 → Added f before before 0
added_none f before e = record { size = e; done = λ i l. absurd (omega arith); rest = λ i l. refl }

module _ (f : ℕ → ℕ) (before after : List ℕ) (d : ℕ) (s : Added f before after d) (l : d < 32) where
  pub added_fits : (most : ℕ) → ((i : ℕ) → i < 32 → at before i + f i ≤ most) → at after d + f d ≤ most
  added_fits most h = omega (arith, h d l, s.rest d (omega arith))

  pub added_more : Added f before (set after d (at after d + f d)) (d + 1)
  added_more =
      record {
        size = length-set after d (at after d + f d) ∙ s.size;
        done = set_more (λ i. at before i + f i) after d (at after d + f d) 0 (omega (arith, s.size)) s.done (omega (arith, s.rest d (omega arith)));
        rest = λ i m. get_or-set_other after d i (at after d + f d) 0 (omega arith) ∙ s.rest i (omega arith);
      }

-- a row of 32 is read as a part of the table
pub row_part : (table : List ℕ) (j : ℕ) → j < 32 → length table ≡ 1024 → sum (mid_of (32 * j) (32 * j + 32 - 32 * j) table) ≡ sum_to (λ d. at table (32 * j + d)) 32
row_part table j l e =
    let n : 32 * j + 32 - 32 * j ≡ 32 = omega arith in
    let row : List ℕ = mid_of (32 * j) 32 table in
    let long : length row ≡ 32 = simp (length-take, length-drop) (omega arith) in
    let same : sum_to (λ d. at row d) 32 ≡ sum_to (λ d. at table (32 * j + d)) 32 =
    sum_eq (λ d. at row d) (λ d. at table (32 * j + d)) 32 (λ d m. get_or-take 32 (drop (32 * j) table) d 0 m ∙ get_or-drop (32 * j) table d 0) in
    rw n (sym (sum_to_sum (λ x. x) row 0) ∙ ap (sum_to (λ d. at row d)) long ∙ same)

-- the place of a job and a destination is no other pair's
pub pair_test : (x y j d : ℕ) → y < 32 → d < 32 → eqb (32 * x + y) (32 * j + d) ≡ eqb x j && eqb y d
pair_test x y j d l m =
    bool_same (λ t. let e = eqb-true (32 * x + y) (32 * j + d) t in and_both (eq-eqb x j (omega arith)) (eq-eqb y d (omega arith)))
    (λ t.
    let a = eqb-true x j (and_left (eqb x j) (eqb y d) t) in
    let b = eqb-true y d (and_right (eqb x j) (eqb y d) t) in
    eq-eqb (32 * x + y) (32 * j + d) (omega arith))

-- what is counted of a line of places is what is counted of each of them, if an entry of the line is at just one place
module _ (p q : ℕ → Bool) (key index place : ℕ → ℕ) where
  one_place : (e : ℕ) → (p e ≡ true → index e < 32) → (p e ≡ true → (z : ℕ) → z < 32 → eqb (key e) (place z) ≡ q e && eqb (index e) z)
      → sum_to (λ z. one (p e && eqb (key e) (place z))) 32 ≡ one (p e && q e)
  one_place e b h =
      case_bool (p e)
      (λ t.
      sum_alone (λ z. one (p e && eqb (key e) (place z))) (index e) 32 (b t)
      (λ z l ne. one_false (and_right_false (p e) (h t z l ∙ and_right_false (q e) (ne_eqb (index e) z (λ i. ne (sym i))))))
      ∙ ap (λ c. one (p e && c)) (h t (index e) (b t) ∙ bool_same (λ r. and_left (q e) (eqb (index e) (index e)) r) (λ r. and_both r (eq-eqb (index e) (index e) refl))))
      (λ f.
      sum_zero (λ z. one (p e && eqb (key e) (place z))) 32 (λ z l. one_false (and_left_false (eqb (key e) (place z)) f))
      ∙ sym (one_false (and_left_false (q e) f)))

  count_line : (n : ℕ) → ((e : ℕ) → e < n → p e ≡ true → index e < 32)
      → ((e : ℕ) → e < n → p e ≡ true → (z : ℕ) → z < 32 → eqb (key e) (place z) ≡ q e && eqb (index e) z)
      → sum_to (λ z. count_to (λ e. p e && eqb (key e) (place z)) n) 32 ≡ count_to (λ e. p e && q e) n
  unfolding count_to
  count_line zero b h = sum_zero (λ z. 0) 32 (λ z l. refl)
  count_line (suc n) b h =
      omega (
        arith,
        count_line n (λ e l. b e (omega arith)) (λ e l. h e (omega arith)),
        one_place n (b n (omega arith)) (h n (omega arith)),
        sum_add (λ z. count_to (λ e. p e && eqb (key e) (place z)) n) (λ z. one (p n && eqb (key n) (place z))) 32,
      )

-- the table of jobs and destinations after n entries
module _ (kind job destination table : List ℕ) (n : ℕ) (s : Counts kind 1 (λ e. 32 * at job e + at destination e) 1024 n table)
    (inside : (e : ℕ) → e < n → at kind e ≡ 1 → (at job e < 32) × (at destination e < 32)) where
  pub row_is : (j : ℕ) → j < 32 → sum_to (λ d. at table (32 * j + d)) 32 ≡ counts_to kind 1 (at job) n j
  unfolding counts_to
  row_is j l =
      sum_eq (λ d. at table (32 * j + d)) (λ d. counts_to kind 1 (λ e. 32 * at job e + at destination e) n (32 * j + d)) 32
      (λ d m. s.counts (32 * j + d) (omega arith))
      ∙ count_line (λ e. eqb (at kind e) 1) (λ e. eqb (at job e) j) (λ e. 32 * at job e + at destination e) (at destination) (λ d. 32 * j + d) n
      (λ e m t. (inside e m (eqb-true (at kind e) 1 t)).1)
      (λ e m t d b. pair_test (at job e) (at destination e) j d (inside e m (eqb-true (at kind e) 1 t)).1 b)

  pub column_is : (d : ℕ) → d < 32 → sum_to (λ j. at table (32 * j + d)) 32 ≡ counts_to kind 1 (at destination) n d
  unfolding counts_to
  column_is d l =
      sum_eq (λ j. at table (32 * j + d)) (λ j. counts_to kind 1 (λ e. 32 * at job e + at destination e) n (32 * j + d)) 32
      (λ j m. s.counts (32 * j + d) (omega arith))
      ∙ count_line (λ e. eqb (at kind e) 1) (λ e. eqb (at destination e) d) (λ e. 32 * at job e + at destination e) (at job) (λ j. 32 * j + d) n
      (λ e m t. (inside e m (eqb-true (at kind e) 1 t)).0)
      (λ e m t j b. pair_test (at job e) (at destination e) j d (inside e m (eqb-true (at kind e) 1 t)).1 l ∙ and_comm (eqb (at job e) j) (eqb (at destination e) d))

  pub row_fits : (j : ℕ) → j < 32 → sum_to (λ d. at table (32 * j + d)) 32 ≤ n
  unfolding counts_to
  row_fits j l = omega (arith, row_is j l, count_le_bound (λ e. eqb (at kind e) 1 && eqb (at job e) j) n)

  pub column_fits : (d : ℕ) → d < 32 → sum_to (λ j. at table (32 * j + d)) 32 ≤ n
  unfolding counts_to
  column_fits d l = omega (arith, column_is d l, count_le_bound (λ e. eqb (at kind e) 1 && eqb (at destination e) d) n)
