-- The tables of `mark_order` and `mark_orders`.
use Prim.Native.Nat.{ℕ, ◌+◌, ◌*◌, ◌≤◌, ◌<◌}
use mathlib.Core.Bool.{Bool, true, false, ◌||◌, or-false}
use mathlib.Core.Path.{◌≡◌, refl, sym, ◌∙◌, ap}
use mathlib.Core.Logic.{◌≢◌}
use mathlib.Core.List.{List}
use native.Mathlib.Decide.{ℕ_discrete}
use native.Mathlib.Omega.{arith}
use lib.Dec.{eqb, leb}
use lib.ListN.{length, get_or, set, length-set}
use lib.Seq.{get_or-set_same, get_or-set_other}
use borrow.Author.Tests.{ltb-true, eqb-true, eq-eqb, ne_eqb, le-leb, lt-leb}
use Rattle.laws.specs.Range.{all_to, any_to, count_to, table_to}
use Rattle.laws.specs.Sequence.{holds, times_in, every_in}
use Rattle.laws.proofs.Bools.{true_not_false, false_of, and_both, and_left_false, and_right_false, or_right, one_true, one_false}
use Rattle.laws.proofs.All.{any_step, any_of, any_false_at, all_false_of, all_more}
use Rattle.laws.proofs.Count.{count_step, count_none, count_any, count_more}
use Rattle.laws.proofs.Sequence.{every_at, every_from, times_positive}
use Rattle.laws.proofs.Index.{holds_table, times_table}
use Rattle.rules.specs.State.{at}
use Rattle.rules.specs.Sound.{implies}
use Rattle.rules.proofs.RangeFacts.{implies_at, implies_of}
use Rattle.listing.specs.Listing.{order_list, distinct, order_test, Marked, OrdersMarked}

-- the first k numbers of f are marked in the table from base on, and none stands twice
pub record Seen (f : ℕ → ℕ) (base k : ℕ) (before table : List Bool) : Type 0 where
  pub size : length table ≡ 8192
  pub marks : (d : ℕ) → d < 256 → get_or table (base + d) false ≡ any_to (λ i. eqb d (f i)) k
  pub few : (d : ℕ) → count_to (λ i. eqb d (f i)) k ≤ 1
  pub below : (x : ℕ) → x < base → get_or table x false ≡ get_or before x false
  pub above : (x : ℕ) → base + 256 ≤ x → get_or table x false ≡ get_or before x false

module _ (f : ℕ → ℕ) (base : ℕ) (before : List Bool) where
  pub seen_none : length before ≡ 8192 → ((d : ℕ) → d < 256 → get_or before (base + d) false ≡ false) → Seen f base 0 before before
  unfolding any_to count_to
  seen_none e h = record { size = e; marks = h; few = λ d. omega arith; below = λ x l. refl; above = λ x l. refl }

  module _ (k : ℕ) (table : List Bool) (s : Seen f base k before table) (x : ℕ) (e : x ≡ f k) (b : x < 256) (fits : base + 256 ≤ 8192) where
    fresh : get_or table (base + x) false ≡ false → any_to (λ i. eqb x (f i)) k ≡ false
    fresh h = sym (s.marks x b) ∙ h

    pub seen_more : get_or table (base + x) false ≡ false → Seen f base (k + 1) before (set table (base + x) true)
    seen_more h =
        record {
          size = length-set table (base + x) true ∙ s.size;
          marks = λ d l. elim (ℕ_discrete d x) [
            | yes q ↦ rw q (get_or-set_same table (base + x) true false inside ∙ sym (any_step (λ i. eqb x (f i)) k ∙ here))
            | no ne ↦ get_or-set_other table (base + x) (base + d) true false (omega arith) ∙ s.marks d l ∙ sym (any_step (λ i. eqb d (f i)) k ∙ other d ne)
          ];
          few = λ d. elim (ℕ_discrete d x) [
            | yes q ↦ rw q (omega (arith, count_step (λ i. eqb x (f i)) k, count_none (λ i. eqb x (f i)) k (any_false_at (λ i. eqb x (f i)) k (fresh h)), one_true (eq-eqb x (f k) e)))
            | no ne ↦ omega (arith, count_step (λ i. eqb d (f i)) k, s.few d, one_false (off d ne))
          ];
          below = λ y l. get_or-set_other table (base + x) y true false (omega arith) ∙ s.below y l;
          above = λ y l. get_or-set_other table (base + x) y true false (omega arith) ∙ s.above y l;
        }
      where
        inside : base + x < length table
        inside = omega (arith, s.size)

        here : any_to (λ i. eqb x (f i)) k || eqb x (f k) ≡ true
        here = or_right (any_to (λ i. eqb x (f i)) k) (eq-eqb x (f k) e)

        off : (d : ℕ) → d ≢ x → eqb d (f k) ≡ false
        off d ne = ne_eqb d (f k) (λ q. ne (q ∙ sym e))

        other : (d : ℕ) → d ≢ x → any_to (λ i. eqb d (f i)) k || eqb d (f k) ≡ any_to (λ i. eqb d (f i)) k
        other d ne = rw (off d ne) (or-false (any_to (λ i. eqb d (f i)) k))

    pub seen_twice : (n : ℕ) → k < n → get_or table (base + x) false ≡ true → Marked (table_to f n) base before table false
    unfolding distinct
    seen_twice n l h =
        record {
          right = sym (false_of twice);
          size = s.size;
          marks = λ t. true_not_false t refl;
          below = s.below;
          above = s.above;
        }
      where
        was : any_to (λ i. eqb x (f i)) k ≡ true
        was = sym (s.marks x b) ∙ h

        twice : every_in (λ d. eqb (times_in d (table_to f n)) 1) (table_to f n) ≡ true → ⊥
        twice t =
            let held = holds_table f x n ∙ any_of (λ i. eqb x (f i)) n k l (eq-eqb x (f k) e) in
            let once = eqb-true (times_in x (table_to f n)) 1 (every_at (λ d. eqb (times_in d (table_to f n)) 1) (table_to f n) t x held) in
            omega (
              arith,
              once,
              times_table f x n,
              count_more (λ i. eqb x (f i)) {m = k + 1} {n = n} (omega arith),
              count_step (λ i. eqb x (f i)) k,
              one_true (eq-eqb x (f k) e),
              ltb-true 0 (count_to (λ i. eqb x (f i)) k) (sym (count_any (λ i. eqb x (f i)) k) ∙ was),
            )

  pub seen_done : (n : ℕ) (table : List Bool) → Seen f base n before table → Marked (table_to f n) base before table true
  unfolding distinct
  seen_done n table s =
      record {
        right =
            sym
            (every_from (λ d. eqb (times_in d (table_to f n)) 1) (table_to f n) λ d h.
            eq-eqb (times_in d (table_to f n)) 1 (omega (arith, times_positive d (table_to f n) h, times_table f d n, s.few d)));
        size = s.size;
        marks = λ t d l. s.marks d l ∙ sym (holds_table f d n);
        below = s.below;
        above = s.above;
      }

-- after the orders of the first j jobs
pub record Marking (present : List Bool) (places order : List ℕ) (j : ℕ) (table : List Bool) : Type 0 where
  pub size : length table ≡ 8192
  pub right : all_to (λ j. implies (get_or present j false) (order_test order j (at places j))) j ≡ true
  pub marks : (i : ℕ) → i < j → get_or present i false ≡ true → (d : ℕ) → d < 256 → get_or table (256 * i + d) false ≡ holds d (order_list order i (at places i))
  pub blank : (k : ℕ) → 256 * j ≤ k → k < 8192 → get_or table k false ≡ false

module _ (present : List Bool) (places order : List ℕ) where
  test : ℕ → Bool
  test j = implies (get_or present j false) (order_test order j (at places j))

  pub marking_none : (table : List Bool) → length table ≡ 8192 → ((k : ℕ) → k < 8192 → get_or table k false ≡ false) → Marking present places order 0 table
  unfolding all_to
  marking_none table e h = record { size = e; right = refl; marks = λ i l. absurd (omega arith); blank = λ k l m. h k m }

  module _ (j : ℕ) (table : List Bool) (s : Marking present places order j table) where
    pub marking_skip : get_or present j false ≡ false → Marking present places order (j + 1) table
    unfolding test
    marking_skip f =
        record {
          size = s.size;
          right = all_more test j s.right (implies_of (get_or present j false) λ t. true_not_false t f);
          marks = λ i l t. elim (ℕ_discrete i j) [
            | yes q ↦ true_not_false (rw q at t) f
            | no ne ↦ s.marks i (omega arith) t
          ];
          blank = λ k l m. s.blank k (omega arith) m;
        }

    module _ (here : get_or present j false ≡ true) (n : ℕ) (e : n ≡ at places j) (inside : j < 32) where
      pub marking_long : 32 < n → OrdersMarked present places order table false
      unfolding test order_test
      marking_long l =
          record {
            right =
                sym
                (all_false_of test 32 j inside
                (false_of λ t. true_not_false (implies_at t here) (and_left_false (distinct (order_list order j (at places j))) (lt-leb (at places j) 32 (omega arith)))));
            marks = λ t. true_not_false t refl;
          }

      module _ (after : List Bool) (r : Bool) (m : Marked (order_list order j n) (256 * j) table after r) where
        pub marking_twice : r ≡ false → OrdersMarked present places order after false
        unfolding test order_test
        marking_twice f =
            record {
              right =
                  sym
                  (all_false_of test 32 j inside
                  (false_of λ t.
                  true_not_false (implies_at t here)
                  (and_right_false (leb (at places j) 32) (ap (λ n. distinct (order_list order j n)) (sym e) ∙ sym m.right ∙ f))));
              marks = λ t. true_not_false t refl;
            }

        pub marking_more : n ≤ 32 → r ≡ true → Marking present places order (j + 1) after
        unfolding test order_test
        marking_more l t =
            record {
              size = m.size;
              right =
                  all_more test j s.right
                  (implies_of (get_or present j false) λ _.
                  and_both (le-leb (at places j) 32 (omega arith)) (ap (λ n. distinct (order_list order j n)) (sym e) ∙ sym m.right ∙ t));
              marks = λ i k p d b. elim (ℕ_discrete i j) [
                | yes q ↦ rw (q, ← e) (m.marks t d b)
                | no ne ↦ m.below (256 * i + d) (omega arith) ∙ s.marks i (omega arith) p d b
              ];
              blank = λ k b c. m.above k (omega arith) ∙ s.blank k (omega arith) c;
            }

  pub marking_done : (table : List Bool) → Marking present places order 32 table → OrdersMarked present places order table true
  marking_done table s = record { right = sym s.right; marks = λ t. s.marks }
