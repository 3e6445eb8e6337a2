-- The tables of `count_entries`.
use Prim.Native.Nat.{ℕ, zero, suc, ◌+◌, ◌*◌, ◌≤◌, ◌<◌}
use mathlib.Core.Bool.{Bool, true, false, ◌&&◌, ◌||◌}
use mathlib.Core.Path.{◌≡◌, refl, sym, ◌∙◌, ap}
use mathlib.Core.Logic.{◌≢◌}
use mathlib.Core.List.{List}
use Rattle.std.specs.Prelude.{Some, None}
use native.Mathlib.Decide.{ℕ_discrete, dec_lt}
use native.Mathlib.Omega.{arith}
use lib.Dec.{eqb, leb}
use mir.Syntax.{w16}
use mir.Val.{Fits}
use lib.ListN.{length, get_or, set, length-set, replicate, get_or-replicate, get_or-eq_default}
use lib.Seq.{get_or-set_same, get_or-set_other}
use borrow.Author.Tests.{eq-eqb, ne_eqb, le-ltb, lt-leb, leb-true}
use Rattle.laws.specs.Range.{all_to, count_to, sum_to}
use Rattle.laws.proofs.Bools.{true_not_false, and_both, and_left_false, and_right_false, and_left, and_right, or_left, or_neither, one_true, one_false}
use Rattle.laws.proofs.All.{all_false_of, all_more}
use Rattle.laws.proofs.Count.{count_step, count_le_bound}
use Rattle.rules.specs.State.{at}
use Rattle.counting.specs.declared.EntryCounts.{EntryCounts}
use Rattle.counting.specs.Counting.{belongs_at, Columns, belongs_test, entry_test, counts_to, Counts, no_pairs, RightCounts}
use Rattle.counting.proofs.PairLaws.{row_is, row_fits, column_is, column_fits}

module _ (kind : List ℕ) (v : ℕ) (key : ℕ → ℕ) (m : ℕ) where
  pub counts_none : (table : List ℕ) → length table ≡ m → ((x : ℕ) → x < m → at table x ≡ 0) → Counts kind v key m 0 table
  unfolding counts_to count_to
  counts_none table e h = record { size = e; counts = h }

  module _ (n : ℕ) (table : List ℕ) (s : Counts kind v key m n table) where
    pub counts_within : (x : ℕ) → x < m → at table x ≤ n
    unfolding counts_to
    counts_within x l = omega (arith, s.counts x l, count_le_bound (λ e. eqb (at kind e) v && eqb (key e) x) n)

    pub counts_room : (x : ℕ) → x < m → n < 512 → Fits w16 (at table x + 1)
    counts_room x l k = omega (arith, counts_within x l)

    pub counts_miss : at kind n ≢ v → Counts kind v key m (n + 1) table
    unfolding counts_to
    counts_miss ne =
        record {
          size = s.size;
          counts = λ x l.
              omega (
                arith,
                s.counts x l,
                count_step (λ e. eqb (at kind e) v && eqb (key e) x) n,
                one_false (and_left_false (eqb (key n) x) (ne_eqb (at kind n) v ne)),
              );
        }

    pub counts_hit : (y : ℕ) → at kind n ≡ v → y ≡ key n → y < m → Counts kind v key m (n + 1) (set table y (at table y + 1))
    unfolding counts_to
    counts_hit y e q l =
        record {
          size = length-set table y (at table y + 1) ∙ s.size;
          counts = λ x k. elim (ℕ_discrete x y) [
            | yes i ↦ rw i
                (omega (
                  arith,
                  get_or-set_same table y (at table y + 1) 0 (omega (arith, s.size)),
                  s.counts y l,
                  count_step (λ e. eqb (at kind e) v && eqb (key e) y) n,
                  one_true (and_both (eq-eqb (at kind n) v e) (eq-eqb (key n) y (sym q))),
                ))
            | no ne ↦
                omega (
                  arith,
                  get_or-set_other table y x (at table y + 1) 0 ne,
                  s.counts x k,
                  count_step (λ e. eqb (at kind e) v && eqb (key e) x) n,
                  one_false (and_right_false (eqb (at kind n) v) (ne_eqb (key n) x (λ i. ne (sym i ∙ sym q)))),
                )
          ];
        }

-- a kind that is not 0 is one of the other two where it is at most 2
kind_test : (x : ℕ) → x ≢ 0 → (eqb x 1 || eqb x 2) ≡ leb x 2
kind_test zero h = absurd (h refl)
kind_test (suc zero) h = refl
kind_test (suc (suc zero)) h = refl
kind_test (suc (suc (suc x))) h =
    or_neither (ne_eqb (suc (suc (suc x))) 1 (omega arith)) (ne_eqb (suc (suc (suc x))) 2 (omega arith)) ∙ sym (lt-leb (suc (suc (suc x))) 2 (omega arith))

module _ (present : List Bool) (transport home : List ℕ) (destinations : ℕ) (marked : List Bool) (j d : ℕ) where
  belongs_no_job : length present ≡ 32 → 32 ≤ j → false ≡ belongs_at present transport home destinations marked j d
  unfolding belongs_at
  belongs_no_job e l =
      let absent : get_or present j false ≡ false = get_or-eq_default present false (omega (arith, e)) in
      sym (and_left_false _ (and_left_false _ (and_left_false _ absent)))

  belongs_no_destination : destinations ≤ d → false ≡ belongs_at present transport home destinations marked j d
  unfolding belongs_at
  belongs_no_destination l =
      sym (and_left_false _ (and_left_false _ (and_right_false (get_or present j false) (le-ltb d destinations l))))

  pub belongs_inside : length present ≡ 32 → belongs_at present transport home destinations marked j d ≡ true → (j < 32) × (d < destinations)
  belongs_inside e h = (
    elim (dec_lt j 32) [
      | yes l ↦ l
      | no l ↦ true_not_false h (sym (belongs_no_job e (omega arith)))
    ],
    elim (dec_lt d destinations) [
      | yes l ↦ l
      | no l ↦ true_not_false h (sym (belongs_no_destination (omega arith)))
    ],
  )

-- what holds before entry n
pub record Counted (k : Columns) (n : ℕ) (p b t o : List ℕ) : Type 0 where
  pub pairs : Counts k.kind 1 (λ e. 32 * at k.job e + at k.destination e) 1024 n p
  pub busy : Counts k.kind 2 (at k.job) 32 n b
  pub to : Counts k.kind 2 (at k.destination) 32 n t
  pub on : Counts k.kind 2 (λ e. at k.home (at k.destination e)) 4 n o
  pub right : all_to (entry_test k) n ≡ true
  pub inside : (e : ℕ) → e < n → at k.kind e ≡ 1 → (at k.job e < 32) × (at k.destination e < 32)

zeros : (m x : ℕ) → x < m → at (replicate m 0) x ≡ 0
zeros m x l = get_or-replicate m x 0 0 l

module _ (k : Columns) where
  pub counted_none : (p : List ℕ) → p ≡ no_pairs → Counted k 0 p (replicate 32 0) (replicate 32 0) (replicate 4 0)
  unfolding all_to
  counted_none p e =
      record {
        pairs = rw e (counts_none _ _ _ _ _ refl (zeros 1024));
        busy = counts_none _ _ _ _ _ refl (zeros 32);
        to = counts_none _ _ _ _ _ refl (zeros 32);
        on = counts_none _ _ _ _ _ refl (zeros 4);
        right = refl;
        inside = λ e l. absurd (omega arith);
      }

  module _ (n : ℕ) (p b t o : List ℕ) (s : Counted k n p b t o) where
    inside_more : (at k.kind n ≡ 1 → (at k.job n < 32) × (at k.destination n < 32))
        → (e : ℕ) → e < n + 1 → at k.kind e ≡ 1 → (at k.job e < 32) × (at k.destination e < 32)
    inside_more h e l = elim (ℕ_discrete e n) [
      | yes q ↦ rw q h
      | no ne ↦ s.inside e (omega arith)
    ]

    pub counted_free : at k.kind n ≡ 0 → Counted k (n + 1) p b t o
    unfolding entry_test
    counted_free e =
        record {
          pairs = counts_miss _ _ _ _ _ _ s.pairs (omega arith);
          busy = counts_miss _ _ _ _ _ _ s.busy (omega arith);
          to = counts_miss _ _ _ _ _ _ s.to (omega arith);
          on = counts_miss _ _ _ _ _ _ s.on (omega arith);
          right = all_more (entry_test k) n s.right (or_left _ (eq-eqb (at k.kind n) 0 e));
          inside = inside_more (λ i. absurd (omega arith));
        }

    -- a used entry of job j and destination d, and what the tests of its kind and of its place say
    module _ (used : at k.kind n ≢ 0) (j d : ℕ) (ej : j ≡ at k.job n) (ed : d ≡ at k.destination n) (r : Bool)
        (told : r ≡ belongs_at k.present k.transport k.home k.destinations k.marked j d) where
      tested : entry_test k n ≡ leb (at k.kind n) 2 && r
      unfolding entry_test belongs_test
      tested =
          rw (ne_eqb (at k.kind n) 0 used, kind_test (at k.kind n) used, told, ej, ed)

      pub counted_not : leb (at k.kind n) 2 && r ≡ false → n < 512 → RightCounts k None
      counted_not f l = record { right = sym (all_false_of (entry_test k) 512 n l (tested ∙ f)); tables = tt }

      module _ (right : leb (at k.kind n) 2 && r ≡ true) (long : length k.present ≡ 32) (few : k.destinations ≤ 32) where
        pub counted_inside : (j < 32) × (d < k.destinations) × (d < 32)
        counted_inside =
            let i = belongs_inside k.present k.transport k.home k.destinations k.marked j d long (sym told ∙ and_right (leb (at k.kind n) 2) r right) in
            (i.0, i.1, omega (arith, i.1, few))

        pub counted_kind : at k.kind n ≤ 2
        counted_kind = leb-true (at k.kind n) 2 (and_left (leb (at k.kind n) 2) r right)

        pub counted_waiting : at k.kind n ≡ 1 → Counted k (n + 1) (set p (32 * j + d) (at p (32 * j + d) + 1)) b t o
        counted_waiting e =
            record {
              pairs = counts_hit _ _ _ _ _ _ s.pairs (32 * j + d) e (omega (arith, ej, ed)) (omega (arith, counted_inside));
              busy = counts_miss _ _ _ _ _ _ s.busy (omega arith);
              to = counts_miss _ _ _ _ _ _ s.to (omega arith);
              on = counts_miss _ _ _ _ _ _ s.on (omega arith);
              right = all_more (entry_test k) n s.right (tested ∙ right);
              inside = inside_more (λ _. (omega (arith, ej, counted_inside), omega (arith, ed, counted_inside)));
            }

        pub counted_busy : at k.kind n ≡ 2 → at k.home d < 4
            → Counted k (n + 1) p (set b j (at b j + 1)) (set t d (at t d + 1)) (set o (at k.home d) (at o (at k.home d) + 1))
        counted_busy e lt =
            record {
              pairs = counts_miss _ _ _ _ _ _ s.pairs (omega arith);
              busy = counts_hit _ _ _ _ _ _ s.busy j e ej counted_inside.0;
              to = counts_hit _ _ _ _ _ _ s.to d e ed (omega (arith, counted_inside));
              on = counts_hit _ _ _ _ _ _ s.on (at k.home d) e (ap (at k.home) ed) lt;
              right = all_more (entry_test k) n s.right (tested ∙ right);
              inside = inside_more (λ i. absurd (omega arith));
            }

  module _ (n : ℕ) (p b t o : List ℕ) (s : Counted k n p b t o) where
    counted_row : (j : ℕ) → j < 32 → sum_to (λ d. at p (32 * j + d)) 32 ≡ counts_to k.kind 1 (at k.job) n j
    counted_row = row_is k.kind k.job k.destination p n s.pairs s.inside

    counted_column : (d : ℕ) → d < 32 → sum_to (λ j. at p (32 * j + d)) 32 ≡ counts_to k.kind 1 (at k.destination) n d
    counted_column = column_is k.kind k.job k.destination p n s.pairs s.inside

    pub counted_row_fits : (j : ℕ) → j < 32 → sum_to (λ d. at p (32 * j + d)) 32 ≤ n
    counted_row_fits = row_fits k.kind k.job k.destination p n s.pairs s.inside

    pub counted_column_fits : (d : ℕ) → d < 32 → sum_to (λ j. at p (32 * j + d)) 32 ≤ n
    counted_column_fits = column_fits k.kind k.job k.destination p n s.pairs s.inside

  pub counted_done :
      (r : EntryCounts)
      → (p : List ℕ)
      → Counted k 512 p r.busy r.to r.on
      → length r.waiting ≡ 32
      → ((j : ℕ) → j < 32 → at r.waiting j ≡ sum_to (λ d. at p (32 * j + d)) 32)
      → length r.held ≡ 32
      → ((d : ℕ) → d < 32 → at r.held d ≡ sum_to (λ j. at p (32 * j + d)) 32)
      → RightCounts k (Some r)
  counted_done r p s ew w eh h =
      record {
        right = sym s.right;
        tables =
            record {
              waiting = record { size = ew; counts = λ j l. w j l ∙ counted_row 512 p _ _ _ s j l };
              busy = s.busy;
              held = record { size = eh; counts = λ d l. h d l ∙ counted_column 512 p _ _ _ s d l };
              to = s.to;
              on = s.on;
            };
      }
