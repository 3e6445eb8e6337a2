-- The pass that puts off: what it has done up to an entry, and a step of it.
use Prim.Native.Nat.{ℕ, ◌+◌, ◌≤◌, ◌<◌}
use mathlib.Core.Path.{◌≡◌, refl, sym, ◌∙◌, ap}
use mathlib.Core.Bool.{Bool, true, false, ◌&&◌}
use mathlib.Core.Logic.{◌⊎◌, ⊎_elim}
use mathlib.Core.List.{List, [], ◌++◌}
use native.Mathlib.Numerals.{add-one}
use native.Mathlib.Nat.{add-zero}
use native.Mathlib.Omega.{arith}
use lib.ListN.{length, set, drop, length-append, length-drop}
use lib.Dec.{eqb}
use borrow.Author.Tests.{eq-eqb, ne_eqb}
use Rattle.std.specs.Prelude.{Some, None}
use Rattle.laws.specs.Bools.{when◌then◌else◌}
use Rattle.laws.specs.Range.{count_to, chosen_to, table_to}
use Rattle.laws.proofs.Bools.{and_both, and_left_false, and_right_false, if_true, if_false}
use Rattle.laws.proofs.Count.{count_none, count_hit, count_miss, count_le_bound}
use Rattle.laws.proofs.First.{length_chosen, chosen_write, chosen_skip, chosen_none}
use Rattle.laws.proofs.Table.{get_or_table, table_same, table_self, table_write}
use Rattle.laws.proofs.Fill.{get_or_fill, table_drop, table_full, table_keep}
use Rattle.rules.specs.Sizes.{max_jobs, max_entries, max_length}
use Rattle.rules.specs.State.{at}
use Rattle.settling.specs.Settling.{put_off_at, kept_at, dropped_at, CanPutOff, PutOff}

-- up to entry i, of a destination that died
pub record PutTo (d : ℕ) (kind job destination dropped list : List ℕ) (i : ℕ) (kind' dropped' list' : List ℕ) (n : ℕ) : Type 0 where
  pub kinds : kind' ≡ table_to (kept_at kind destination (Some d)) i ++ drop i kind
  pub counts : dropped' ≡ table_to (dropped_at kind job destination dropped (Some d) i) max_jobs
  pub listed : list' ≡ chosen_to (put_off_at kind destination (Some d)) i ++ drop (count_to (put_off_at kind destination (Some d)) i) list
  pub number : n ≡ count_to (put_off_at kind destination (Some d)) i
  pub inside : i ≤ max_entries

module _ (d : ℕ) (kind job destination dropped list : List ℕ) (can : CanPutOff kind job dropped list) where
  abbrev p : ℕ → Bool
  p = put_off_at kind destination (Some d)

  pub put_start : PutTo d kind job destination dropped list 0 kind dropped list 0
  unfolding table_to chosen_to count_to
  put_start = record {
    kinds = refl;
    counts = sym (table_same (dropped_at kind job destination dropped (Some d) 0) (at dropped) max_jobs (λ j l. add-zero (at dropped j))
        ∙ ap (table_to (at dropped)) (sym can.jobs) ∙ table_self 0 dropped);
    listed = refl;
    number = refl;
    inside = omega arith;
  }

  module _ {i : ℕ} {kind' dropped' list' : List ℕ} {n : ℕ} (was : PutTo d kind job destination dropped list i kind' dropped' list' n) where
    -- what the pass reads at its place is as it came
    pub put_reads : at kind' i ≡ at kind i
    put_reads = ap (λ l. at l i) was.kinds ∙ get_or_fill (kept_at kind destination (Some d)) kind i i 0 (omega arith)

    pub put_length : length list' ≡ length list
    put_length =
        ap length was.listed ∙ length-append (chosen_to p i) (drop (count_to p i) list)
        ∙ (let a = length_chosen p i in let b = length-drop (count_to p i) list in let k = count_le_bound p i in omega (arith, can.places, was.inside))

    pub put_dropped : (j : ℕ) → j < max_jobs → at dropped' j ≡ dropped_at kind job destination dropped (Some d) i j
    put_dropped j l = ap (λ l. at l j) was.counts ∙ get_or_table (dropped_at kind job destination dropped (Some d) i) max_jobs j 0 l

    pub put_few : n ≤ i
    put_few = omega (arith, was.number, count_le_bound p i)

    -- the entry is d's and waits
    module _ (lt : i < max_entries) (test : at kind' i ≡ 1) (to : at destination i ≡ d) where
      waits : at kind i ≡ 1
      waits = sym put_reads ∙ test

      chosen : p i ≡ true
      chosen = and_both (eq-eqb (at kind i) 1 waits) (eq-eqb (at destination i) d to)

      pub put_job : {j : ℕ} → j ≡ at job i → j < max_jobs
      put_job is = rw is (can.theirs i lt waits)

      pub put_room : {j : ℕ} → j ≡ at job i → at dropped' j ≤ 768
      put_room {j} is =
          let a = put_dropped j (put_job is) in
          let b : at dropped j ≤ max_length = rw is (can.few i lt waits) in
          omega (arith, was.inside, count_le_bound (λ e. p e && eqb (at job e) j) i)

      pub put_more : {j n' : ℕ} {kind2 dropped2 list2 : List ℕ} → j ≡ at job i
          → kind2 ≡ set kind' i 0 → dropped2 ≡ set dropped' j (at dropped' j + 1) → list2 ≡ set list' n i → n' ≡ n + 1
          → PutTo d kind job destination dropped list (i + 1) kind2 dropped2 list2 n'
      put_more {j} is k g l m = record {
        kinds = k ∙ ap (λ l. set l i 0) was.kinds ∙ ap (set (table_to (kept_at kind destination (Some d)) i ++ drop i kind) i) (sym (if_true 0 (at kind i) chosen))
            ∙ table_drop (kept_at kind destination (Some d)) kind i (omega (arith, can.entries)) ∙ rw add-one refl;
        counts = g ∙ ap (λ l. set l j (at dropped' j + 1)) was.counts
            ∙ table_write (dropped_at kind job destination dropped (Some d) i) (dropped_at kind job destination dropped (Some d) (i + 1)) max_jobs j (at dropped' j + 1)
            (let a = put_dropped j (put_job is) in
            let b = count_hit (λ e. p e && eqb (at job e) j) i (and_both chosen (eq-eqb (at job i) j (sym is))) in
            omega arith)
            (λ x lx ne. ap (λ c. at dropped x + c) (sym (count_miss (λ e. p e && eqb (at job e) x) i (and_right_false (p i) (ne_eqb (at job i) x (λ q. ne (sym q ∙ sym is)))))));
        listed = l ∙ ap (λ m. set list' m i) was.number ∙ ap (λ l. set l (count_to p i) i) was.listed
            ∙ chosen_write p list i chosen (omega (arith, can.places, count_le_bound p i));
        number = m ∙ ap (λ x. x + 1) was.number ∙ sym (count_hit p i chosen);
        inside = omega arith;
      }

    -- it is not
    module _ (lt : i < max_entries) (test : (at kind' i ≡ 1 → ⊥) ⊎ (at destination i ≡ d → ⊥)) where
      other : p i ≡ false
      other =
          ⊎_elim
          (λ ne. and_left_false (eqb (at destination i) d) (ne_eqb (at kind i) 1 (λ q. ne (put_reads ∙ q))))
          (λ ne. and_right_false (eqb (at kind i) 1) (ne_eqb (at destination i) d ne))
          test

      pub put_none : {n' : ℕ} {kind2 dropped2 list2 : List ℕ} → kind2 ≡ kind' → dropped2 ≡ dropped' → list2 ≡ list' → n' ≡ n
          → PutTo d kind job destination dropped list (i + 1) kind2 dropped2 list2 n'
      put_none k g l m = record {
        kinds = k ∙ was.kinds ∙ table_keep (kept_at kind destination (Some d)) 0 kind i (omega (arith, can.entries)) (if_false 0 (at kind i) other) ∙ rw add-one refl;
        counts = g ∙ was.counts ∙ table_same (dropped_at kind job destination dropped (Some d) i) (dropped_at kind job destination dropped (Some d) (i + 1)) max_jobs
            (λ x lx. ap (λ c. at dropped x + c) (sym (count_miss (λ e. p e && eqb (at job e) x) i (and_left_false (eqb (at job i) x) other))));
        listed = l ∙ was.listed ∙ chosen_skip p list i other;
        number = m ∙ was.number ∙ sym (count_miss p i other);
        inside = omega arith;
      }

  pub put_all : {kind' dropped' list' : List ℕ} {n : ℕ} → PutTo d kind job destination dropped list max_entries kind' dropped' list' n
      → PutOff (Some d) kind job destination dropped list kind' dropped' list' n
  put_all was = record {
    kinds = was.kinds ∙ table_full (kept_at kind destination (Some d)) kind max_entries (omega (arith, can.entries));
    counts = was.counts;
    listed = was.listed ∙ ap (λ m. chosen_to p max_entries ++ drop m list) (sym (length_chosen p max_entries));
    number = was.number ∙ sym (length_chosen p max_entries);
  }

  -- nothing is put off where no destination died
  pub put_off_none : PutOff None kind job destination dropped list kind dropped list 0
  unfolding table_to when◌then◌else◌
  put_off_none =
      let none : chosen_to (put_off_at kind destination None) max_entries ≡ [] = chosen_none max_entries in record {
        kinds = sym (ap (table_to (at kind)) (sym can.entries) ∙ table_self 0 kind);
        counts = sym (table_same (dropped_at kind job destination dropped None max_entries) (at dropped) max_jobs
            (λ j l. ap (λ c. at dropped j + c) (count_none (λ e. false) max_entries (λ i k. refl)) ∙ add-zero (at dropped j))
            ∙ ap (table_to (at dropped)) (sym can.jobs) ∙ table_self 0 dropped);
        listed = rw none refl;
        number = rw none refl;
      }
