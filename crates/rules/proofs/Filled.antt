-- Places of a column written anew: the first free ones, and the stretch of one job's order.
use Prim.Native.Nat.{ℕ, zero, suc, ◌+◌, ◌-◌, ◌*◌, ◌≤◌, ◌<◌, min}
use mathlib.Core.Path.{◌≡◌, refl, sym, ◌∙◌}
use mathlib.Core.Logic.{◌≢◌, ⊎_elim}
use mathlib.Core.Bool.{Bool, true, ◌&&◌}
use mathlib.Core.List.{List, ◌++◌}
use native.Mathlib.Nat.{le_step, lt-suc_self, le_of_suc-le-suc, eq-or-lt_of_le}
use native.Mathlib.Omega.{arith}
use native.Mathlib.Decide.{dec_lt}
use lib.ListN.{length, take, drop, length-append, length-take, length-drop, length-set, get_or-append}
use lib.Seq.{get_or-set_same, get_or-set_other, get_or-append-add, get_or-take, get_or-drop}
use lib.Dec.{ltb}
use borrow.Author.Tests.{ltb-true, ltb-false, lt-ltb}
use Rattle.laws.specs.Bools.{when◌then◌else◌}
use Rattle.laws.specs.Range.{count_to, chosen_to, fold_to}
use Rattle.laws.specs.Sequence.{padded}
use Rattle.laws.proofs.Bools.{true_not_false, case_bool, if_true, if_false, and_both, and_left, and_right, and_left_false, and_right_false, one_true}
use Rattle.laws.proofs.Bools.{one_false}
use Rattle.laws.proofs.First.{chosen_below, chosen_passes, chosen_place, chosen_at, chosen_rises}
use Rattle.laws.proofs.Sequence.{length_padded, get_or_padded}
use Rattle.rules.specs.State.{at}
use Rattle.rules.specs.Taking.{filled, with_order}

module _ (places : List ℕ) (f : ℕ → ℕ) where
  pub length_filled : (n : ℕ) (column : List ℕ) → length (filled places f n column) ≡ length column
  unfolding filled fold_to
  length_filled zero column = refl
  length_filled (suc n) column = length-set (filled places f n column) (at places n) (f n) ∙ length_filled n column

  pub filled_other : (n : ℕ) (column : List ℕ) (x : ℕ) → ((i : ℕ) → i < n → at places i ≢ x) → at (filled places f n column) x ≡ at column x
  unfolding filled fold_to
  filled_other zero column x h = refl
  filled_other (suc n) column x h =
      get_or-set_other (filled places f n column) (at places n) x (f n) 0 (λ e. h n (lt-suc_self n) (sym e)) ∙ filled_other n column x (λ i l. h i (le_step l))

  pub filled_at : (n : ℕ) (column : List ℕ) → ((a b : ℕ) → a < b → b < n → at places a ≢ at places b) → ((a : ℕ) → a < n → at places a < length column)
      → (i : ℕ) → i < n → at (filled places f n column) (at places i) ≡ f i
  unfolding filled fold_to
  filled_at zero column distinct inside i l = absurd (omega arith)
  filled_at (suc n) column distinct inside i l =
      ⊎_elim
      (λ e. rw e (get_or-set_same (filled places f n column) (at places n) (f n) 0 (rw (length_filled n column) (inside n (lt-suc_self n)))))
      (λ k.
      get_or-set_other (filled places f n column) (at places n) (at places i) (f n) 0 (distinct i n k (lt-suc_self n))
      ∙ filled_at n column (λ a b h m. distinct a b h (le_step m)) (λ a h. inside a (le_step h)) i k)
      (eq-or-lt_of_le (le_of_suc-le-suc l))

-- x is one of the first n numbers that pass
unfoldable pub among_first : (ℕ → Bool) → ℕ → ℕ → Bool
among_first p n x = p x && ltb (count_to p x) n

module _ (p : ℕ → Bool) (n : ℕ) where
  pub among_passes : (x : ℕ) → among_first p n x ≡ true → p x ≡ true
  unfolding among_first
  among_passes x h = and_left (p x) (ltb (count_to p x) n) h

  pub among_rank : (x : ℕ) → among_first p n x ≡ true → count_to p x < n
  unfolding among_first
  among_rank x h = ltb-true (count_to p x) n (and_right (p x) (ltb (count_to p x) n) h)

  count_among_min : (m : ℕ) → count_to (among_first p n) m ≡ min n (count_to p m)
  unfolding count_to among_first
  count_among_min zero = omega arith
  count_among_min (suc m) =
      let r = count_among_min m in
      case_bool (p m)
      (λ t.
      let o = one_true t in
      case_bool (ltb (count_to p m) n)
      (λ u. let q = one_true (and_both t u) in let l = ltb-true (count_to p m) n u in omega arith)
      (λ u. let q = one_false (and_right_false (p m) u) in let l = ltb-false (count_to p m) n u in omega arith))
      (λ f. let o = one_false f in let q = one_false (and_left_false (ltb (count_to p m) n) f) in omega arith)

  pub count_among : (m : ℕ) → n ≤ count_to p m → count_to (among_first p n) m ≡ n
  count_among m h = omega (arith, count_among_min m)

  -- a column with the first n of these places filled
  pub filled_chosen : (m : ℕ) (f : ℕ → ℕ) (column : List ℕ) → length column ≡ m → n ≤ count_to p m → (x : ℕ) → x < m
      → at (filled (chosen_to p m) f n column) x ≡ (when among_first p n x then f (count_to p x) else at column x)
  unfolding among_first
  filled_chosen m f column len room x l =
      case_bool (among_first p n x)
      (λ t.
      let r = among_rank x t in
      let e = chosen_at p 0 m x l (among_passes x t) in
      rw e at
      (filled_at (chosen_to p m) f n column (λ a b h k q. let z = chosen_rises p 0 m a b h (omega arith) in omega arith) (λ a h. rw len (chosen_below p 0 m a (omega arith)))
      (count_to p x) r)
      ∙ sym (if_true (f (count_to p x)) (at column x) t))
      (λ g.
      filled_other (chosen_to p m) f n column x
      (λ i k e.
      let c = chosen_place p 0 m i (omega arith) in
      let t = rw e at (chosen_passes p 0 m i (omega arith)) in
      let d : count_to p x ≡ i = rw e at c in
      true_not_false (and_both t (lt-ltb (count_to p x) n (omega arith))) g)
      ∙ sym (if_false (f (count_to p x)) (at column x) g))

-- The stretch of b places from a on, written anew.

module _ (l m : List ℕ) (a b : ℕ) (size : length m ≡ b) (fits : a + b ≤ length l) where
  front : length (take a l) ≡ a
  front = length-take a l ∙ omega arith

  pub spliced_before : (x : ℕ) → x < a → at (take a l ++ m ++ drop (a + b) l) x ≡ at l x
  spliced_before x h =
      let k : x < length (take a l ++ m) = rw (length-append, front) (omega arith) in
      let j : x < length (take a l) = rw front h in
      get_or-append (take a l ++ m) (drop (a + b) l) 0 x k ∙ get_or-append (take a l) m 0 x j ∙ get_or-take a l x 0 h

  pub spliced_at : (i : ℕ) → i < b → at (take a l ++ m ++ drop (a + b) l) (a + i) ≡ at m i
  spliced_at i h =
      let k : a + i < length (take a l ++ m) = rw (length-append, front) (omega arith) in
      get_or-append (take a l ++ m) (drop (a + b) l) 0 (a + i) k ∙ rw front at (get_or-append-add (take a l) m i 0)

  pub spliced_after : (x : ℕ) → a + b ≤ x → at (take a l ++ m ++ drop (a + b) l) x ≡ at l x
  spliced_after x h =
      let i = x - (a + b) in
      let e : length (take a l ++ m) ≡ a + b = length-append (take a l) m ∙ rw (front, size) in
      let q : a + b + i ≡ x = omega arith in
      rw (e, q) at (get_or-append-add (take a l ++ m) (drop (a + b) l) i 0) ∙ rw q at (get_or-drop (a + b) l i 0)

  pub length_spliced : length (take a l ++ m ++ drop (a + b) l) ≡ length l
  length_spliced = rw (length-append, length-append, front, size, length-drop) (omega arith)

-- The places of job j in the column of orders.

module _ (column : List ℕ) (j : ℕ) (order : List ℕ) (len : length column ≡ 1024) (below : j < 32) (few : length order ≤ 32) where
  pub length_with_order : length (with_order column j order) ≡ 1024
  unfolding with_order
  length_with_order = length_spliced column (padded 32 order) (32 * j) 32 (length_padded 32 order few) (omega arith) ∙ len

  pub with_order_at : (i : ℕ) → i < 32 → at (with_order column j order) (32 * j + i) ≡ at order i
  unfolding with_order
  with_order_at i h =
      spliced_at column (padded 32 order) (32 * j) 32 (length_padded 32 order few) (omega arith) i h ∙ get_or_padded 32 order i

  pub with_order_other : (k i : ℕ) → k ≢ j → i < 32 → at (with_order column j order) (32 * k + i) ≡ at column (32 * k + i)
  unfolding with_order
  with_order_other k i ne h = elim (dec_lt k j) [
    | yes l ↦ spliced_before column (padded 32 order) (32 * j) 32 (length_padded 32 order few) (omega arith) (32 * k + i) (omega arith)
    | no l ↦ spliced_after column (padded 32 order) (32 * j) 32 (length_padded 32 order few) (omega arith) (32 * k + i) (omega arith)
  ]
