-- Picks counted by row, and the picks that went past a waiting row.
use Prim.Native.Nat.{ℕ, suc, ◌+◌, ◌-◌, ◌≤◌, ◌<◌, zero-le}
use mathlib.Core.Path.{◌≡◌, refl, sym, ◌∙◌, ap, ap₂}
use mathlib.Core.Bool.{true, and-eq-true_iff}
use native.Mathlib.Nat.{le_refl, le_of_eq, le_trans}
use native.Mathlib.Omega.{arith}
use native.Mathlib.Decide.{dec_lt}
use lib.Dec.{eqb, ltb}
use borrow.Author.Tests.{eqb-true, ltb-true, eq-eqb}
use Rattle.laws.specs.Bools.{when◌then◌else◌, one}
use Rattle.laws.specs.Range.{sum_to}
use Rattle.laws.proofs.Bools.{if_true, if_same, if_add, one_within}
use Rattle.laws.proofs.Update.{at_or_off, upd_same, upd_other, upd_below, upd_all, upd_suc, upd_add}
use Rattle.laws.proofs.Sum.{sum_eq, sum_add, sum_suc, sum_term, sum_if_all, sum_if_zero, sum_if_suc, sum_grow}
use Rattle.ceiling.specs.Columns.{Columns, of_transport, above, beyond}
use Rattle.ceiling.specs.Steps.{Preempting, Picking, add_row, preempt, pick, lessen}
use Rattle.ceiling.proofs.Order.{Low, Order, low_self}

above_true : (g : Columns) (j r : ℕ) → above g j r ≡ true → (g.transport r ≡ g.transport j) × (j < g.low r)
above_true g j r e = let h = (and-eq-true_iff (eqb (g.transport r) (g.transport j)) (ltb j (g.low r))).0 e in (eqb-true _ _ h.0, ltb-true j (g.low r) h.1)

pub record Counts (g : Columns) : Type 0 where
  pub counted : (t : ℕ) → g.picks t ≡ of_transport g t g.picked g.rows
  pub behind : (j : ℕ) → j < g.rows → 1 ≤ g.waiting j → beyond g j ≤ g.blocked j
  pub passed : (t : ℕ) → g.total t ≡ of_transport g t g.blocked g.rows
  pub sums : (j : ℕ) → j < g.rows → g.upto j ≡ of_transport g (g.transport j) g.n (suc j)

-- a row's share of them is no more than all
pub blocked_within : {g : Columns} → Counts g → (j : ℕ) → j < g.rows → g.blocked j ≤ g.total (g.transport j)
blocked_within {g} c j l =
    rw (c.passed (g.transport j), ← if_true (g.blocked j) 0 (eq-eqb (g.transport j) (g.transport j) refl)) (sum_term _ j g.rows l)

module _ {g : Columns} (w : Low g) (c : Counts g) where
  pub counts_add : (t k : ℕ) → Counts (add_row g t k)
  counts_add t k = record {
    counted = λ u. c.counted u ∙ sym (sum_grow _ _ g.rows (λ i l. simp upd_below) (rw (upd_same g.picked) (if_same _ 0)));
    behind =
        at_or_off _ g.rows (λ l q. le_trans (le_of_eq (sum_if_zero _ _ (suc g.rows) new)) zero-le)
        (λ j h l q. rw (beyond_add j (omega arith)) (simp upd_other (c.behind j (omega arith) (simp upd_other at q))));
    passed = λ u. c.passed u ∙ sym (sum_grow _ _ g.rows (λ i l. simp upd_below) (rw (upd_same g.blocked) (if_same _ 0)));
    sums = at_or_off _ g.rows (λ l. simp (upd_same, sum_suc, own) (omega (arith, if_true k 0 (eq-eqb t t refl)))) (λ j h l. simp upd_other (c.sums j (omega arith) ∙ older j (omega arith)));
  }
    where
      -- no row's low lies above the new row
      new : (r : ℕ) → r < suc g.rows → above (add_row g t k) g.rows r ≡ true → (add_row g t k).picked r ≡ 0
      new = at_or_off _ g.rows (λ l e. upd_same _ _ _) (λ r h l e. let b = (above_true (add_row g t k) g.rows r e).1 in omega (arith, simp upd_other at b, low_self w r (omega arith)))

      own : sum_to (λ r. when eqb ((add_row g t k).transport r) t then (add_row g t k).n r else 0) g.rows ≡ of_transport g t g.n g.rows
      own = sum_eq _ _ g.rows (λ i l. simp upd_below)

      older : (j : ℕ) → j < g.rows → of_transport g (g.transport j) g.n (suc j) ≡ of_transport (add_row g t k) (g.transport j) (add_row g t k).n (suc j)
      older j q = sum_eq _ _ (suc j) (λ i l. let b : i < g.rows = omega arith in simp upd_below)

      beyond_add : (j : ℕ) → j < g.rows → beyond (add_row g t k) j ≡ beyond g j
      beyond_add j q = sum_grow _ _ g.rows (λ i l. simp upd_below) (rw (upd_same g.picked) (if_same _ 0))

  pub counts_preempt : {cost : ℕ → ℕ} {x y m : ℕ} → Preempting cost g x y m → Counts (preempt g x y m)
  counts_preempt {x = x} {y} {m} p = record { counted = c.counted; behind = λ j l q. rw beyond_preempt (c.behind j l q); passed = c.passed; sums = c.sums }
    where
      each : (j i : ℕ) → (when above (preempt g x y m) j i then g.picked i else 0) ≡ (when above g j i then g.picked i else 0)
      each j = at_or_off _ x (rw p.unpicked (if_same _ 0 ∙ sym (if_same _ 0))) (λ r h. simp upd_other)

      beyond_preempt : (j : ℕ) → beyond (preempt g x y m) j ≡ beyond g j
      beyond_preempt j = sum_eq _ _ g.rows (λ i l. each j i)

  module _ {Ahead : ℕ → ℕ → Type 0} {x k : ℕ} {by : ℕ → ℕ} (p : Picking g Ahead x k by) where
    beyond_pick : (j : ℕ) → beyond (pick g x k by) j ≡ beyond g j + one (above g j x)
    beyond_pick j = sum_if_suc _ g.picked x g.rows p.inside

    pub beyond_pick_self : beyond (pick g x k by) x ≤ g.blocked x
    beyond_pick_self = omega (arith, beyond_pick x, c.behind x p.inside p.waits, one_within (above g x x) 0 (λ e. omega (arith, (above_true g x x e).1, low_self w x p.inside)))

    pub counts_pick : Order g Ahead → Counts (pick g x k by)
    unfolding one
    counts_pick o = record {
      counted = λ t. omega (arith, upd_suc g.picks (g.transport x) t, sum_if_suc (λ r. eqb (g.transport r) t) g.picked x g.rows p.inside, c.counted t);
      behind = λ j l q. let v = le_trans q (waits_less j) in omega (arith, beyond_pick j, c.behind j l v, one_within (above g j x) (by j) (λ e. seen j l v (above_true g j x e)));
      passed = grown;
      sums = c.sums;
    }
      where
        waits_less : (j : ℕ) → (pick g x k by).waiting j ≤ g.waiting j
        waits_less = upd_all (λ j v. v ≤ g.waiting j) g.waiting x (g.waiting x - 1) (omega arith) (λ j h. le_refl _)

        -- a waiting row below the low of x was passed
        seen : (j : ℕ) → j < g.rows → 1 ≤ g.waiting j → (g.transport x ≡ g.transport j) × (j < g.low x) → 1 ≤ by j
        seen j l v h = elim (dec_lt 0 (by j)) [
          | yes q ↦ q
          | no q ↦
              let s = low_self w x p.inside in
              let a = p.first j l (sym h.0) v (omega arith) (omega arith) in
              absurd (omega (arith, o.below x j a (omega arith)))
        ]

        -- the rows gone past are all of x's transport
        grown : (t : ℕ) → (pick g x k by).total t ≡ of_transport (pick g x k by) t (pick g x k by).blocked g.rows
        grown t =
            upd_add g.total (g.transport x) k t
            ∙ ap₂ ◌+◌ (c.passed t) (ap (λ n. when eqb (g.transport x) t then n else 0) (sym p.number) ∙ sym (sum_if_all (eqb (g.transport x) t) by g.rows))
            ∙ sym (sum_add _ _ g.rows)
            ∙ sum_eq _ _ g.rows (λ r l. sym (if_add (eqb (g.transport r) t) (eqb (g.transport x) t) (g.blocked r) (by r) (λ q. ap (λ v. eqb v t) (p.same r l q))))

  pub counts_lessen : (v : ℕ → ℕ) → ((r : ℕ) → r < g.rows → v r ≤ g.waiting r) → Counts (lessen g v)
  counts_lessen v h = record { counted = c.counted; behind = λ j l q. c.behind j l (le_trans q (h j l)); passed = c.passed; sums = c.sums }
