-- Rows that name rows: no cycles, and what a row has sold is at most its part.
use Prim.Native.Nat.{ℕ, suc, ◌+◌, ◌*◌, ◌≤◌, ◌<◌, min}
use mathlib.Core.Path.{◌≡◌, refl, sym, ap, subst, ◌∙◌}
use mathlib.Core.Logic.{◌≢◌}
use native.Mathlib.Nat.{suc_inj, le_refl, le_trans}
use native.Mathlib.Omega.{arith}
use lib.Dec.{eqb}
use borrow.Author.Tests.{eqb-true, eq-eqb, ne_eqb}
use Rattle.laws.specs.Bools.{when◌then◌else◌}
use Rattle.laws.specs.Range.{sum_to}
use Rattle.laws.specs.Update.{upd}
use Rattle.laws.proofs.Bools.{if_true, if_false}
use Rattle.laws.proofs.Update.{at_or_off, upd_same, upd_other, upd_below}
use Rattle.laws.proofs.Sum.{sum_if_zero, sum_change, sum_grow}
use Rattle.ceiling.specs.Columns.{Columns, sold, namers}
use Rattle.ceiling.specs.Steps.{Preempting, Picking, add_row, preempt, pick, lessen}

-- what holds of a row r that names y
pub record Named (cost : ℕ → ℕ) (g : Columns) (r y : ℕ) : Type 0 where
  pub inside : y < g.rows
  pub same : g.transport y ≡ g.transport r
  pub dear : 2 ≤ cost (g.transport y)
  pub used : 1 ≤ g.picked y
  pub deeper : g.depth r ≡ suc (g.depth y)

pub record Forest (cost : ℕ → ℕ) (g : Columns) : Type 0 where
  pub room : (r : ℕ) → r < g.rows → g.picked r + g.waiting r ≤ g.cap r
  pub fits : (r : ℕ) → r < g.rows → g.cap r ≤ g.n r
  pub named : (r y : ℕ) → r < g.rows → g.names r ≡ suc y → Named cost g r y
  pub paid : (y : ℕ) → y < g.rows → cost (g.transport y) * sold g y ≤ g.cap y
  pub deep : (r : ℕ) → r < g.rows → g.depth r ≤ namers g

-- row x, which named nobody, names y now: v' at x is added to what y's namers have
pub named_sum : (names v v' : ℕ → ℕ) (x y rows : ℕ) → x < rows → names x ≡ 0 → ((i : ℕ) → i ≢ x → v' i ≡ v i) → (z : ℕ)
    → sum_to (λ r. when eqb (upd names x (suc y) r) (suc z) then v' r else 0) rows
    ≡ sum_to (λ r. when eqb (names r) (suc z) then v r else 0) rows + (when eqb (suc y) (suc z) then v' x else 0)
named_sum names v v' x y rows l e h z =
    let c = sum_change (λ r. when eqb (names r) (suc z) then v r else 0) (λ r. when eqb (upd names x (suc y) r) (suc z) then v' r else 0) x rows l (λ i k o. rw (upd_other names x (suc y) i o, h i o)) in
    let old = if_false (v x) 0 (ne_eqb (names x) (suc z) (omega arith)) in
    omega (arith, rw upd_same at c)

module _ {cost : ℕ → ℕ} {g : Columns} (f : Forest cost g) where
  -- a row that nobody names has sold nothing
  unsold : (y : ℕ) → ((r : ℕ) → r < g.rows → g.names r ≢ suc y) → sold g y ≡ 0
  unsold y h = sum_if_zero _ _ g.rows (λ r l e. absurd (h r l (eqb-true _ _ e)))

  -- a row that was never picked from is named by nobody
  pub unpicked_unnamed : (x : ℕ) → g.picked x ≡ 0 → (r : ℕ) → r < g.rows → g.names r ≢ suc x
  unpicked_unnamed x z r l e = let h = (f.named r x l e).used in omega arith

  pub sold_add : (t k y : ℕ) → sold (add_row g t k) y ≡ sold g y
  sold_add t k y = sum_grow _ _ g.rows (λ i l. simp upd_below) (if_false _ _ (simp upd_same (ne_eqb 0 (suc y) (omega arith))))

  -- nobody names the new row
  pub sold_add_new : (t k : ℕ) → sold (add_row g t k) g.rows ≡ 0
  sold_add_new t k = sold_add t k g.rows ∙ unsold g.rows (λ r l e. let h = (f.named r g.rows l e).inside in omega arith)

  namers_add : (t k : ℕ) → namers (add_row g t k) ≡ namers g
  namers_add t k = sum_grow _ _ g.rows (λ i l. simp upd_below) (simp upd_same (omega arith))

  pub forest_add : (t k : ℕ) → Forest cost (add_row g t k)
  forest_add t k = record {
    room = at_or_off _ g.rows (λ l. simp upd_same (omega arith)) (λ r h l. simp upd_other (f.room r (omega arith)));
    fits = at_or_off _ g.rows (λ l. simp upd_same (omega arith)) (λ r h l. simp upd_other (f.fits r (omega arith)));
    named = at_or_off _ g.rows (λ y l e. let z = simp upd_same at e in omega arith) (λ r h y l e. older r y h (omega arith) (simp upd_other at e));
    paid = at_or_off _ g.rows (λ l. rw sold_add_new (omega arith)) (λ y h l. rw sold_add (simp upd_other (f.paid y (omega arith))));
    deep = at_or_off _ g.rows (λ l. simp upd_same (omega arith)) (λ r h l. rw namers_add (simp upd_other (f.deep r (omega arith))));
  }
    where
      older : (r y : ℕ) → r ≢ g.rows → r < g.rows → g.names r ≡ suc y → Named cost (add_row g t k) r y
      older r y h l e =
          let m = f.named r y l e in
          let i : y < g.rows = m.inside in
          record {
            inside = omega arith;
            same = simp (upd_below) m.same;
            dear = simp (upd_below) m.dear;
            used = simp (upd_below) m.used;
            deeper = simp (upd_below) m.deeper;
          }

  module _ {x y m : ℕ} (p : Preempting cost g x y m) where
    sold_preempt : (z : ℕ) → sold (preempt g x y m) z ≡ sold g z + (when eqb (suc y) (suc z) then m else 0)
    sold_preempt z = named_sum g.names g.cap (upd g.cap x m) x y g.rows p.inside p.unnaming (λ i h. upd_other _ _ _ i h) z ∙ simp upd_same

    pub sold_preempt_own : sold (preempt g x y m) y ≡ sold g y + m
    sold_preempt_own = rw (sold_preempt, if_true _ _ (eq-eqb (suc y) (suc y) refl))

    pub sold_preempt_other : (z : ℕ) → z ≢ y → sold (preempt g x y m) z ≡ sold g z
    sold_preempt_other z h = rw (sold_preempt, if_false _ _ (ne_eqb (suc y) (suc z) (λ e. h (sym (suc_inj e))))) (omega arith)

    namers_preempt : namers (preempt g x y m) ≡ suc (namers g)
    namers_preempt =
        let c = sum_change (λ r. min 1 (g.names r)) (λ r. min 1 (upd g.names x (suc y) r)) x g.rows p.inside (λ i k o. rw (upd_other g.names x (suc y) i o)) in
        omega (arith, rw upd_same at c)

    pub used_other : (z : ℕ) → 1 ≤ g.picked z → z ≢ x
    used_other z u e = let k = ap g.picked e in omega arith

    pub forest_preempt : Forest cost (preempt g x y m)
    forest_preempt = record {
      room = at_or_off _ x (λ l. simp upd_same (omega arith)) (λ r h l. simp upd_other (f.room r l));
      fits = at_or_off _ x (λ l. let h = f.room x l in let k = f.fits x l in simp upd_same (omega arith)) (λ r h l. simp upd_other (f.fits r l));
      named = at_or_off _ x (λ z l e. subst (λ z. Named cost (preempt g x y m) x z) (suc_inj (simp upd_same at e)) new) (λ r h z l e. old r z h l (simp upd_other at e));
      paid = at_or_off _ x (λ l. rw (sold_preempt_other x (λ e. used_other y p.used (sym e)), unsold x (unpicked_unnamed x p.unpicked)) (omega arith)) (λ z h l. simp upd_other (still z l));
      deep = at_or_off _ x (λ l. rw namers_preempt (simp upd_same (omega (arith, f.deep y p.other)))) (λ r h l. rw namers_preempt (simp upd_other (omega (arith, f.deep r l))));
    }
      where
        new : Named cost (preempt g x y m) x y
        new =
            let h = used_other y p.used in
            record { inside = p.other; same = sym p.same; dear = p.dear; used = p.used; deeper = simp (upd_same, upd_other) }

        old : (r z : ℕ) → r ≢ x → r < g.rows → g.names r ≡ suc z → Named cost (preempt g x y m) r z
        old r z h l e =
            let k = f.named r z l e in
            let o = used_other z k.used in
            record { inside = k.inside; same = k.same; dear = k.dear; used = k.used; deeper = simp upd_other k.deeper }

        still : (z : ℕ) → z < g.rows → cost (g.transport z) * sold (preempt g x y m) z ≤ g.cap z
        still = at_or_off _ y (λ l. rw sold_preempt_own (omega (arith, p.pays, f.room y l))) (λ z h l. rw (sold_preempt_other z h) (f.paid z l))

  module _ {Ahead : ℕ → ℕ → Type 0} {x k : ℕ} {past : ℕ → ℕ} (p : Picking g Ahead x k past) where
    pub forest_pick : Forest cost (pick g x k past)
    forest_pick = record {
      room = at_or_off _ x (λ l. simp upd_same (omega (arith, p.waits, f.room x l))) (λ r h l. simp upd_other (f.room r l));
      fits = f.fits;
      named = λ r z l e. let h = f.named r z l e in record { inside = h.inside; same = h.same; dear = h.dear; used = le_trans h.used (picked_more z); deeper = h.deeper };
      paid = f.paid;
      deep = f.deep;
    }
      where
        picked_more : (z : ℕ) → g.picked z ≤ (pick g x k past).picked z
        picked_more = at_or_off _ x (simp upd_same (omega arith)) (λ r h. simp upd_other (le_refl _))

  pub forest_lessen : (w : ℕ → ℕ) → ((r : ℕ) → r < g.rows → w r ≤ g.waiting r) → Forest cost (lessen g w)
  forest_lessen w h = record {
    room = λ r l. omega (arith, h r l, f.room r l);
    fits = f.fits;
    named = λ r z l e. let k = f.named r z l e in record { inside = k.inside; same = k.same; dear = k.dear; used = k.used; deeper = k.deeper };
    paid = f.paid;
    deep = f.deep;
  }
