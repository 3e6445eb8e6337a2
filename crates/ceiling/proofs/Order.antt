-- The list's order against the order of taking: a later row stands ahead of an earlier one only below it.
use Prim.Native.Nat.{ℕ, zero, suc, ◌≤◌, ◌<◌, min}
use mathlib.Core.Path.{◌≡◌, refl, subst}
use mathlib.Core.Logic.{◌⊎◌, inl, inr, ◌≢◌}
use native.Mathlib.Nat.{suc_inj, le_refl, le_trans}
use native.Mathlib.Decide.{dec_lt}
use native.Mathlib.Omega.{arith}
use Rattle.laws.proofs.Update.{at_or_off, upd_same, upd_other, upd_below, upd_all}
use Rattle.ceiling.specs.Columns.{Columns}
use Rattle.ceiling.specs.Steps.{Preempting, add_row, preempt}
use Rattle.ceiling.proofs.Forest.{Forest, used_other}

-- low is the least row along the names
pub record Low (g : Columns) : Type 0 where
  pub alone : (r : ℕ) → r < g.rows → g.names r ≡ 0 → g.low r ≡ r
  pub under : (r y : ℕ) → r < g.rows → g.names r ≡ suc y → g.low r ≡ min r (g.low y)

pub record Order (g : Columns) (Ahead : ℕ → ℕ → Type 0) : Type 0 where
  pub within : (k j : ℕ) → Ahead k j → (k < g.rows) × (j < g.rows)
  pub below : (k j : ℕ) → Ahead k j → j < k → g.low k ≤ j

pub low_self : {g : Columns} → Low g → (r : ℕ) → r < g.rows → g.low r ≤ r
low_self {g} w r l = go (g.names r) refl
  where
    go : (k : ℕ) → g.names r ≡ k → g.low r ≤ r
    go zero e = omega (arith, w.alone r l e)
    go (suc y) e = omega (arith, w.under r y l e)

-- rows leave
pub order_leave : {g : Columns} {Ahead Ahead' : ℕ → ℕ → Type 0} → Order g Ahead → ((a b : ℕ) → Ahead' a b → Ahead a b) → Order g Ahead'
order_leave o h = record { within = λ a b q. o.within a b (h a b q); below = λ a b q. o.below a b (h a b q) }

module _ {cost : ℕ → ℕ} {g : Columns} (f : Forest cost g) (w : Low g) where
  pub low_add : (t k : ℕ) → Low (add_row g t k)
  low_add t k = record {
    alone = at_or_off _ g.rows (λ l e. simp upd_same) (λ r h l e. simp upd_other (w.alone r (omega arith) (simp upd_other at e)));
    under = at_or_off _ g.rows (λ y l e. let z = simp upd_same at e in omega arith) (λ r h y l e. older r y (omega arith) (simp upd_other at e));
  }
    where
      older : (r y : ℕ) → r < g.rows → g.names r ≡ suc y → (add_row g t k).low r ≡ min r ((add_row g t k).low y)
      older r y l e = let i : y < g.rows = (f.named r y l e).inside in simp upd_below (w.under r y l e)

  module _ {x y m : ℕ} (p : Preempting cost g x y m) where
    pub low_preempt : Low (preempt g x y m)
    low_preempt = record {
      alone = at_or_off _ x (λ l e. let z = simp upd_same at e in omega arith) (λ r h l e. simp upd_other (w.alone r l (simp upd_other at e)));
      under = at_or_off _ x (λ z l e. subst (λ z. (preempt g x y m).low x ≡ min x ((preempt g x y m).low z)) (suc_inj (simp upd_same at e)) new) (λ r h z l e. old r z h l (simp upd_other at e));
    }
      where
        new : (preempt g x y m).low x ≡ min x ((preempt g x y m).low y)
        new = let h = used_other f p y p.used in simp (upd_same, upd_other)

        old : (r z : ℕ) → r ≢ x → r < g.rows → g.names r ≡ suc z → (preempt g x y m).low r ≡ min r ((preempt g x y m).low z)
        old r z h l e = let o = used_other f p z (f.named r z l e).used in simp upd_other (w.under r z l e)

    low_falls : (r : ℕ) → (preempt g x y m).low r ≤ g.low r
    low_falls = upd_all (λ r v. v ≤ g.low r) g.low x (min x (g.low y)) (omega (arith, w.alone x p.inside p.unnaming)) (λ r h. le_refl _)

  module _ {Ahead Ahead' : ℕ → ℕ → Type 0} (o : Order g Ahead) where
    -- a new row goes to the end
    pub order_add : (t k : ℕ) → ((a b : ℕ) → Ahead' a b → Ahead a b ⊎ ((b ≡ g.rows) × (a < g.rows))) → Order (add_row g t k) Ahead'
    order_add t k h = record { within = λ a b q. inside a b (h a b q); below = λ a b q l. low a b l (h a b q) }
      where
        inside : (a b : ℕ) → Ahead a b ⊎ ((b ≡ g.rows) × (a < g.rows)) → (a < suc g.rows) × (b < suc g.rows)
        inside a b (inl q) = let i = o.within a b q in omega arith
        inside a b (inr q) = omega arith

        low : (a b : ℕ) → b < a → Ahead a b ⊎ ((b ≡ g.rows) × (a < g.rows)) → (add_row g t k).low a ≤ b
        low a b l (inl q) = let i : a < g.rows = (o.within a b q).0 in simp upd_below (o.below a b q l)
        low a b l (inr q) = omega arith

    -- row x goes directly before row y
    pub order_preempt : {x y m : ℕ} → Preempting cost g x y m → ((a b : ℕ) → Ahead' a b → Ahead a b ⊎ ((a ≡ x) × ((b ≡ y) ⊎ Ahead y b))) → Order (preempt g x y m) Ahead'
    order_preempt {x} {y} {m} p h = record { within = λ a b q. inside a b (h a b q); below = λ a b q l. low a b l (h a b q) }
      where
        behind : (b : ℕ) → (b ≡ y) ⊎ Ahead y b → (b < g.rows) × (g.low y ≤ b)
        behind b (inl e) = omega (arith, p.other, low_self w y p.other)
        behind b (inr q) = ((o.within y b q).1, elim (dec_lt b y) [ yes l ↦ o.below y b q l | no l ↦ omega (arith, low_self w y p.other) ])

        inside : (a b : ℕ) → Ahead a b ⊎ ((a ≡ x) × ((b ≡ y) ⊎ Ahead y b)) → (a < g.rows) × (b < g.rows)
        inside a b (inl q) = o.within a b q
        inside a b (inr q) = let i = (behind b q.1).0 in omega arith

        low : (a b : ℕ) → b < a → Ahead a b ⊎ ((a ≡ x) × ((b ≡ y) ⊎ Ahead y b)) → (preempt g x y m).low a ≤ b
        low a b l (inl q) = le_trans (low_falls p a) (o.below a b q l)
        low a b l (inr q) = let i = (behind b q.1).1 in rw (q.0, upd_same) (omega arith)
