-- The invariant of the rows and their order, and that every step keeps it.
use Prim.Native.Nat.{ℕ, ◌≤◌, ◌<◌}
use mathlib.Core.Path.{◌≡◌, refl}
use mathlib.Core.Logic.{◌⊎◌}
use native.Mathlib.Nat.{not-suc-le-zero}
use native.Mathlib.Omega.{arith}
use Rattle.laws.specs.Range.{sum_to}
use Rattle.ceiling.specs.Columns.{Columns}
use Rattle.ceiling.specs.Steps.{Preempting, Picking, fresh, add_row, preempt, pick, lessen}
use Rattle.ceiling.proofs.Forest.{Forest, forest_add, forest_preempt, forest_pick, forest_lessen}
use Rattle.ceiling.proofs.Overtaken.{Overtaken, overtaken_add, overtaken_preempt}
use Rattle.ceiling.proofs.Order.{Low, Order, low_add, low_preempt, order_add, order_preempt, order_leave}
use Rattle.ceiling.proofs.Counts.{Counts, counts_add, counts_preempt, counts_pick, counts_lessen}
use Rattle.ceiling.proofs.Noted.{Noted, noted_add, noted_pick}

pub record Inv (cost : ℕ → ℕ) (g : Columns) (Ahead : ℕ → ℕ → Type 0) : Type 0 where
  pub forest : Forest cost g
  pub overtaken : Overtaken cost g g.over
  pub low : Low g
  pub order : Order g Ahead
  pub counts : Counts g
  pub noted : Noted cost g

pub inv_fresh : (cost : ℕ → ℕ) {Ahead : ℕ → ℕ → Type 0} → ((a b : ℕ) → Ahead a b → ⊥) → Inv cost fresh Ahead
unfolding sum_to
inv_fresh cost none = record {
  forest = record { room = λ r l. omega arith; fits = λ r l. omega arith; named = λ r y l. absurd (not-suc-le-zero l); paid = λ y l. omega arith; deep = λ r l. omega arith };
  overtaken = record { sums = λ y l. omega arith; paid = λ y l. omega arith };
  low = record { alone = λ r l. absurd (not-suc-le-zero l); under = λ r y l. absurd (not-suc-le-zero l) };
  order = record { within = λ a b q. absurd (none a b q); below = λ a b q. absurd (none a b q) };
  counts = record { counted = λ t. refl; behind = λ j l. absurd (not-suc-le-zero l); passed = λ t. refl; sums = λ j l. absurd (not-suc-le-zero l) };
  noted = record { ceiling = λ j l. absurd (not-suc-le-zero l); bounded = λ j l. omega arith };
}

module _ {cost : ℕ → ℕ} {g : Columns} {Ahead Ahead' : ℕ → ℕ → Type 0} (i : Inv cost g Ahead) where
  pub inv_add : (t k : ℕ) → ((a b : ℕ) → Ahead' a b → Ahead a b ⊎ ((b ≡ g.rows) × (a < g.rows))) → Inv cost (add_row g t k) Ahead'
  inv_add t k h = record {
    forest = forest_add i.forest t k;
    overtaken = overtaken_add i.forest i.overtaken t k;
    low = low_add i.forest i.low t k;
    order = order_add i.forest i.low i.order t k h;
    counts = counts_add i.low i.counts t k;
    noted = noted_add i.noted t k;
  }

  pub inv_preempt : {x y m : ℕ} → Preempting cost g x y m → ((a b : ℕ) → Ahead' a b → Ahead a b ⊎ ((a ≡ x) × ((b ≡ y) ⊎ Ahead y b))) → Inv cost (preempt g x y m) Ahead'
  inv_preempt p h = record {
    forest = forest_preempt i.forest p;
    overtaken = overtaken_preempt i.forest i.overtaken p;
    low = low_preempt i.forest i.low p;
    order = order_preempt i.forest i.low i.order p h;
    counts = counts_preempt i.low i.counts p;
    noted = record { ceiling = i.noted.ceiling; bounded = i.noted.bounded };
  }

  pub inv_leave : ((a b : ℕ) → Ahead' a b → Ahead a b) → Inv cost g Ahead'
  inv_leave h = record { forest = i.forest; overtaken = i.overtaken; low = i.low; order = order_leave i.order h; counts = i.counts; noted = i.noted }

module _ {cost : ℕ → ℕ} {g : Columns} {Ahead : ℕ → ℕ → Type 0} (i : Inv cost g Ahead) where
  pub inv_pick : {x k : ℕ} {past : ℕ → ℕ} → Picking g Ahead x k past → Inv cost (pick g x k past) Ahead
  inv_pick p = record {
    forest = forest_pick i.forest p;
    overtaken = record { sums = i.overtaken.sums; paid = i.overtaken.paid };
    low = record { alone = i.low.alone; under = i.low.under };
    order = record { within = i.order.within; below = i.order.below };
    counts = counts_pick i.low i.counts p i.order;
    noted = noted_pick i.noted i.forest i.low i.counts i.order p;
  }

  pub inv_lessen : (w : ℕ → ℕ) → ((r : ℕ) → r < g.rows → w r ≤ g.waiting r) → Inv cost (lessen g w) Ahead
  inv_lessen w h = record {
    forest = forest_lessen i.forest w h;
    overtaken = record { sums = i.overtaken.sums; paid = i.overtaken.paid };
    low = record { alone = i.low.alone; under = i.low.under };
    order = record { within = i.order.within; below = i.order.below };
    counts = counts_lessen i.low i.counts w h;
    noted = record { ceiling = i.noted.ceiling; bounded = i.noted.bounded };
  }
