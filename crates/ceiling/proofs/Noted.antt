-- What is noted at a row's last pick stays right.
use Prim.Native.Nat.{ℕ, suc, ◌+◌, ◌≤◌, ◌<◌, zero-le}
use mathlib.Core.Path.{sym, ◌∙◌}
use native.Mathlib.Omega.{arith}
use Rattle.laws.proofs.Update.{at_or_off, upd_same, upd_other}
use Rattle.ceiling.specs.Columns.{Columns}
use Rattle.ceiling.specs.Steps.{Picking, add_row, pick}
use Rattle.ceiling.proofs.Forest.{Forest, forest_pick}
use Rattle.ceiling.proofs.Order.{Low, Order}
use Rattle.ceiling.proofs.Counts.{Counts, blocked_within, counts_pick, beyond_pick_self}
use Rattle.ceiling.proofs.DoubleCount.{Ceiling, count_ceiling}

pub record Noted (cost : ℕ → ℕ) (g : Columns) : Type 0 where
  pub ceiling : (j : ℕ) → j < g.rows → Ceiling (cost (g.transport j)) (g.last_pick j) (g.upto j) (g.last_blocked j)
  pub bounded : (j : ℕ) → j < g.rows → g.last_blocked j ≤ g.last_total j

module _ {cost : ℕ → ℕ} {g : Columns} (n : Noted cost g) where
  pub noted_add : (t k : ℕ) → Noted cost (add_row g t k)
  noted_add t k = record {
    ceiling = at_or_off _ g.rows (λ l. simp upd_same (record { dear = λ d. zero-le; free = λ z. zero-le })) (λ j h l. simp upd_other (n.ceiling j (omega arith)));
    bounded = at_or_off _ g.rows (λ l. simp upd_same (omega arith)) (λ j h l. simp upd_other (n.bounded j (omega arith)));
  }

  pub noted_pick : {Ahead : ℕ → ℕ → Type 0} {x k : ℕ} {by : ℕ → ℕ} → Forest cost g → Low g → Counts g → Order g Ahead → Picking g Ahead x k by → Noted cost (pick g x k by)
  noted_pick {x = x} {k} {by} f w c o p = record {
    ceiling = at_or_off _ x (λ l. simp upd_same own) (λ j h l. simp upd_other (n.ceiling j l));
    bounded = at_or_off _ x (λ l. simp upd_same (simp upd_same at (blocked_within after x l))) (λ j h l. simp upd_other (n.bounded j l));
  }
    where
      after : Counts (pick g x k by)
      after = counts_pick w c p o

      low : Low (pick g x k by)
      low = record { alone = w.alone; under = w.under }

      own : Ceiling (cost (g.transport x)) (suc (g.picks (g.transport x))) (g.upto x) (g.blocked x + by x)
      own =
          rw (sym (upd_same g.picks (g.transport x) (suc (g.picks (g.transport x)))) ∙ after.counted (g.transport x), after.sums x p.inside)
          (count_ceiling (forest_pick f p) low x (g.blocked x + by x) (omega (arith, beyond_pick_self w c p)))
