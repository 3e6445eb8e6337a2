-- Overtakers: at most what those that name a row have bought, and c times them at most the row's part and themselves.
use Prim.Native.Nat.{ℕ, zero, suc, ◌+◌, ◌*◌, ◌≤◌, ◌<◌}
use mathlib.Core.Path.{◌≡◌, refl, subst}
use mathlib.Core.Logic.{◌≢◌}
use mathlib.Core.Bool.{Bool, true, false}
use native.Mathlib.Nat.{le_refl, le_trans, suc_inj, mul-le-mul_left}
use native.Mathlib.Omega.{arith}
use lib.Dec.{eqb}
use borrow.Author.Tests.{eqb-true, eq-eqb, ne_eqb}
use Rattle.laws.specs.Bools.{when◌then◌else◌}
use Rattle.laws.specs.Chain.{along_chain}
use Rattle.laws.specs.Update.{upd}
use Rattle.laws.proofs.Bools.{if_true, if_false}
use Rattle.laws.proofs.Update.{at_or_off, upd_same, upd_other, upd_below, upd_all}
use Rattle.laws.proofs.Sum.{sum_le, sum_add, sum_mul, sum_if_le, sum_if_zero, sum_change, sum_grow}
use Rattle.ceiling.specs.Columns.{Columns, bought}
use Rattle.ceiling.specs.Steps.{Preempting, overtake, add_row, preempt}
use Rattle.ceiling.proofs.Forest.{Forest, named_sum, unpicked_unnamed, used_other, forest_preempt}

pub record Overtaken (cost : ℕ → ℕ) (g : Columns) (over : ℕ → ℕ) : Type 0 where
  pub sums : (y : ℕ) → y < g.rows → over y ≤ bought g over y
  pub paid : (y : ℕ) → y < g.rows → cost (g.transport y) * over y ≤ g.cap y + over y

-- the bound passes to what is less
smaller : (c a b p : ℕ) → a ≤ b → c * b ≤ p + b → c * a ≤ p + a
smaller zero a b p l k = omega arith
smaller (suc d) a b p l k = omega (arith, mul-le-mul_left d l)

-- one namer's part and overtakers, against its part alone
paid_part : (b : Bool) (c a o : ℕ) → (b ≡ true → c * o ≤ a + o) → c * (when b then a + o else 0) ≤ c * (when b then a else 0) + (when b then a + o else 0)
unfolding when◌then◌else◌
paid_part true c a o h = omega (arith, h refl)
paid_part false c a o h = omega arith

module _ {cost : ℕ → ℕ} {g : Columns} (f : Forest cost g) where
  -- nobody names it
  unbought : (over : ℕ → ℕ) (y : ℕ) → ((r : ℕ) → r < g.rows → g.names r ≢ suc y) → bought g over y ≡ 0
  unbought over y h = sum_if_zero _ _ g.rows (λ r l e. absurd (h r l (eqb-true _ _ e)))

  module _ (over : ℕ → ℕ) (o : Overtaken cost g over) where
    -- what y's namers have bought is paid for by y and by themselves
    bought_paid : (y : ℕ) → y < g.rows → cost (g.transport y) * bought g over y ≤ g.cap y + bought g over y
    bought_paid y l =
        omega (arith, sum_mul c all g.rows, sum_le (λ r. c * all r) (λ r. c * part r + all r) g.rows each, sum_add (λ r. c * part r) all g.rows, sum_mul c part g.rows, f.paid y l)
      where
        c : ℕ
        c = cost (g.transport y)

        part : ℕ → ℕ
        part r = when eqb (g.names r) (suc y) then g.cap r else 0

        all : ℕ → ℕ
        all r = when eqb (g.names r) (suc y) then g.cap r + over r else 0

        each : (r : ℕ) → r < g.rows → c * all r ≤ c * part r + all r
        each r k = paid_part _ c (g.cap r) (over r) (λ e. let h = (f.named r y k (eqb-true _ _ e)).same in rw h (o.paid r k))

    module _ (m z : ℕ) (l : z < g.rows) (h : over z + m ≤ bought g over z) where
      -- with m more overtakers at z
      bought_more : (y : ℕ) → bought g over y ≤ bought g (overtake m z over) y
      bought_more y = sum_if_le _ _ _ _ g.rows (λ r k e. (e, upd_all (λ r v. g.cap r + over r ≤ g.cap r + v) over z (over z + m) (omega arith) (λ i q. le_refl _) r))

      bought_named : (y : ℕ) → g.names z ≡ suc y → bought g (overtake m z over) y ≡ bought g over y + m
      bought_named y e =
          let t = eq-eqb (g.names z) (suc y) e in
          let c = sum_change (λ r. when eqb (g.names r) (suc y) then g.cap r + over r else 0)
          (λ r. when eqb (g.names r) (suc y) then g.cap r + overtake m z over r else 0) z g.rows l (λ i k q. rw (upd_other over z (over z + m) i q)) in
          omega (arith, simp (upd_same, if_true) at c)

      overtaken_more : Overtaken cost g (overtake m z over)
      overtaken_more = record {
        sums = upd_all (λ y v. y < g.rows → v ≤ bought g (overtake m z over) y) over z (over z + m) (λ k. le_trans h (bought_more z)) (λ y q k. le_trans (o.sums y k) (bought_more y));
        paid = upd_all (λ y v. y < g.rows → cost (g.transport y) * v ≤ g.cap y + v) over z (over z + m) (λ k. smaller _ _ _ _ h (bought_paid z l)) (λ y q k. o.paid y k);
      }

      next_more : (y : ℕ) → g.names z ≡ suc y → (y < g.rows) × (overtake m z over y + m ≤ bought g (overtake m z over) y)
      next_more y e =
          let i : y < g.rows = (f.named z y l e).inside in
          let u = upd_all (λ y v. y < g.rows → v ≤ bought g over y) over z (over z + m) (λ k. h) (λ y q k. o.sums y k) y i in
          (i, rw (bought_named y e) (omega arith))

  walk : (m n link : ℕ) (over : ℕ → ℕ) → Overtaken cost g over → ((z : ℕ) → link ≡ suc z → (z < g.rows) × (over z + m ≤ bought g over z))
      → Overtaken cost g (along_chain g.names (overtake m) n link over)
  unfolding along_chain
  walk m zero link over o h = o
  walk m (suc n) zero over o h = o
  walk m (suc n) (suc z) over o h =
      let k = h z refl in
      walk m n (g.names z) (overtake m z over) (overtaken_more over o m z k.0 k.1) (next_more over o m z k.0 k.1)

module _ {cost : ℕ → ℕ} {g : Columns} (f : Forest cost g) (o : Overtaken cost g g.over) where
  pub overtaken_add : (t k : ℕ) → Overtaken cost (add_row g t k) (add_row g t k).over
  overtaken_add t k = record {
    sums = at_or_off _ g.rows (λ l. simp upd_same (omega arith)) (λ y h l. rw bought_add (simp upd_other (o.sums y (omega arith))));
    paid = at_or_off _ g.rows (λ l. simp upd_same (omega arith)) (λ y h l. simp upd_other (o.paid y (omega arith)));
  }
    where
      bought_add : (y : ℕ) → bought (add_row g t k) (add_row g t k).over y ≡ bought g g.over y
      bought_add y = sum_grow _ _ g.rows (λ i l. simp upd_below) (if_false _ _ (simp upd_same (ne_eqb 0 (suc y) (omega arith))))

  pub overtaken_preempt : {x y m : ℕ} → Preempting cost g x y m → Overtaken cost (preempt g x y m) (preempt g x y m).over
  overtaken_preempt {x} {y} {m} p =
      walk (forest_preempt f p) m g.rows (suc y) g.over start (λ z e. subst (λ z. (z < g.rows) × (g.over z + m ≤ bought (preempt g x y m) g.over z)) (suc_inj e) (p.other, room))
    where
      bought_preempt : (z : ℕ) → bought (preempt g x y m) g.over z ≡ bought g g.over z + (when eqb (suc y) (suc z) then upd g.cap x m x + g.over x else 0)
      bought_preempt = named_sum g.names (λ r. g.cap r + g.over r) (λ r. upd g.cap x m r + g.over r) x y g.rows p.inside p.unnaming (λ i h. rw (upd_other g.cap x m i h))

      none : g.over x ≡ 0
      none = omega (arith, o.sums x p.inside, unbought f g.over x (unpicked_unnamed f x p.unpicked))

      start : Overtaken cost (preempt g x y m) g.over
      start = record {
        sums = λ z l. omega (arith, o.sums z l, bought_preempt z);
        paid = at_or_off _ x (λ l. rw none (omega arith)) (λ z h l. simp upd_other (o.paid z l));
      }

      room : g.over y + m ≤ bought (preempt g x y m) g.over y
      room = rw (bought_preempt, if_true _ _ (eq-eqb (suc y) (suc y) refl), upd_same) (omega (arith, o.sums y p.other))

  -- nobody names x, so the walk meets the names as they were before
  pub over_preempt : {x y m : ℕ} → Preempting cost g x y m → (preempt g x y m).over ≡ along_chain g.names (overtake m) g.rows (suc y) g.over
  unfolding along_chain
  over_preempt {x} {y} {m} p = same g.rows (suc y) g.over (λ z e. subst (λ z. (z < g.rows) × (z ≢ x)) (suc_inj e) (p.other, used_other f p y p.used))
    where
      same : (n link : ℕ) (over : ℕ → ℕ) → ((z : ℕ) → link ≡ suc z → (z < g.rows) × (z ≢ x))
          → along_chain (upd g.names x (suc y)) (overtake m) n link over ≡ along_chain g.names (overtake m) n link over
      same zero link over h = refl
      same (suc n) zero over h = refl
      same (suc n) (suc z) over h =
          let k = h z refl in
          rw (upd_other g.names x (suc y) z k.1) (same n (g.names z) (overtake m z over) (λ u e. let q = f.named z u k.0 e in (q.inside, used_other f p u q.used)))

  -- the ceilings
  pub over_paid : (j : ℕ) → j < g.rows → cost (g.transport j) * g.over j ≤ g.n j + g.over j
  over_paid j l = omega (arith, o.paid j l, f.fits j l)

  pub over_none : (j : ℕ) → j < g.rows → cost (g.transport j) ≡ 0 → g.over j ≡ 0
  over_none j l z = omega (arith, o.sums j l, unbought f g.over j (λ r k e. let h = (f.named r j k e).dear in omega arith))
