-- The picks of a transport at a moment when row j has just been picked from, counted twice: by the rows that come before j or are below such a row, and by the rows that these name.
use Prim.Native.Nat.{ℕ, zero, suc, ◌+◌, ◌*◌, ◌-◌, ◌/◌, ◌≤◌, ◌<◌}
use mathlib.Core.Path.{◌≡◌, refl, sym, ◌∙◌}
use mathlib.Core.Bool.{Bool, true, false, ◌&&◌, and-eq-true_iff}
use native.Mathlib.Nat.{le_of_eq, le_trans, mul-le-mul_left, le-div_iff_mul-le}
use native.Mathlib.Decide.{dec_lt}
use native.Mathlib.Omega.{arith}
use lib.Dec.{eqb, ltb, leb}
use borrow.Author.Tests.{eqb-true, ltb-true, leb-true, eq-eqb, lt-ltb, le-leb}
use Rattle.laws.specs.Bools.{when◌then◌else◌}
use Rattle.laws.specs.Range.{sum_to}
use Rattle.laws.proofs.Bools.{if_true, if_cases}
use Rattle.laws.proofs.Sum.{sum_le, sum_eq, sum_le_add, sum_mul, sum_swap, sum_term, sum_if_zero, sum_if_all, sum_below}
use Rattle.ceiling.specs.Columns.{Columns, sold, of_transport, above, beyond}
use Rattle.ceiling.proofs.Forest.{Forest}
use Rattle.ceiling.proofs.Order.{Low}

-- c * x ≤ a + x, divided
pub div_ceiling : (c x a : ℕ) → 2 ≤ c → c * x ≤ a + x → x ≤ a / (c - 1)
div_ceiling c x a h k = less (c - 1) (omega arith) (let e : c ≡ suc (c - 1) = omega arith in rw (← e) k)
  where
    less : (d : ℕ) → 1 ≤ d → suc d * x ≤ a + x → x ≤ a / d
    less d q r = (le-div_iff_mul-le {k = d} {x = x} {y = a} q).1 (omega arith)

-- p is at most u, a share of u by the cost c, and b
pub record Ceiling (c p u b : ℕ) : Type 0 where
  pub dear : 2 ≤ c → p ≤ u + u / (c - 1) + b
  pub free : c ≡ 0 → p ≤ u + b

scaled : (b : Bool) (c s a : ℕ) → (b ≡ true → c * s ≤ a) → c * (when b then s else 0) ≤ (when b then a else 0)
unfolding when◌then◌else◌
scaled true c s a h = h refl
scaled false c s a h = omega arith

-- of j's transport, and at or below a row that is not after j
near : Columns → ℕ → ℕ → Bool
near g j r = eqb (g.transport r) (g.transport j) && leb (g.low r) j

later : Columns → ℕ → ℕ → Bool
later g j r = near g j r && ltb j r

module _ (g : Columns) (j r : ℕ) where
  near_true : near g j r ≡ true → (g.transport r ≡ g.transport j) × (g.low r ≤ j)
  unfolding near
  near_true e = let h = (and-eq-true_iff (eqb (g.transport r) (g.transport j)) (leb (g.low r) j)).0 e in (eqb-true _ _ h.0, leb-true _ _ h.1)

  near_of : g.transport r ≡ g.transport j → g.low r ≤ j → near g j r ≡ true
  unfolding near
  near_of e l = (and-eq-true_iff (eqb (g.transport r) (g.transport j)) (leb (g.low r) j)).1 (eq-eqb _ _ e, le-leb _ _ l)

  later_true : later g j r ≡ true → (near g j r ≡ true) × (j < r)
  unfolding later
  later_true e = let h = (and-eq-true_iff (near g j r) (ltb j r)).0 e in (h.0, ltb-true _ _ h.1)

  later_of : near g j r ≡ true → j < r → later g j r ≡ true
  unfolding later
  later_of e l = (and-eq-true_iff (near g j r) (ltb j r)).1 (e, lt-ltb _ _ l)

-- cap over the near rows, and over those of them that come after j; what the near rows have sold
abbrev near_cap : Columns → ℕ → ℕ
near_cap g j = sum_to (λ r. when near g j r then g.cap r else 0) g.rows

abbrev later_cap : Columns → ℕ → ℕ
later_cap g j = sum_to (λ r. when later g j r then g.cap r else 0) g.rows

abbrev near_sold : Columns → ℕ → ℕ
near_sold g j = sum_to (λ y. when near g j y then sold g y else 0) g.rows

module _ {cost : ℕ → ℕ} {g : Columns} (f : Forest cost g) (w : Low g) (j : ℕ) where
  picked_near : of_transport g (g.transport j) g.picked g.rows ≤ near_cap g j + beyond g j
  picked_near = sum_le_add _ _ _ g.rows (λ r l. if_cases (λ v. v ≤ share r) _ (λ e. each r l e) (λ e. omega arith))
    where
      share : ℕ → ℕ
      share r = (when near g j r then g.cap r else 0) + (when above g j r then g.picked r else 0)

      each : (r : ℕ) → r < g.rows → eqb (g.transport r) (g.transport j) ≡ true → g.picked r ≤ share r
      each r l e = elim (dec_lt j (g.low r)) [
        | yes q ↦ omega (arith, if_true (g.picked r) 0 ((and-eq-true_iff (eqb (g.transport r) (g.transport j)) (ltb j (g.low r))).1 (e, lt-ltb _ _ q)))
        | no q ↦ omega (arith, f.room r l, if_true (g.cap r) 0 (near_of g j r (eqb-true _ _ e) (omega arith)))
      ]

  near_later : near_cap g j ≤ of_transport g (g.transport j) g.n (suc j) + later_cap g j
  near_later = le_trans (sum_le_add _ early late g.rows (λ r l. if_cases (λ v. v ≤ early r + late r) _ (λ e. each r l e) (λ e. omega arith))) (omega (arith, sum_below own (suc j) g.rows))
    where
      own : ℕ → ℕ
      own r = when eqb (g.transport r) (g.transport j) then g.n r else 0

      early : ℕ → ℕ
      early r = when ltb r (suc j) then own r else 0

      late : ℕ → ℕ
      late r = when later g j r then g.cap r else 0

      each : (r : ℕ) → r < g.rows → near g j r ≡ true → g.cap r ≤ early r + late r
      each r l e = elim (dec_lt j r) [
        | yes q ↦ omega (arith, if_true (g.cap r) 0 (later_of g j r e q))
        | no q ↦ omega (arith, f.fits r l, if_true (own r) 0 (lt-ltb r (suc j) (omega arith)), if_true (g.n r) 0 (eq-eqb _ _ (near_true g j r e).0))
      ]

  -- a near row after j names a near row
  later_names : (r : ℕ) → r < g.rows → later g j r ≡ true → (y : ℕ) × (g.names r ≡ suc y) × (near g j y ≡ true)
  later_names r l e = go (g.names r) refl
    where
      h : (near g j r ≡ true) × (j < r)
      h = later_true g j r e

      k : (g.transport r ≡ g.transport j) × (g.low r ≤ j)
      k = near_true g j r h.0

      go : (a : ℕ) → g.names r ≡ a → (y : ℕ) × (g.names r ≡ suc y) × (near g j y ≡ true)
      go zero q = absurd (omega (arith, w.alone r l q, h.1, k.1))
      go (suc y) q = (y, q, near_of g j y ((f.named r y l q).same ∙ k.0) (omega (arith, w.under r y l q, h.1, k.1)))

  later_sold : later_cap g j ≤ near_sold g j
  later_sold = le_trans (sum_le _ _ g.rows each) (le_of_eq (sum_swap share g.rows g.rows ∙ sum_eq _ _ g.rows (λ y l. sum_if_all (near g j y) _ g.rows)))
    where
      share : ℕ → ℕ → ℕ
      share r y = when near g j y then (when eqb (g.names r) (suc y) then g.cap r else 0) else 0

      each : (r : ℕ) → r < g.rows → (when later g j r then g.cap r else 0) ≤ sum_to (λ y. share r y) g.rows
      each r l = if_cases (λ v. v ≤ sum_to (λ y. share r y) g.rows) _ (λ e. one_share (later_names r l e)) (λ e. omega arith)
        where
          one_share : (y : ℕ) × (g.names r ≡ suc y) × (near g j y ≡ true) → g.cap r ≤ sum_to (λ y. share r y) g.rows
          one_share (y, e, q) =
              omega (arith, sum_term (λ y. share r y) y g.rows (f.named r y l e).inside, if_true (when eqb (g.names r) (suc y) then g.cap r else 0) 0 q, if_true (g.cap r) 0 (eq-eqb _ _ e))

  sold_near : cost (g.transport j) * near_sold g j ≤ near_cap g j
  sold_near = rw (← sum_mul) (sum_le _ _ g.rows (λ y l. scaled (near g j y) _ _ _ (λ e. rw (sym (near_true g j y e).0) (f.paid y l))))

  later_none : cost (g.transport j) ≡ 0 → later_cap g j ≡ 0
  later_none z = sum_if_zero _ _ g.rows (λ r l e. absurd (nobody r l (later_names r l e)))
    where
      nobody : (r : ℕ) → r < g.rows → (y : ℕ) × (g.names r ≡ suc y) × (near g j y ≡ true) → ⊥
      nobody r l (y, e, q) = let d = (f.named r y l e).dear in omega (arith, rw (near_true g j y q).0 at d)

  pub count_ceiling : (b : ℕ) → beyond g j ≤ b → Ceiling (cost (g.transport j)) (of_transport g (g.transport j) g.picked g.rows) (of_transport g (g.transport j) g.n (suc j)) b
  count_ceiling b h = record {
    dear =
        λ d.
        omega (
          arith,
          picked_near,
          near_later,
          div_ceiling (cost (g.transport j)) (later_cap g j) (of_transport g (g.transport j) g.n (suc j)) d
              (omega (arith, near_later, sold_near, mul-le-mul_left (cost (g.transport j)) later_sold)),
        );
    free = λ z. omega (arith, picked_near, near_later, later_none z);
  }
