-- The tests of one job, case by case.
use Prim.Native.Nat.{ℕ, suc, ◌+◌, ◌*◌, ◌≤◌, min}
use mathlib.Core.Bool.{Bool, true, false, ◌&&◌, ◌||◌}
use mathlib.Core.Path.{◌≡◌, sym, ◌∙◌, ap}
use mathlib.Core.List.{List}
use native.Mathlib.Omega.{arith}
use lib.Dec.{eqb, leb}
use lib.ListN.{length, get_or, get_or-eq_default}
use borrow.Author.Tests.{eqb-true, eqb-false, eq-eqb, le-leb, leb-true}
use Rattle.laws.proofs.Bools.{case_bool, bool_same, and_both, and_left_false}
use Rattle.laws.specs.Chain.{ends_in}
use Rattle.rules.specs.declared.Settings.{Settings}
use Rattle.rules.specs.declared.Jobs.{Jobs}
use Rattle.rules.specs.State.{at, zero_settings}
use Rattle.rules.specs.Sound.{implies}
use Rattle.rules.proofs.RangeFacts.{implies_at, implies_of}
use Rattle.clauses.specs.Clauses.{counts_test, sold_test, child_test, job_test}

module _ (cost sold n : ℕ) where
  pub sold_none : sold ≡ 0 → sold_test cost sold n ≡ true
  unfolding sold_test
  sold_none e = and_both (le-leb (cost * sold) n (rw e (omega arith))) (implies_of (eqb cost 0) λ _. eq-eqb sold 0 e)

  sold_some : (sold ≡ 0 → ⊥) → leb (cost * sold) n && leb 1 cost ≡ sold_test cost sold n
  unfolding sold_test
  sold_some z =
      ap (λ b. leb (cost * sold) n && b)
      (bool_same
      (λ h. implies_of (eqb cost 0) λ t. (let a = leb-true 1 cost h in let b = eqb-true cost 0 t in absurd (omega arith)))
      (λ h. le-leb 1 cost (case_bool (eqb cost 0) (λ t. absurd (z (eqb-true sold 0 (implies_at h t)))) (λ f. let a = eqb-false cost 0 f in omega arith))))

  -- a product that stops at the largest number is above n where the whole product is
  pub sold_is : (q : ℕ) → q ≡ min (cost * sold) 18_446_744_073_709_551_615 → n ≤ 65535 → eqb sold 0 || leb q n && leb 1 cost ≡ sold_test cost sold n
  sold_is q e few =
      let same : leb q n ≡ leb (cost * sold) n =
      bool_same (λ h. le-leb (cost * sold) n (omega (arith, leb-true q n h))) (λ h. le-leb q n (omega (arith, leb-true (cost * sold) n h))) in
      case_bool (eqb sold 0) (λ t. rw t (sym (sold_none (eqb-true sold 0 t)))) (λ f. rw (f, same) (sold_some (eqb-false sold 0 f)))

module _ (present : List Bool) (transport picked : List ℕ) (t : ℕ) (marked : Bool) (link : ℕ) where
  pub child_none : link ≡ 0 → child_test present transport picked t marked link ≡ true
  unfolding child_test
  child_none e = ap (child_test present transport picked t marked) e

  module _ (p : ℕ) (e : link ≡ suc p) where
    pub child_near : child_test present transport picked t marked link ≡ get_or present p false && eqb (at transport p) t && leb 1 (at picked p) && marked
    unfolding child_test
    child_near = ap (child_test present transport picked t marked) e

    pub child_far : length present ≤ p → child_test present transport picked t marked link ≡ false
    child_far h =
        child_near
        ∙ and_left_false marked
        (and_left_false (leb 1 (at picked p)) (and_left_false (eqb (at transport p) t) (get_or-eq_default present false h)))

pub job_tested :
    (g : Jobs) (settings : List Settings) (waiting busy : List ℕ) (j cost : ℕ) (a b d e : Bool)
    → a ≡ counts_test (at waiting j) (at busy j) (at g.n j) (at g.picked j) (at g.dropped j)
    → cost ≡ (get_or settings (at g.transport j) zero_settings).cost
    → b ≡ sold_test cost (at g.sold j) (at g.n j)
    → d ≡ child_test g.present g.transport g.picked (at g.transport j) (get_or g.preempted j false) (at g.parent j)
    → e ≡ ends_in (at g.parent) 32 (at g.parent j)
    → a && b && leb 1 (at waiting j + at busy j) && d && e && leb (at g.overtakers j) 65_535 && leb (at g.turn j) (at g.places j)
    ≡ job_test g settings waiting busy j
unfolding job_test
job_tested g settings waiting busy j cost a b d e ea ec eb ed ee = rw (ea, eb, ec, ed, ee)

-- a test that is asked where another holds

pub asked_false : {a b : Bool} → a ≡ true → b ≡ false → implies a b ≡ false
unfolding implies
asked_false t f = rw (t, f)

pub asked_not : {a : Bool} (b : Bool) → a ≡ false → implies a b ≡ true
unfolding implies
asked_not b f = rw f

pub asked_true : (a : Bool) {b : Bool} → b ≡ true → implies a b ≡ true
asked_true a t = implies_of a λ _. t
