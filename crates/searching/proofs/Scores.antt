-- The best score so far as two numbers, and the tests that the search makes by them.
use Prim.Native.Nat.{ℕ, zero, suc, ◌+◌, ◌-◌, ◌*◌, ◌/◌, ◌≤◌, ◌<◌}
use mathlib.Core.Bool.{Bool, true, false, not, ◌&&◌, and-true, and-false}
use mathlib.Core.Path.{◌≡◌, refl, ◌∙◌, ap}
use mathlib.Core.List.{List}
use native.Mathlib.Omega.{arith}
use lib.Dec.{eqb, ltb, leb}
use lib.ListN.{get_or}
use borrow.Author.Tests.{lt-ltb, lt-leb}
use Rattle.laws.specs.Bools.{when◌then◌else◌}
use Rattle.laws.proofs.Bools.{and_left_false, and_right_false}
use Rattle.rules.specs.declared.Jobs.{Jobs}
use Rattle.rules.specs.declared.State.{State}
use Rattle.rules.specs.State.{at, settings_of, has_preempted, waiting_of}
use Rattle.rules.specs.Picking.{has_eligible}
use Rattle.rules.specs.Preemption.{owned, credit_of, affordable, can_pay_for, is_candidate, beats, better, not_above}
use Rattle.eligibility.specs.Eligibility.{Reads}

-- than/of is the score of the link: 0/1 for none
pub record Score (arrival waits : List ℕ) (time link than of : ℕ) : Type 0 where
  pub old : than ≤ 4294967296
  pub small : of < 65536
  pub none : link ≡ 0 → (than ≡ 0) × (of ≡ 1)
  pub some : (b : ℕ) → link ≡ suc b → (b < 32) × (than ≡ time - at arrival b + 1) × (of ≡ at waits b)

-- the tests that the search makes of x, one of the transport's, before it asks whether it is ready
abbrev pub able_at : Jobs → List ℕ → ℕ → ℕ → ℕ → Bool
able_at jobs waits y most x = not (eqb x y) && eqb (at jobs.picked x) 0 && not (get_or jobs.preempted x false) && leb (at waits x) most

-- all tests of x, read at k, with what waits of it as m
pub tests_read : (jobs : Jobs) (waits : List ℕ) (ready : List Bool) (y most x k m : ℕ) (able ahead : Bool) → k ≡ x → m ≡ at waits k
    → able ≡ (not (eqb x y) && eqb (at jobs.picked k) 0 && not (get_or jobs.preempted k false) && leb m most)
    → (able && ahead) && get_or ready k false ≡ (able_at jobs waits y most x && ahead) && get_or ready x false
tests_read jobs waits ready y most x k m able ahead is waiting e =
    ap (λ a. (a && ahead) && get_or ready k false)
    (e ∙ ap (λ z. not (eqb x y) && eqb (at jobs.picked k) 0 && not (get_or jobs.preempted k false) && leb z most) waiting)
    ∙ ap (λ z. ((not (eqb x y) && eqb (at jobs.picked z) 0 && not (get_or jobs.preempted z false) && leb (at waits z) most) && ahead) && get_or ready z false) is

-- the second of four tests may be the last
second_last : (a b c d : Bool) → ((a && c) && d) && b ≡ (a && b && c) && d
second_last false b c d = refl
second_last true true c d = and-true (c && d)
second_last true false c d = and-false (c && d)

module _ (s : State) (jobs : Jobs) (waits : List ℕ) (ready : List Bool) (same : s.jobs ≡ jobs) (reads : Reads s waits ready) (t y x : ℕ) (below : x < 256) where
  -- one of another transport is no candidate
  pub no_candidate : eqb (at s.jobs.transport x) t ≡ false → is_candidate s t y x ≡ false
  unfolding is_candidate
  no_candidate f =
      and_left_false (can_pay_for s t y x)
      (and_left_false (has_eligible s x)
      (and_left_false (not (has_preempted s x))
      (and_left_false (eqb (at s.jobs.picked x) 0) (and_right_false (not (eqb x y)) f))))

  pub candidate_is : (most : ℕ) (ahead : Bool) → eqb (at s.jobs.transport x) t ≡ true → most ≡ (waiting_of s y + owned (credit_of s t y)) / (settings_of s t).cost
      → (able_at jobs waits y most x && ahead) && get_or ready x false ≡ is_candidate s t y x && ahead
  unfolding is_candidate affordable
  candidate_is most ahead on e =
      second_last (not (eqb x y) && eqb (at jobs.picked x) 0 && not (get_or jobs.preempted x false)) (get_or ready x false) (leb (at waits x) most) ahead
      ∙ rw (← same, reads.eligible x below, reads.waiting x below, e, on, and-true)

  module _ (time link than of age : ℕ) (score : Score jobs.arrival waits time link than of) (is-age : age ≡ time - at jobs.arrival x + 1) where
    -- "wait plus 1 is not above the best score before it"
    pub not_above_is : leb (age * of) than ≡ not_above s time link x
    unfolding not_above
    not_above_is = go link refl
      where
        go : (k : ℕ) → link ≡ k → leb (age * of) than ≡ not_above s time k x
        go zero e = let h = score.none e in rw (h.0, h.1) (lt-leb (age * 1) 0 (omega (arith, is-age)))
        go (suc b) e = let h = score.some b e in rw (is-age, h.1, h.2, ← same, reads.waiting b (omega (arith, h.0))) refl

    -- the better of the link and x
    pub better_is : (ahead : Bool) → ahead ≡ ltb (than * at waits x) (age * of) → better s time t y link x ≡ (when is_candidate s t y x && ahead then suc x else link)
    unfolding better beats
    better_is ahead e = go link refl
      where
        go : (k : ℕ) → link ≡ k → better s time t y k x ≡ (when is_candidate s t y x && ahead then suc x else k)
        go zero q =
            let h = score.none q in
            let first : ahead ≡ true = e ∙ rw (h.0, h.1) (lt-ltb (0 * at waits x) (age * 1) (omega (arith, is-age))) in
            rw (first, and-true) refl
        go (suc b) q = let h = score.some b q in rw (e, is-age, h.1, h.2, ← same, reads.waiting b (omega (arith, h.0)), reads.waiting x below) refl
