-- A3: the search that stops finds the same best, wherever arrival seconds never fall along ranks.
use Prim.Native.Nat.{ℕ, zero, suc, ◌*◌, ◌≤◌, ◌<◌}
use mathlib.Core.Path.{◌≡◌, refl, sym, ap, subst}
use mathlib.Core.Bool.{true, false}
use mathlib.Core.Logic.{⊎_elim}
use native.Mathlib.Nat.{eq-or-lt_of_le, le_refl, le_trans, mul-le-mul_left, mul-le-mul_right}
use native.Mathlib.Decide.{dec_lt}
use native.Mathlib.Omega.{arith}
use lib.ListN.{length}
use borrow.Author.Tests.{leb-true, le-ltb}
use Rattle.laws.specs.Range.{first_to, fold_to}
use Rattle.laws.specs.Sequence.{never_falling}
use Rattle.laws.proofs.Bools.{true_not_false, case_bool, if_false, and_right, and_left_false, and_right_false}
use Rattle.laws.proofs.First.{first_le, first_holds}
use Rattle.laws.proofs.Falling.{falling_get_or}
use Rattle.rules.specs.declared.State.{State}
use Rattle.rules.specs.State.{at, list_of, arrived_at, waiting_of}
use Rattle.rules.specs.Preemption.{is_candidate, age_of, beats, better, best_before, best_candidate, not_above, arrived_on, stops_at, search_end}
use Rattle.rules.specs.ShorterSearch.{SameBest, ShorterSearch}
use Rattle.rules.proofs.Candidates.{candidate_waits}

module _ (s : State) (now t y : ℕ) (rising : never_falling (at s.jobs.arrival) (list_of s.arrivals) ≡ true) where
  waits_fall : (i j : ℕ) → i ≤ j → j < length (list_of s.arrivals) → age_of s now (arrived_at s j) ≤ age_of s now (arrived_at s i)
  waits_fall i j l m =
      ⊎_elim
      (λ e. subst (λ k. age_of s now (arrived_at s k) ≤ age_of s now (arrived_at s i)) e (le_refl (age_of s now (arrived_at s i))))
      (λ k. omega (arith, falling_get_or (at s.jobs.arrival) (list_of s.arrivals) rising i j 0 k m))
      (eq-or-lt_of_le l)

  -- the score of j is at most its wait plus 1, that of i at most as much, and that not above the score of b
  unbeaten_from : (b i j : ℕ) → not_above s now (suc b) (arrived_at s i) ≡ true → i ≤ j → j < length (list_of s.arrivals) → is_candidate s t y (arrived_at s j) ≡ true
      → beats s now (arrived_at s j) b ≡ false
  unfolding not_above beats
  unbeaten_from b i j stop l m c =
      let x = arrived_at s j in
      let one = mul-le-mul_left (age_of s now b) (candidate_waits s t y x c) in
      le-ltb (age_of s now b * waiting_of s x) (age_of s now x * waiting_of s b)
      (le_trans
      (mul-le-mul_right (waiting_of s b) (waits_fall i j l m))
      (le_trans (leb-true (age_of s now (arrived_at s i) * waiting_of s b) (age_of s now b) stop) (omega (arith, one))))

  -- where the search ends with b, b stays the best
  module _ (b e : ℕ) (found : best_before s now t y e ≡ suc b) (stop : not_above s now (suc b) (arrived_at s e) ≡ true) where
    kept : (n : ℕ) → e ≤ n → n < length (list_of s.arrivals) → better s now t y (suc b) (arrived_at s n) ≡ suc b
    unfolding better
    kept n l m =
        if_false (suc (arrived_at s n)) (suc b)
        (case_bool (is_candidate s t y (arrived_at s n))
        (λ c. and_right_false (is_candidate s t y (arrived_at s n)) (unbeaten_from b e n stop l m c))
        (λ f. and_left_false (beats s now (arrived_at s n) b) f))

    stays : (n : ℕ) → e ≤ n → n ≤ length (list_of s.arrivals) → best_before s now t y n ≡ suc b
    unfolding best_before fold_to
    stays zero l m = let z : e ≡ 0 = omega arith in subst (λ k. best_before s now t y k ≡ suc b) z found
    stays (suc n) l m =
        ⊎_elim
        (λ q. subst (λ k. best_before s now t y k ≡ suc b) q found)
        (λ k. rw (stays n (omega arith) (omega arith)) (kept n (omega arith) (omega arith)))
        (eq-or-lt_of_le l)

  -- by the best before the end
  same_with : (link e : ℕ) → best_before s now t y e ≡ link → not_above s now link (arrived_at s e) ≡ true → e ≤ length (list_of s.arrivals)
      → link ≡ best_candidate s now t y
  unfolding not_above best_candidate
  same_with zero e found stop l = true_not_false stop refl
  same_with (suc b) e found stop l = sym (stays b e found stop (length (list_of s.arrivals)) l (le_refl _))

  same_end : best_before s now t y (search_end s now t y) ≡ best_candidate s now t y
  unfolding search_end best_candidate
  same_end =
      let n = length (list_of s.arrivals) in
      let stops = stops_at s now t y in
      let e = first_to stops n in
      elim (dec_lt e n) [
        | yes l ↦ same_with (best_before s now t y e) e refl (and_right (arrived_on s t e) (not_above s now (best_before s now t y e) (arrived_at s e)) (first_holds stops n l)) (first_le stops n)
        | no l ↦ let k = first_le stops n in ap (best_before s now t y) (omega arith)
      ]

  pub same_best : SameBest s now t y
  same_best = record { waits = waits_fall; entries = candidate_waits s t y; unbeaten = unbeaten_from; same = same_end }

pub shorter_search : ShorterSearch
shorter_search s now t y h = same_best s now t y h.arrivals.rising
