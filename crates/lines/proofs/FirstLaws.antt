-- The first place of a part of a list that passes a test, from the library's `position`.
use Rattle.std.proofs.Common.{ℕ, ◌≡◌, ◌+◌, ◌-◌, ◌≤◌, ◌<◌, Bool, true, false, not, cond, List, length, get_or, take, drop, ltb, Option, Some, None, refl, sym, ap, ◌∙◌, length-drop, arith}
use Rattle.std.specs.List.{position_or_len, position}
use Rattle.std.proofs.lemmas.List.Sums.{prefix_len-le-length, fails_before_first, passes_at_first}
use lib.Seq.{get_or-take, get_or-drop, length-take-le}
use borrow.Author.Tests.{ltb-false}
use Rattle.lines.specs.Words.{FirstFrom}

-- a place of a part that stands from `from` on and ends at `to`, or none
module _ (p : ℕ → Bool) (s part : List ℕ) (from to : ℕ) (h : from ≤ to) (long : length part ≡ to - from) (same : (i : ℕ) → i < to - from → get_or part i 0 ≡ get_or s (from + i) 0) where
  first : FirstFrom (λ i. p (get_or s i 0)) from to (from + position_or_len p part)
  first =
      let n = position_or_len p part in
      let e : position_or_len p part ≤ to - from = omega (arith, prefix_len-le-length (λ x. not (p x)) part, long) in
      record {
        start = omega arith;
        end = omega (arith, e, h);
        before = λ i l m.
            let k : from + (i - from) ≡ i = omega (arith, l) in
            rw k at (ap p (sym (same (i - from) (omega (arith, l, m, e)))) ∙ fails_before_first p part (i - from) 0 (omega (arith, l, m)));
        there = λ l. ap p (sym (same n (omega (arith, l)))) ∙ passes_at_first p part 0 (omega (arith, l, long));
      }

  pub first_some : {i : ℕ} → Some i ≡ position p part → FirstFrom (λ i. p (get_or s i 0)) from to (from + i)
  first_some {i} e = go (ltb (position_or_len p part) (length part)) e
    where
      go : (b : Bool) → Some i ≡ cond b (Some (position_or_len p part)) None → FirstFrom (λ i. p (get_or s i 0)) from to (from + i)
      go true e = let k : position_or_len p part ≡ i = cc in rw k at first
      go false e = absurd cc

  pub first_none : None ≡ position p part → FirstFrom (λ i. p (get_or s i 0)) from to to
  first_none e = go (ltb (position_or_len p part) (length part)) refl e
    where
      go : (b : Bool) → ltb (position_or_len p part) (length part) ≡ b → ◌≡◌ {A = Option ℕ} None (cond b (Some (position_or_len p part)) None) → FirstFrom (λ i. p (get_or s i 0)) from to to
      go true l e = absurd cc
      go false l e =
          let k : from + position_or_len p part ≡ to = omega (arith, h, long, ltb-false _ _ l, prefix_len-le-length (λ x. not (p x)) part) in
          rw k at first

pub part_length : (s : List ℕ) (from to : ℕ) → to ≤ length s → length (take (to - from) (drop from s)) ≡ to - from
part_length s from to w = length-take-le (to - from) (drop from s) (omega (arith, length-drop from s))

pub part_at : (s : List ℕ) (from to i : ℕ) → i < to - from → get_or (take (to - from) (drop from s)) i 0 ≡ get_or s (from + i) 0
part_at s from to i l = get_or-take (to - from) (drop from s) i 0 l ∙ get_or-drop from s i 0
