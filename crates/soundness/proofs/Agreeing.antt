-- Two tables that are equal in their first places agree at each of them.
use Rattle.std.proofs.Common.{ℕ, ◌≡◌, ◌≤◌, ◌<◌, Bool, true, false, not, List, [], ◌∷◌, length, take, eqb, refl, sym, ap, ◌∙◌, arith}
use lib.Seq.{get_or-take, length-take-le, ext_get_or}
use lib.Pointwise.{pointwise}
use borrow.Author.Tests.{eq-eqb, eqb-true}
use Rattle.std.specs.Cmp.Lexicographic.{same_text}
use Rattle.laws.specs.Range.{all_to}
use Rattle.laws.proofs.Bools.{bool_same, and_both, eqb_self}
use Rattle.laws.proofs.All.{all_at, all_from}
use Rattle.rules.specs.State.{at}

not_not : (b : Bool) → not (not b) ≡ b
not_not true = refl
not_not false = refl

same_self : (l : List ℕ) → pointwise eqb l l ≡ true
same_self [] = refl
same_self (x ∷ l) = and_both (eqb_self x) (same_self l)

module _ (a b : List ℕ) (n : ℕ) (m : n ≤ length a) (k : n ≤ length b) where
  pub agree_is : pointwise eqb (take n a) (take n b) ≡ all_to (λ i. eqb (at a i) (at b i)) n
  agree_is =
      bool_same
      (λ t.
      let e : take n a ≡ take n b = same_text (take n a) (take n b) (sym t) in
      all_from (λ i. eqb (at a i) (at b i)) n λ i l.
      eq-eqb (at a i) (at b i) (sym (get_or-take n a i 0 l) ∙ ap (λ x. at x i) e ∙ get_or-take n b i 0 l))
      (λ t.
      let la : length (take n a) ≡ n = length-take-le n a m in
      let lb : length (take n b) ≡ n = length-take-le n b k in
      let e : take n a ≡ take n b =
      ext_get_or 0 (take n a) (take n b) (la ∙ sym lb) (λ i h.
      let l : i < n = omega arith in
      get_or-take n a i 0 l ∙ eqb-true (at a i) (at b i) (all_at (λ i. eqb (at a i) (at b i)) n t i l) ∙ sym (get_or-take n b i 0 l)) in
      rw e (same_self (take n b)))

  -- .. and as the code asks whether they differ
  pub differ_is : {r : Bool} → r ≡ not (pointwise eqb (take n a) (take n b)) → not r ≡ all_to (λ i. eqb (at a i) (at b i)) n
  differ_is e = ap not e ∙ not_not (pointwise eqb (take n a) (take n b)) ∙ agree_is
