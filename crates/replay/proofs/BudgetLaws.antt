-- The budget that a word asks for.
use Rattle.std.proofs.Common.{ℕ, ◌≡◌, min, Bool, true, false, ◌&&◌, List, length, eqb, ltb, Option, Some, None, sym, ap, ◌∙◌, arith}
use Rattle.std.specs.Option.{unwrap_or}
use borrow.Author.Tests.{eqb-true, eqb-false, lt-ltb, le-ltb, ltb-true, ltb-false}
use Rattle.laws.specs.Sequence.{every_in}
use Rattle.laws.proofs.Bools.{if_true, if_false, and_left_false, and_right}
use Rattle.lines.specs.Words.{is_digit, value_of, is_number, number_of}
use Rattle.lines.proofs.ReadingLaws.{number_is, number_not}
use Rattle.replay.specs.Budget.{is_decimal, all, budget_of}

module _ (word : List ℕ) where
  pub decimal_none : eqb (length word) 0 ≡ true → false ≡ is_decimal word
  unfolding is_decimal
  decimal_none h = sym (and_left_false (every_in is_digit word) (le-ltb 0 (length word) (omega (arith, eqb-true (length word) 0 h))))

  pub decimal_some : eqb (length word) 0 ≡ false → {all_digits : Bool} → all_digits ≡ every_in is_digit word → all_digits ≡ is_decimal word
  unfolding is_decimal
  decimal_some h e = e ∙ sym (ap (λ b. b && every_in is_digit word) (lt-ltb 0 (length word) (omega (arith, eqb-false (length word) 0 h))))

  pub budget_not : is_decimal word ≡ false → all ≡ budget_of word
  unfolding budget_of
  budget_not f = sym (if_false _ _ f)

  module _ (t : is_decimal word ≡ true) where
    budget_is : (x : ℕ) → number_of word ≡ Some x → x ≡ budget_of word
    unfolding budget_of is_number
    budget_is x e =
        let n = number_is word x e in
        let s = ltb-true (value_of word) 18446744073709551616 (and_right (every_in is_digit word) _ n.0) in
        let m : x ≡ min (value_of word) all = omega (arith, s, n.1) in
        m ∙ sym (if_true _ _ t)

    -- digits that are no number are 2^64 or more
    budget_past : number_of word ≡ None → all ≡ budget_of word
    unfolding budget_of is_number is_decimal
    budget_past e =
        let d : every_in is_digit word ≡ true = and_right (ltb 0 (length word)) (every_in is_digit word) t in
        let n : every_in is_digit word && ltb (value_of word) 18446744073709551616 ≡ false = number_not word e in
        let f : ltb (value_of word) 18446744073709551616 ≡ false = rw d at n in
        let m : all ≡ min (value_of word) all = omega (arith, ltb-false (value_of word) 18446744073709551616 f) in
        m ∙ sym (if_true _ _ t)

    pub budget_read : (o : Option ℕ) → o ≡ number_of word → unwrap_or o all ≡ budget_of word
    budget_read (Some x) e = budget_is x (sym e)
    budget_read None e = budget_past (sym e)
