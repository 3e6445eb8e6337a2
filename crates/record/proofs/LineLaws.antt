-- What a line says, by its front, its first word and its numbers.
use Prim.Native.Nat.{ℕ, ◌+◌, ◌-◌, ◌≤◌, ◌<◌}
use mathlib.Core.Path.{◌≡◌, refl, sym, ◌∙◌, ap}
use mathlib.Core.Bool.{Bool, true, false, ◌&&◌}
use mathlib.Core.List.{List, [], ◌∷◌}
use native.Mathlib.Omega.{arith}
use native.Mathlib.Decide.{dec_lt}
use lib.ListN.{length, take, drop, length-drop, drop_of_length-le}
use lib.Seq.{drop-drop}
use lib.Dec.{eqb, ltb}
use borrow.Author.Tests.{eq-eqb, ne_eqb, lt-ltb, le-ltb}
use Rattle.laws.specs.Bools.{when◌then◌else◌}
use Rattle.laws.specs.Sequence.{up_to}
use Rattle.laws.proofs.Bools.{case_bool, if_true, if_false, and_both, and_left_false, and_right_false}
use Rattle.rules.specs.State.{at}
use Rattle.std.proofs.Common.{Some, None}
use Rattle.lines.specs.Names.{job_name, pick_name, report_name}
use Rattle.lines.specs.Words.{words_of, same_bytes, is_number, value_of, number_of, numbers_of, FirstFrom, not_blank, Read}
use Rattle.lines.proofs.WordLaws.{blank_behind, words_first}
use Rattle.lines.proofs.ReadingLaws.{number_is, number_not, words_none, skipped}
use Rattle.journal.specs.Records.{name, job, pick, report}
use Rattle.record.specs.Lines.{nothing, none, says, name_name, unblanked}
use Rattle.record.specs.Lines.{name_line, job_line, pick_line, report_line, numbers_line, words_line, line_of}
use Rattle.record.proofs.FrontLaws.{to_end, unblanked_is, FirstWord, word_long, first_word_is, behind_is}

-- The numbers of a word.

module _ (words : List ℕ) where
  job_none : (length words ≡ 3 + at words 2 → ⊥) → job_line words ≡ none
  unfolding job_line
  job_none n = if_false _ _ (ne_eqb _ _ n)

  pub job_short : length words < 3 → job_line words ≡ none
  job_short h = job_none (λ q. omega (arith, q))

  -- what stands behind the count
  abbrev behind_count : List ℕ
  behind_count = take (length words - 3) (drop 3 words)

  behind_long : length behind_count ≡ length words - 3
  behind_long = ap length (to_end words 3) ∙ length-drop 3 words

  pub job_other : 3 ≤ length words → (at words 2 ≡ length behind_count → ⊥) → job_line words ≡ none
  job_other h n = job_none (λ q. n (omega (arith, q, behind_long)))

  pub job_said : 3 ≤ length words → at words 2 ≡ length behind_count → job_line words ≡ says (job (at words 0) (at words 1) behind_count)
  unfolding job_line
  job_said l h =
      let n : length words ≡ 3 + at words 2 = omega (arith, h, behind_long) in
      rw (to_end words 3) (if_true _ _ (eq-eqb _ _ n))

  pub pick_none : (length words ≡ 1 → ⊥) → pick_line words ≡ none
  unfolding pick_line
  pick_none n = if_false _ _ (ne_eqb _ _ n)

  pub pick_said : length words ≡ 1 → pick_line words ≡ says (pick (at words 0))
  unfolding pick_line
  pick_said h = if_true _ _ (eq-eqb _ _ h)

  pub report_none : (length words ≡ 4 → ⊥) → report_line words ≡ none
  unfolding report_line
  report_none n = if_false _ _ (ne_eqb _ _ n)

  pub report_said : length words ≡ 4 → report_line words ≡ says (report (at words 0) (at words 1) (at words 2) (at words 3))
  unfolding report_line
  report_said h = if_true _ _ (eq-eqb _ _ h)

-- A word and its numbers.

module _ (word words : List ℕ) where
  pub numbers_job : same_bytes word job_name ≡ true → numbers_line word words ≡ job_line words
  unfolding numbers_line
  numbers_job a = if_true _ _ a

  module _ (a : same_bytes word job_name ≡ false) where
    pub numbers_pick : same_bytes word pick_name ≡ true → numbers_line word words ≡ pick_line words
    unfolding numbers_line
    numbers_pick b = if_false _ _ a ∙ if_true _ _ b

    module _ (b : same_bytes word pick_name ≡ false) where
      pub numbers_report : same_bytes word report_name ≡ true → numbers_line word words ≡ report_line words
      unfolding numbers_line
      numbers_report c = if_false _ _ a ∙ if_false _ _ b ∙ if_true _ _ c

      pub numbers_none : same_bytes word report_name ≡ false → numbers_line word words ≡ none
      unfolding numbers_line
      numbers_none c = if_false _ _ a ∙ if_false _ _ b ∙ if_false _ _ c

-- A whole line.

module _ (line : List ℕ) where
  pub line_comment : at line 0 ≡ 35 → line_of line ≡ nothing
  unfolding line_of
  line_comment h = if_true _ _ (eq-eqb _ _ h)

  pub line_empty : (p : ℕ) → FirstFrom (not_blank line) 0 (length line) p → length line ≤ p → line_of line ≡ nothing
  unfolding words_line line_of same_bytes up_to when◌then◌else◌
  line_empty p f h =
      let e : words_of line ≡ [] = skipped line 0 p f ∙ words_none line p h in
      let u : unblanked line ≡ [] = unblanked_is line p f ∙ drop_of_length-le line {i = p} h in
      case_bool (eqb (at line 0) 35) (λ t. rw t refl) (λ n. rw (n, u, e) refl)

-- A line with a word, from p up to end, and what stands behind it.

module _ (line : List ℕ) (p end : ℕ) (w : FirstWord line p end) where
  abbrev word : List ℕ
  word = take (end - p) (drop p line)

  abbrev rest : List ℕ
  rest = drop end line

  module _ (h : p < length line) (n : at line 0 ≡ 35 → ⊥) where
    its_words : words_of line ≡ word ∷ words_of rest
    its_words = skipped line 0 p w.begins ∙ words_first line p end (w.begins.there h) (blank_behind line p end h (w.begins.there h) w.ends)

    by_word : line_of line ≡ (when same_bytes word name_name then name_line (unblanked rest) else words_line (word ∷ words_of rest))
    unfolding line_of
    by_word = if_false _ _ (ne_eqb _ _ n) ∙ rw (behind_is line p end w, first_word_is line p end w, its_words) refl

    pub line_name : same_bytes word name_name ≡ true → line_of line ≡ name_line (unblanked (take (length line - end) (drop end line)))
    line_name t = by_word ∙ if_true _ _ t ∙ rw to_end refl

    -- with numbers behind it, or other words
    module _ (t : same_bytes word name_name ≡ false) (b : Bool) (k : ℕ) (words : List ℕ) (r : Read (words_of rest) b k words) where
      pub line_none : b ≡ false → line_of line ≡ none
      unfolding words_line
      line_none e = by_word ∙ if_false _ _ t ∙ if_false _ _ (sym r.told ∙ e)

      pub line_numbers : b ≡ true → line_of line ≡ numbers_line word (take k words)
      unfolding words_line when◌then◌else◌
      line_numbers e =
          let m : take k words ≡ numbers_of (words_of rest) = r.front ∙ rw e refl in
          by_word ∙ if_false _ _ t ∙ if_true _ _ (sym r.told ∙ e) ∙ rw m refl

  -- behind the word `name`: this one is the number

  abbrev has_word : Bool
  has_word = ltb 0 (length word)

  abbrev has_rest : Bool
  has_rest = ltb 0 (length rest)

  by_parts : name_line (unblanked line) ≡ (when has_word && is_number word && has_rest then says (name (value_of word) (drop 1 rest)) else none)
  unfolding name_line
  by_parts = rw (behind_is line p end w, first_word_is line p end w) refl

  name_none : has_word && is_number word && has_rest ≡ false → name_line (unblanked line) ≡ none
  name_none h = by_parts ∙ if_false _ _ h

  pub name_empty : end ≡ p → name_line (unblanked line) ≡ none
  name_empty h = name_none (and_left_false has_rest (and_left_false (is_number word) (le-ltb 0 (length word) (omega (arith, word_long line p end w)))))

  pub name_ends : length line ≤ end → name_line (unblanked line) ≡ none
  name_ends h = name_none (and_right_false (has_word && is_number word) (le-ltb 0 (length rest) (omega (arith, length-drop end line))))

  pub name_not : number_of word ≡ None → name_line (unblanked line) ≡ none
  name_not h = name_none (and_left_false has_rest (and_right_false has_word (number_not word h)))

  pub name_said :
      (d : ℕ) → (end ≡ p → ⊥) → end < length line → number_of word ≡ Some d
      → name_line (unblanked line) ≡ says (name d (take (length line - (end + 1)) (drop (end + 1) line)))
  name_said d n l h =
      let i = number_is word d h in
      let a : 0 < length word = elim (dec_lt p end) [ yes m ↦ omega (arith, word_long line p end w) | no m ↦ absurd (n (omega (arith, w.ends.start))) ] in
      let b : 0 < length rest = omega (arith, length-drop end line) in
      by_parts ∙ if_true _ _ (and_both (and_both (lt-ltb _ _ a) i.0) (lt-ltb _ _ b)) ∙ rw (i.1, drop-drop, to_end) refl
