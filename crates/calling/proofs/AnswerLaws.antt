-- A line is nothing, malformed, or the call of its words.
use Prim.Native.Nat.{ℕ, ◌-◌, ◌≤◌, ◌<◌}
use mathlib.Core.Path.{◌≡◌, refl, sym, ◌∙◌, ap}
use mathlib.Core.Bool.{Bool, true, false}
use mathlib.Core.List.{List, [], ◌∷◌}
use lib.ListN.{length, take, drop}
use lib.Dec.{eqb}
use borrow.Author.Tests.{ne_eqb}
use Rattle.laws.specs.Bools.{when◌then◌else◌}
use Rattle.laws.proofs.Bools.{case_bool}
use Rattle.rules.specs.State.{at}
use Rattle.lines.specs.Words.{words_of, all_numbers, numbers_of, FirstFrom, is_byte, not_blank, Read}
use Rattle.lines.proofs.WordLaws.{blank_behind, words_first}
use Rattle.lines.proofs.ReadingLaws.{words_none, skipped}
use Rattle.calling.specs.Meaning.{nothing, malformed, call_line, meaning_of_words, meaning_of}

module _ (line list text : List ℕ) where
  pub is_comment : at line 0 ≡ 35 → meaning_of line list text ≡ nothing
  unfolding meaning_of when◌then◌else◌
  is_comment h = rw h refl

  not_comment : (at line 0 ≡ 35 → ⊥) → meaning_of line list text ≡ meaning_of_words (words_of line) list text
  unfolding meaning_of when◌then◌else◌
  not_comment n = rw (ne_eqb (at line 0) 35 n) refl

  pub is_empty : (p : ℕ) → FirstFrom (not_blank line) 0 (length line) p → length line ≤ p → meaning_of line list text ≡ nothing
  unfolding meaning_of_words meaning_of when◌then◌else◌
  is_empty p f h =
      let e : words_of line ≡ [] = skipped line 0 p f ∙ words_none line p h in
      case_bool (eqb (at line 0) 35) (λ t. rw t refl) (λ n. rw (n, e) refl)

  -- a line with a name, from p up to end
  module _ (p end : ℕ) (f : FirstFrom (not_blank line) 0 (length line) p) (h : p < length line) (n : at line 0 ≡ 35 → ⊥)
      (g : FirstFrom (is_byte line 32) p (length line) end) where
    abbrev name : List ℕ
    name = take (end - p) (drop p line)

    its_words : meaning_of line list text ≡ meaning_of_words (name ∷ words_of (drop end line)) list text
    its_words =
        not_comment n ∙ ap (λ ws. meaning_of_words ws list text)
        (skipped line 0 p f ∙ words_first line p end (f.there h) (blank_behind line p end h (f.there h) g))

    module _ (w : Bool) (k : ℕ) (words : List ℕ) (r : Read (words_of (drop end line)) w k words) where
      pub is_malformed : w ≡ false → meaning_of line list text ≡ malformed
      unfolding meaning_of_words when◌then◌else◌
      is_malformed e = let b : all_numbers (words_of (drop end line)) ≡ false = sym r.told ∙ e in rw (its_words, b) refl

      pub is_call : w ≡ true → meaning_of line list text ≡ call_line name (take k words) list text
      unfolding meaning_of_words when◌then◌else◌
      is_call e =
          let b : all_numbers (words_of (drop end line)) ≡ true = sym r.told ∙ e in
          let m : take k words ≡ numbers_of (words_of (drop end line)) = r.front ∙ rw e refl in
          rw (its_words, b, ← m) refl
