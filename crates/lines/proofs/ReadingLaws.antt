-- The words of a line read as numbers, one after the other.
use Prim.Native.Nat.{ℕ, ◌+◌, ◌*◌, ◌-◌, ◌≤◌, ◌<◌}
use mathlib.Core.Path.{◌≡◌, refl, sym, ◌∙◌, ap}
use mathlib.Core.Bool.{Bool, true, false}
use mathlib.Core.List.{List, [], ◌∷◌, ◌++◌, append-nil, append_assoc}
use native.Mathlib.Omega.{arith}
use native.Mathlib.Numerals.{add-one}
use native.Mathlib.Decide.{dec_lt}
use borrow.Author.Tests.{not-true}
use lib.ListN.{length, set, take, drop, length-set, drop_of_length-le}
use lib.Seq.{take-suc-set}
use Rattle.laws.specs.Bools.{when◌then◌else◌}
use Rattle.laws.proofs.Bools.{and_left_false, true_not_false}
use Rattle.std.proofs.Common.{Some, None}
use Rattle.lines.specs.Words.{pieces, not_empty, words_of, value_of, is_number, all_numbers, numbers_of, number_of, FirstFrom, is_byte, not_blank, Read}
use Rattle.lines.proofs.WordLaws.{words_skip, words_first}

-- A number, or none.

module _ (word : List ℕ) where
  pub number_is : (x : ℕ) → number_of word ≡ Some x → (is_number word ≡ true) × (value_of word ≡ x)
  unfolding number_of when◌then◌else◌
  number_is x h = go (is_number word) refl h
    where
      go : (b : Bool) → is_number word ≡ b → (when b then Some (value_of word) else None) ≡ Some x → (is_number word ≡ true) × (value_of word ≡ x)
      go true e h = (e, cc)
      go false e h = let z : ◌≡◌ {A = ℕ} 0 1 = cc in absurd (omega arith)

  pub number_not : number_of word ≡ None → is_number word ≡ false
  unfolding number_of when◌then◌else◌
  number_not h = go (is_number word) refl h
    where
      go : (b : Bool) → is_number word ≡ b → (when b then Some (value_of word) else None) ≡ None → is_number word ≡ false
      go true e h = let z : ◌≡◌ {A = ℕ} 0 1 = cc in absurd (omega arith)
      go false e h = e

pub words_none : (s : List ℕ) (at : ℕ) → length s ≤ at → words_of (drop at s) ≡ []
unfolding words_of pieces not_empty
words_none s at h = rw (drop_of_length-le s {i = at} h) refl

-- The words before `at` are numbers, `count` of them, and stand at the front of `out`.
pub record Reading (s : List ℕ) (from : ℕ) (out₀ out : List ℕ) (count at : ℕ) : Type 0 where
  pub long : length out ≡ length out₀
  pub low : from ≤ at
  pub within : at ≤ length s
  pub begun : at < length s → not_blank s at ≡ true
  pub room : at < length s → 2 * count + from ≤ at
  pub fits : count ≤ length out
  pub told : all_numbers (words_of (drop from s)) ≡ all_numbers (words_of (drop at s))
  pub front : numbers_of (words_of (drop from s)) ≡ take count out ++ numbers_of (words_of (drop at s))

-- what blanks stand before a place makes no difference
pub skipped : (s : List ℕ) (from at : ℕ) → FirstFrom (not_blank s) from (length s) at → words_of (drop from s) ≡ words_of (drop at s)
skipped s from at f = words_skip s (at - from) from at (omega (arith, f.start)) f.end f.before

pub reading_start : (s : List ℕ) (from : ℕ) (out : List ℕ) (at : ℕ) → FirstFrom (not_blank s) from (length s) at → Reading s from out out 0 at
reading_start s from out at f =
    record {
      long = refl;
      low = f.start;
      within = f.end;
      begun = f.there;
      room = λ h. omega (arith, f.start);
      fits = omega arith;
      told = ap all_numbers (skipped s from at f);
      front = ap numbers_of (skipped s from at f);
    }

module _ (s : List ℕ) (from : ℕ) (out₀ out : List ℕ) (count at : ℕ) (r : Reading s from out₀ out count at) where
  pub reading_end : length s ≤ at → Read (words_of (drop from s)) true count out
  unfolding all_numbers when◌then◌else◌
  reading_end h =
      let e : words_of (drop at s) ≡ [] = words_none s at h in
      record {
        told = sym (r.told ∙ ap all_numbers e);
        fits = r.fits;
        front = sym (r.front ∙ ap (λ ws. take count out ++ numbers_of ws) e ∙ append-nil (take count out));
      }

  module _ (h : at < length s) (enough : length s ≤ from + 2 * length out₀) where
    pub reading_room : count < length out
    reading_room = omega (arith, r.room h, r.long)

    -- the word at the place, and what follows it
    module _ (end : ℕ) (f : FirstFrom (is_byte s 32) (at + 1) (length s) end) where
      abbrev word : List ℕ
      word = take (end - at) (drop at s)

      next : words_of (drop at s) ≡ word ∷ words_of (drop end s)
      next = words_first s at end (r.begun h) f

      pub reading_not : number_of word ≡ None → Read (words_of (drop from s)) false 0 out
      unfolding all_numbers when◌then◌else◌
      reading_not e =
          record {
            told = sym (r.told ∙ ap all_numbers next ∙ and_left_false _ (number_not word e));
            fits = omega arith;
            front = refl;
          }

      module _ (x : ℕ) (e : number_of word ≡ Some x) (at₁ : ℕ) (g : FirstFrom (not_blank s) end (length s) at₁) where
        pub reading_more : Reading s from out₀ (set out count x) (count + 1) at₁
        unfolding all_numbers
        reading_more =
            let w : words_of (drop at s) ≡ word ∷ words_of (drop at₁ s) = next ∙ ap (λ ws. word ∷ ws) (skipped s end at₁ g) in
            let n = number_is word x e in
            let moved : take (count + 1) (set out count x) ≡ take count out ++ (x ∷ []) = rw add-one (take-suc-set out count x reading_room) in
            record {
              long = length-set out count x ∙ r.long;
              low = omega (arith, r.low, f.start, g.start);
              within = g.end;
              begun = g.there;
              room = λ l. omega (arith, r.room h, f.start, parted l);
              fits = omega (arith, length-set out count x, reading_room);
              told = r.told ∙ ap all_numbers w ∙ rw n.0 refl;
              front = r.front ∙ ap (λ ws. take count out ++ numbers_of ws) w ∙ rw (n.1, moved, append_assoc) refl;
            }
          where
            -- a blank stands between the word and the next
            parted : at₁ < length s → end < at₁
            parted l = elim (dec_lt end at₁) [
              | yes m ↦ m
              | no m ↦
                  let q : end ≡ at₁ = omega (arith, g.start) in
                  true_not_false (f.there (omega arith)) (not-true (is_byte s 32 end) (rw q (g.there l)))
            ]
