-- A set-up made from numbers, part by part.
use Prim.Native.Nat.{ℕ, ◌+◌, ◌*◌, ◌-◌, ◌/◌, ◌≤◌, ◌<◌}
use mathlib.Core.Path.{◌≡◌, refl, ◌∙◌}
use Rattle.std.proofs.Common.{Bool, true, false, Some, None, eqb}
use Rattle.std.specs.Bool.{then_some}
use mathlib.Core.List.{List, [], ◌∷◌, ◌++◌}
use native.Mathlib.Nat.{div-lt_iff_lt-mul}
use native.Mathlib.Omega.{arith}
use lib.ListN.{length, drop}
use borrow.Author.Tests.{eqb-true, eqb-false, eq-eqb, ne_eqb, le-leb, lt-leb}
use Rattle.laws.specs.Bools.{when◌then◌else◌}
use Rattle.laws.specs.Range.{table_to}
use Rattle.laws.proofs.Fill.{fill_all}
use Rattle.rules.specs.declared.Settings.{Settings}
use Rattle.rules.specs.declared.Setup.{Setup}
use Rattle.rules.specs.State.{at, zero_settings}
use Rattle.lines.specs.Setups.{place_of_d, announced, count_place, settings_at, settings_in, homes_behind, setup_from}

-- Whether the numbers are as many as announced.

module _ (words : List ℕ) where
  not_announced : (length words ≡ place_of_d words + 1 + at words (place_of_d words) → ⊥) → None ≡ count_place words
  unfolding count_place announced when◌then◌else◌
  not_announced h = rw (ne_eqb (length words) (place_of_d words + 1 + at words (place_of_d words)) h) refl

  module _ (t : ℕ) (e : t ≡ at words 0) where
    pub too_many : length words / 13 < t → None ≡ count_place words
    too_many h = let l : length words < t * 13 = (div-lt_iff_lt-mul {k = 13} (omega arith)).0 h in not_announced (λ q. omega (arith, e, q))

    pub no_place : length words ≤ 1 + 13 * t → None ≡ count_place words
    no_place h = not_announced (λ q. omega (arith, e, q))

    module _ (d : ℕ) (f : d ≡ at words (1 + 13 * t)) (h : 1 + 13 * t < length words) where
      same_place : d ≡ at words (place_of_d words)
      same_place = rw e at f

      other_count : (d ≡ length words - (1 + 13 * t) - 1 → ⊥) → None ≡ count_place words
      other_count n = not_announced (λ q. n (omega (arith, e, q, same_place)))

      the_count : d ≡ length words - (1 + 13 * t) - 1 → Some (1 + 13 * t) ≡ count_place words
      unfolding count_place announced when◌then◌else◌
      the_count q =
          let k : length words ≡ place_of_d words + 1 + at words (place_of_d words) = omega (arith, e, q, same_place) in
          rw (eq-eqb (length words) (place_of_d words + 1 + at words (place_of_d words)) k, e) refl

      pub counted_as : then_some (eqb d (length words - (1 + 13 * t) - 1)) (1 + 13 * t) ≡ count_place words
      counted_as = go (eqb d (length words - (1 + 13 * t) - 1)) refl
        where
          go : (b : Bool) → eqb d (length words - (1 + 13 * t) - 1) ≡ b → then_some b (1 + 13 * t) ≡ count_place words
          go true e = the_count (eqb-true _ _ e)
          go false e = other_count (eqb-false _ _ e)

-- Settings.

pub settings_none : (words : List ℕ) (t i : ℕ) (g : Settings) → g ≡ zero_settings → t ≤ i → g ≡ settings_in words t i
unfolding settings_in when◌then◌else◌
settings_none words t i g e h = rw (le-leb t i h, e) refl

pub settings_made :
    (words : List ℕ) (t i : ℕ) (p : ℕ) → p ≡ 1 + 13 * i → i < t → {x0 x1 x2 x3 x4 x5 x6 x7 x8 x9 x10 x11 x12 : ℕ}
    → x0 ≡ at words p → x1 ≡ at words (p + 1) → x2 ≡ at words (p + 2) → x3 ≡ at words (p + 3) → x4 ≡ at words (p + 4)
    → x5 ≡ at words (p + 5) → x6 ≡ at words (p + 6) → x7 ≡ at words (p + 7) → x8 ≡ at words (p + 8) → x9 ≡ at words (p + 9)
    → x10 ≡ at words (p + 10) → x11 ≡ at words (p + 11) → x12 ≡ at words (p + 12)
    → ◌≡◌ {A = Settings}
    (record {
      agents = x0;
      cost = x1;
      loan = x2;
      discount = x3;
      minimum = x4;
      limit = x5;
      initial = x6;
      positive = record { percent = x7; form = x8 };
      negative = record { percent = x9; form = x10 };
      cohortlimit = x11;
      suspension = x12;
    })
    (settings_in words t i)
unfolding settings_in settings_at when◌then◌else◌
settings_made words t i p q h e0 e1 e2 e3 e4 e5 e6 e7 e8 e9 e10 e11 e12 =
    rw (lt-leb t i h, ← q, e0, e1, e2, e3, e4, e5, e6, e7, e8, e9, e10, e11, e12) refl

-- Homes, from the front on.

pub homes_made :
    (words : List ℕ) (p : ℕ) {l : List ℕ} (home : List ℕ) (n : ℕ) → length home ≡ 32 → n ≡ 32
    → l ≡ table_to (λ d. at words (p + 1 + d)) n ++ drop n home
    → l ≡ homes_behind words p
unfolding homes_behind
homes_made words p home n k h e = fill_all (λ d. at words (p + 1 + d)) home 32 k (e ∙ rw h refl)

-- The whole.

pub setup_made :
    (words : List ℕ) (p t : ℕ) → t ≡ at words 0 → {d : ℕ} {a b c e : Settings} {home : List ℕ}
    → a ≡ settings_in words t 0 → b ≡ settings_in words t 1 → c ≡ settings_in words t 2 → e ≡ settings_in words t 3
    → home ≡ homes_behind words p
    → d ≡ at words p
    → ◌≡◌ {A = Setup} (record { transports = t; settings = a ∷ b ∷ c ∷ e ∷ []; destinations = d; home = home }) (setup_from words p)
unfolding setup_from table_to
setup_made words p t q ea eb ec ee eh ed = rw (ea, eb, ec, ee, eh, ed, q) refl
