-- The layout's definitions, kind by kind and case by case.
use Prim.Native.Nat.{ℕ, zero, suc, ◌+◌, ◌-◌, ◌≤◌, ◌<◌}
use mathlib.Core.Path.{◌≡◌, refl}
use mathlib.Core.Bool.{Bool, true, false, ◌||◌}
use mathlib.Core.List.{List}
use native.Mathlib.Omega.{arith}
use native.Mathlib.Decide.{dec_lt}
use lib.ListN.{length}
use lib.Dec.{eqb, ltb}
use borrow.Author.Tests.{eqb-true, ltb-false, ne_eqb, lt-ltb, le-ltb}
use Rattle.laws.specs.Bools.{when◌then◌else◌}
use Rattle.laws.proofs.Bools.{case_bool, false_of, if_cases, or_left, or_right, or_neither, or_left_false, or_right_false}
use Rattle.layout.specs.Layout.{word, is_kind, head_of, tail_of, size_of, list_places, text_places, row_length, lacks_room, end_before}

-- Heads.

pub head_five : (k : ℕ) → eqb k 3 || eqb k 4 ≡ true → head_of k ≡ 5
unfolding head_of when◌then◌else◌
head_five k h = go (eqb k 1)
  where
    go : (b : Bool) → ◌≡◌ {A = ℕ} (when b || eqb k 3 || eqb k 4 then 5 else when eqb k 2 || eqb k 5 || eqb k 6 then 2 else 0) 5
    go true = refl
    go false = rw h refl

pub head_job : (k : ℕ) → k ≡ 1 → head_of k ≡ 5
unfolding head_of when◌then◌else◌
head_job k h = rw h refl

pub head_pick : (k : ℕ) → k ≡ 2 → head_of k ≡ 2
unfolding head_of when◌then◌else◌
head_pick k h = rw h refl

pub head_success : (k : ℕ) → k ≡ 3 → head_of k ≡ 5
unfolding head_of when◌then◌else◌
head_success k h = rw h refl

pub head_failure : (k : ℕ) → k ≡ 4 → head_of k ≡ 5
unfolding head_of when◌then◌else◌
head_failure k h = rw h refl

pub head_ask : (k : ℕ) → k ≡ 5 → head_of k ≡ 2
unfolding head_of when◌then◌else◌
head_ask k h = rw h refl

pub head_board : (k : ℕ) → k ≡ 6 → head_of k ≡ 2
unfolding head_of when◌then◌else◌
head_board k h = rw h refl

-- the kind that is left where it is known and none of the others
pub last_kind : (k : ℕ) → (head_of k ≡ 0 → ⊥) → (k ≡ 1 → ⊥) → (k ≡ 2 → ⊥) → (k ≡ 3 → ⊥) → (k ≡ 4 → ⊥) → (k ≡ 5 → ⊥) → k ≡ 6
unfolding head_of when◌then◌else◌
last_kind k h a b c d e =
    case_bool (eqb k 6) (eqb-true k 6) (λ f. absurd (h (rw (ne_eqb k 1 a, ne_eqb k 2 b, ne_eqb k 3 c, ne_eqb k 4 d, ne_eqb k 5 e, f) refl)))

pub nonzero : (n : ℕ) → (n ≡ 0 → ⊥) → 0 < n
nonzero zero h = absurd (h refl)
nonzero (suc n) h = omega arith

-- an index within the head is one within the numbers
pub inside : {i h x n : ℕ} → x ≡ h → x ≤ n → i < h → i < n
inside e l m = omega (arith, e, l, m)

module _ (words : List ℕ) where
  pub tail_job : word words 0 ≡ 1 → word words 4 ≡ tail_of words
  unfolding tail_of when◌then◌else◌
  tail_job h = rw h refl

  pub tail_none : (word words 0 ≡ 1 → ⊥) → 0 ≡ tail_of words
  unfolding tail_of when◌then◌else◌
  tail_none h = rw (ne_eqb (word words 0) 1 h) refl

  pub list_job : word words 0 ≡ 1 → word words 3 ≡ list_places words
  unfolding list_places when◌then◌else◌
  list_job h = rw h refl

  pub list_report : (word words 0 ≡ 1 → ⊥) → is_kind 3 words || is_kind 4 words ≡ true → word words 4 ≡ list_places words
  unfolding list_places when◌then◌else◌
  list_report n h = rw (ne_eqb (word words 0) 1 n, h) refl

  pub list_none : (word words 0 ≡ 1 → ⊥) → is_kind 3 words || is_kind 4 words ≡ false → 0 ≡ list_places words
  unfolding list_places when◌then◌else◌
  list_none n h = rw (ne_eqb (word words 0) 1 n, h) refl

  pub text_board : word words 0 ≡ 6 → word words 1 ≡ text_places words
  unfolding text_places when◌then◌else◌
  text_board h = rw h refl

  pub text_none : (word words 0 ≡ 6 → ⊥) → 0 ≡ text_places words
  unfolding text_places when◌then◌else◌
  text_none h = rw (ne_eqb (word words 0) 6 h) refl

-- Why a run ends, case by case.

pub size_is : (words : List ℕ) → size_of words ≡ head_of (word words 0) + tail_of words
unfolding size_of
size_is words = refl

pub sum_is : (words : List ℕ) (h t : ℕ) → h ≡ head_of (word words 0) → t ≡ tail_of words → h + t ≡ size_of words
sum_is words h t e f = omega (arith, size_is words)

-- the numbers compared with the head, and what is behind it with the tail
module _ (words : List ℕ) (h : ℕ) (e : h ≡ head_of (word words 0)) where
  pub short_head : length words < h → length words < size_of words
  short_head l = omega (arith, size_is words)

  pub short_tail : (t : ℕ) → t ≡ tail_of words → h ≤ length words → length words - h < t → length words < size_of words
  short_tail t f l m = omega (arith, size_is words)

  pub whole_of : (t : ℕ) → t ≡ tail_of words → h ≤ length words → t ≤ length words - h → size_of words ≤ length words
  whole_of t f l m = omega (arith, size_is words)

module _ (words : List ℕ) (answers lists texts : ℕ) where
  pub end_none : length words ≡ 0 → 1 ≡ end_before words answers lists texts
  unfolding end_before when◌then◌else◌
  end_none h = rw h refl

  pub end_unknown : (length words ≡ 0 → ⊥) → head_of (word words 0) ≡ 0 → 3 ≡ end_before words answers lists texts
  unfolding end_before when◌then◌else◌
  end_unknown n h = rw (ne_eqb (length words) 0 n, h) refl

  pub end_short : (length words ≡ 0 → ⊥) → (head_of (word words 0) ≡ 0 → ⊥) → length words < size_of words → 2 ≡ end_before words answers lists texts
  unfolding end_before when◌then◌else◌
  end_short n k h = rw (ne_eqb (length words) 0 n, ne_eqb (head_of (word words 0)) 0 k, lt-ltb (length words) (size_of words) h) refl

  -- the numbers are there: only room can be wanting
  module _ (n : length words ≡ 0 → ⊥) (k : head_of (word words 0) ≡ 0 → ⊥) (whole : size_of words ≤ length words) where
    pub end_full : lacks_room words answers lists texts ≡ true → 4 ≡ end_before words answers lists texts
    unfolding end_before when◌then◌else◌
    end_full h = rw (ne_eqb (length words) 0 n, ne_eqb (head_of (word words 0)) 0 k, le-ltb (length words) (size_of words) whole, h) refl

    pub end_not : lacks_room words answers lists texts ≡ false → 0 ≡ end_before words answers lists texts
    unfolding end_before when◌then◌else◌
    end_not h = rw (ne_eqb (length words) 0 n, ne_eqb (head_of (word words 0)) 0 k, le-ltb (length words) (size_of words) whole, h) refl

  pub lacks_row : answers < row_length → lacks_room words answers lists texts ≡ true
  unfolding lacks_room
  lacks_row h = or_left _ (or_left _ (lt-ltb answers row_length h))

  pub lacks_list : lists < list_places words → lacks_room words answers lists texts ≡ true
  unfolding lacks_room
  lacks_list h = or_left _ (or_right (ltb answers row_length) (lt-ltb lists (list_places words) h))

  pub lacks_text : texts < text_places words → lacks_room words answers lists texts ≡ true
  unfolding lacks_room
  lacks_text h = or_right (ltb answers row_length || ltb lists (list_places words)) (lt-ltb texts (text_places words) h)

  pub lacks_none : row_length ≤ answers → list_places words ≤ lists → text_places words ≤ texts → lacks_room words answers lists texts ≡ false
  unfolding lacks_room
  lacks_none r l t =
      or_neither (or_neither (le-ltb answers row_length r) (le-ltb lists (list_places words) l)) (le-ltb texts (text_places words) t)

-- the numbers of the ends
pub end_most : (words : List ℕ) (answers lists texts : ℕ) → end_before words answers lists texts ≤ 4
unfolding end_before
end_most words answers lists texts =
    one (eqb (length words) 0) (omega arith)
    (one (eqb (head_of (word words 0)) 0) (omega arith)
    (one (ltb (length words) (size_of words)) (omega arith) (one (lacks_room words answers lists texts) (omega arith) (omega arith))))
  where
    one : {x y : ℕ} (b : Bool) → x ≤ 4 → y ≤ 4 → (when b then x else y) ≤ 4
    one b h k = if_cases (λ n. n ≤ 4) b (λ e. h) (λ e. k)

-- What holds where it does not end.

pub record Ahead (words : List ℕ) (answers lists texts : ℕ) : Type 0 where
  pub some : length words ≡ 0 → ⊥
  pub known : head_of (word words 0) ≡ 0 → ⊥
  pub whole : size_of words ≤ length words
  pub row : row_length ≤ answers
  pub list : list_places words ≤ lists
  pub text : text_places words ≤ texts

pub ahead_of : (words : List ℕ) (answers lists texts : ℕ) → end_before words answers lists texts ≡ 0 → Ahead words answers lists texts
unfolding lacks_room
ahead_of words answers lists texts h =
    let some : length words ≡ 0 → ⊥ = λ e. omega (arith, h, end_none words answers lists texts e) in
    let known : head_of (word words 0) ≡ 0 → ⊥ = λ e. omega (arith, h, end_unknown words answers lists texts some e) in
    let whole : size_of words ≤ length words =
    elim (dec_lt (length words) (size_of words)) [
      | yes l ↦ absurd (omega (arith, h, end_short words answers lists texts some known l))
      | no l ↦ omega arith
    ] in
    let room : lacks_room words answers lists texts ≡ false = false_of (λ e. omega (arith, h, end_full words answers lists texts some known whole e)) in
    let both = or_left_false (ltb answers row_length || ltb lists (list_places words)) (ltb texts (text_places words)) room in
    record {
      some = some;
      known = known;
      whole = whole;
      row = ltb-false answers row_length (or_left_false (ltb answers row_length) (ltb lists (list_places words)) both);
      list = ltb-false lists (list_places words) (or_right_false (ltb answers row_length) (ltb lists (list_places words)) both);
      text = ltb-false texts (text_places words) (or_right_false (ltb answers row_length || ltb lists (list_places words)) (ltb texts (text_places words)) room);
    }
