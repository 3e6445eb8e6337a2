-- Laws of writers: one after another, each lent the rest of the buffer.
use Prim.Native.Nat.{ℕ, suc, ◌+◌, ◌-◌, ◌≤◌, ◌<◌}
use mathlib.Core.Path.{◌≡◌, refl, sym, ap, subst, ◌∙◌}
use mathlib.Core.List.{List, [], ◌∷◌, ◌++◌, append_assoc, append-nil}
use native.Mathlib.Nat.{le_refl}
use native.Mathlib.Omega.{arith}
use lib.ListN.{length, take, drop, set, length-append, length-drop, drop_of_length-le}
use lib.Seq.{sets, sets-eq, take_at, drop_at, drop-drop, drop-append-add, take_all}
use borrow.Rule.Slice.PartMut.{put_mid, mid_of}
use Rattle.laws.specs.Wrote.{Wrote}
use Rattle.laws.proofs.Front.{length_front, front_more}

pub wrote_length : {a e x : List ℕ} {r : ℕ} → Wrote a e x r → length a ≤ length e → length x ≡ length e
wrote_length {a} {e} w l = ap length w.bytes ∙ length_front a e l

module _ {a e x : List ℕ} {r : ℕ} (w : Wrote a e x r) where
  front_is : take r x ≡ a
  front_is = rw (w.count, w.bytes) (take_at a (drop (length a) e) (length a) refl)

  pub back_is : drop r x ≡ drop (length a) e
  back_is = rw (w.count, w.bytes) (drop_at a (drop (length a) e) (length a) refl)

  rest_is : mid_of r (length x - r) x ≡ drop (length a) e
  rest_is = take_all (length x - r) (drop r x) (rw length-drop (le_refl _)) ∙ back_is

  rest_length : length (mid_of r (length x - r) x) ≡ length e - length a
  rest_length = ap length rest_is ∙ length-drop (length a) e

  -- a second text behind the first, by a writer that is lent the rest of the buffer
  pub behind : {b z : List ℕ} {q : ℕ} → Wrote b (mid_of r (length x - r) x) z q → Wrote (a ++ b) e (put_mid r (length x - r) x z) (r + q)
  behind {b} {z} v =
      let n : z ++ drop (length x - r) (drop r x) ≡ b ++ drop (length b) (drop (length a) e) =
      ap (λ l. z ++ l) (drop_of_length-le (drop r x) {i = length x - r} (rw length-drop (le_refl _))) ∙ append-nil z ∙ v.bytes ∙ ap (λ l. b ++ drop (length b) l) rest_is in
      record {
        count = simp length-append (omega (arith, w.count, v.count));
        bytes = rw (front_is, n, length-append, ← drop-drop, append_assoc);
      }

  -- a second text behind the first, by a writer that is lent a part of just that text's length
  pub beside : (b : List ℕ) (k : ℕ) → k ≡ length b → Wrote (a ++ b) e (put_mid r k x b) (r + length b)
  beside b k h =
      record {
        count = simp length-append (omega (arith, w.count));
        bytes = rw (front_is, back_is, h, length-append, ← drop-drop, append_assoc);
      }

  -- What lending the rest asks: that it starts within the buffer, that the second text has room there, and that its end is a number.

  pub start_fits : length a ≤ length e → r ≤ length x
  start_fits l = let n = wrote_length w l in omega (arith, w.count)

  pub rest_fits : (b : List ℕ) → length (a ++ b) ≤ length e → length b ≤ length (mid_of r (length x - r) x)
  rest_fits b l = rw rest_length (let n = rw length-append at l in omega arith)

  pub end_fits : {b z : List ℕ} {q : ℕ} → Wrote b (mid_of r (length x - r) x) z q → length (a ++ b) ≤ length e → r + q ≤ length e
  end_fits {b} v l = let n = rw length-append at l in omega (arith, w.count, v.count)

-- The text so far may be counted from the buffer as a first writer left it.

pub wrote_again : {a e x : List ℕ} {r : ℕ} → Wrote a e x r → Wrote a x x r
wrote_again {a} {e} w = record { count = w.count; bytes = w.bytes ∙ ap (λ l. a ++ l) (sym (ap (drop (length a)) w.bytes ∙ drop_at a (drop (length a) e) (length a) refl)) }

pub wrote_since : {a e x : List ℕ} {r : ℕ} (b : List ℕ) {y : List ℕ} {q : ℕ} → Wrote a e x r → Wrote (a ++ b) x y q → Wrote (a ++ b) e y q
wrote_since {a} {e} b w v =
    record {
      count = v.count;
      bytes = v.bytes ∙ ap (λ l. (a ++ b) ++ l) (rw (w.bytes, length-append, drop-append-add, drop-drop));
    }

-- a buffer with room for two texts has room for the first
pub front_fits : (a b : List ℕ) {n : ℕ} → length (a ++ b) ≤ n → length a ≤ n
front_fits a b l = let m = rw length-append at l in omega arith

-- the same text under another name
pub fits_as : {a b : List ℕ} {n : ℕ} → a ≡ b → length a ≤ n → length b ≤ n
fits_as {n} h l = subst (λ t. length t ≤ n) h l

pub wrote_as : {a b e x : List ℕ} {r : ℕ} → a ≡ b → Wrote a e x r → Wrote b e x r
wrote_as {e} {x} {r} h w = subst (λ t. Wrote t e x r) h w

-- Byte by byte.

pub wrote_none : (e : List ℕ) → Wrote [] e e 0
wrote_none e = record { count = refl; bytes = refl }

pub wrote_one : {a e x : List ℕ} {r : ℕ} (v : ℕ) → Wrote a e x r → length a < length e → Wrote (a ++ (v ∷ [])) e (set x r v) (r + 1)
wrote_one {a} {e} v w l =
    record {
      count = simp length-append (omega (arith, w.count));
      bytes = rw (w.bytes, w.count) (front_more a e v l);
    }

-- the first i bytes of a text are copied into a buffer that has room for it
pub record Copied (text e x : List ℕ) (i : ℕ) : Type 0 where
  pub wrote : Wrote (take i text) e x i
  pub below : i ≤ length text
  pub fits : length text ≤ length e

-- Texts stored at a place: one behind the other, or copied by a writer that is lent the rest of the buffer.

pub sets_append : (a b l : List ℕ) (i : ℕ) → sets l i (a ++ b) ≡ sets (sets l i a) (i + length a) b
sets_append [] b l i = let e : i + 0 ≡ i = omega arith in rw e refl
sets_append (x ∷ a) b l i = let e : i + suc (length a) ≡ suc i + length a = omega arith in rw e (sets_append a b (set l i x) (suc i))

pub sets_copied :
    (word e : List ℕ) (at : ℕ) (z : List ℕ)
    → at + length word ≤ length e
    → z ≡ take (length word) word ++ drop (length word) (mid_of at (length e - at) e)
    → put_mid at (length e - at) e z ≡ sets e at word
sets_copied word e at z h b =
    ap (λ l. take at e ++ l) copied ∙ sym (append_assoc (take at e) word _) ∙ sym (sets-eq word e at h)
  where
    copied : z ++ drop (length e - at) (drop at e) ≡ word ++ drop (at + length word) e
    copied =
        let whole : mid_of at (length e - at) e ≡ drop at e = take_all (length e - at) (drop at e) (rw length-drop (le_refl _)) in
        ap (λ l. z ++ l) (drop_of_length-le (drop at e) {i = length e - at} (rw length-drop (le_refl _))) ∙ append-nil z ∙ b
        ∙ ap (λ l. l ++ drop (length word) (mid_of at (length e - at) e)) (take_all (length word) word (le_refl _))
        ∙ ap (λ l. word ++ drop (length word) l) whole
        ∙ ap (λ l. word ++ l) (drop-drop (length word) at e)
