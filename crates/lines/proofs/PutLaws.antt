-- Texts put one behind the other, and what a text is made of.
use Prim.Native.Nat.{ℕ, suc, ◌+◌, ◌-◌, ◌≤◌, ◌<◌, min}
use mathlib.Core.Path.{◌≡◌, refl, sym, ◌∙◌, ap, subst}
use mathlib.Core.List.{List, [], ◌∷◌, ◌++◌, append-nil, append_assoc, map, map-append}
use native.Mathlib.Omega.{arith}
use native.Mathlib.Numerals.{add-one}
use native.Mathlib.Decide.{ℕ_discrete, dec_lt}
use lib.ListN.{length, get_or, set, take, drop, length-append, take-append-drop, drop_of_length-le}
use lib.Seq.{sets, sets-eq, length-sets, drop-drop, set_out, take-suc, take_at, take_all, length-take-le}
use borrow.Rule.Slice.PartMut.{put_mid}
use borrow.Author.Tests.{eq-eqb, ne_eqb}
use Rattle.laws.specs.Bools.{when◌then◌else◌}
use Rattle.laws.specs.Wrote.{Wrote}
use Rattle.laws.proofs.Writing.{sets_append}
use Rattle.rules.specs.Board.{numbered}
use Rattle.lines.specs.Texts.{Put, numbers, shown_byte}

sets_out : (vs l : List ℕ) (i : ℕ) → length l ≤ i → sets l i vs ≡ l
sets_out [] l i h = refl
sets_out (a ∷ vs) l i h = ap (λ k. sets k (suc i) vs) (set_out l i a h) ∙ sets_out vs l (suc i) (omega arith)

pub put_none : (e : List ℕ) (at : ℕ) → Put [] e at e at
put_none e at = record { bytes = refl; next = omega arith }

pub put_in : (b : ℕ) (e : List ℕ) (at : ℕ) → at < length e → Put (b ∷ []) e at (set e at b) (at + 1)
put_in b e at h = record { bytes = refl; next = omega arith }

pub put_out : (b : ℕ) (e : List ℕ) (at : ℕ) → length e ≤ at → Put (b ∷ []) e at e at
put_out b e at h = record { bytes = sym (set_out e at b h); next = omega arith }

-- one behind the other
pub put_more : {a b e x y : List ℕ} {at r q : ℕ} → Put a e at x r → Put b x r y q → Put (a ++ b) e at y q
put_more {a} {b} {e} {x} {y} {at} {r} {q} v w = record { bytes = w.bytes ∙ stored ∙ sym (sets_append a b e at); next = rw length-append (omega (arith, v.next, w.next, long)) }
  where
    long : length x ≡ length e
    long = ap length v.bytes ∙ length-sets e at a

    stored : sets x r b ≡ sets (sets e at a) (at + length a) b
    stored = elim (ℕ_discrete r (at + length a)) [
      | yes h ↦ ap (λ k. sets x k b) h ∙ ap (λ l. sets l (at + length a) b) v.bytes
      | no h ↦
          sets_out b x r (omega (arith, v.next, long)) ∙ v.bytes
          ∙ sym (sets_out b (sets e at a) (at + length a) (omega (arith, v.next, length-sets e at a)))
    ]

-- of a text by cases, in the case that is given
pub put_case {ℓ} : {A : Type ℓ} (f : A → List ℕ) {a b : A} {e x : List ℕ} {at r : ℕ} → a ≡ b → Put (f b) e at x r → Put (f a) e at x r
put_case f {e} {x} {at} {r} h v = subst (λ t. Put t e at x r) (sym (ap f h)) v

-- the same text under another name
pub put_as : {a b e x : List ℕ} {at r : ℕ} → a ≡ b → Put a e at x r → Put b e at x r
put_as {e} {x} {at} {r} h v = subst (λ t. Put t e at x r) h v

-- A word that is copied to a place, as far as there is room.

pub put_past : (word e : List ℕ) (at : ℕ) → length e ≤ at → Put word e at e at
put_past word e at h = record { bytes = sym (sets_out word e at h); next = omega arith }

module _ (word e : List ℕ) (at n : ℕ) (h : at ≤ length e) (room : n ≡ min (length word) (length e - at)) where
  part_length : length (take n word) ≡ n
  part_length = length-take-le n word (omega (arith, room))

  -- what is left out would stand past the end
  sets_part : sets e at (take n word) ≡ sets e at word
  sets_part =
      let rest : sets (sets e at (take n word)) (at + length (take n word)) (drop n word) ≡ sets e at (take n word) =
      elim (dec_lt n (length word)) [
        | yes l ↦ sets_out (drop n word) (sets e at (take n word)) _ (omega (arith, length-sets e at (take n word), part_length, room))
        | no l ↦ ap (sets (sets e at (take n word)) (at + length (take n word))) (drop_of_length-le word {i = n} (omega arith))
      ] in
      sym rest ∙ sym (sets_append (take n word) (drop n word) e at) ∙ ap (sets e at) (take-append-drop n word)

  pub put_copied : (z : List ℕ) → z ≡ take n word → Put word e at (put_mid at (at + n - at) e z) (at + n)
  put_copied z b = record { bytes = stored ∙ sets_part; next = omega (arith, part_length, room) }
    where
      stored : put_mid at (at + n - at) e z ≡ sets e at (take n word)
      stored =
          let k : at + n - at ≡ length (take n word) = omega (arith, part_length) in
          let tail : drop (length (take n word)) (drop at e) ≡ drop (at + length (take n word)) e = drop-drop (length (take n word)) at e in
          let whole = sets-eq (take n word) e at (omega (arith, part_length, room)) in
          rw (b, k) (ap (λ l. take at e ++ (take n word ++ l)) tail ∙ sym (append_assoc (take at e) (take n word) _) ∙ sym whole)

-- Number after numbered of a list.

numbers_append : (a b : List ℕ) → numbers (a ++ b) ≡ numbers a ++ numbers b
unfolding numbers
numbers_append [] b = refl
numbers_append (x ∷ a) b = ap (λ l. numbered x ++ l) (numbers_append a b) ∙ sym (append_assoc (numbered x) (numbers a) (numbers b))

numbers_one : (x : ℕ) → numbers (x ∷ []) ≡ numbered x
unfolding numbers
numbers_one x = append-nil (numbered x)

pub put_no_number : (list e : List ℕ) (at : ℕ) → Put (numbers (take 0 list)) e at e at
unfolding numbers
put_no_number list e at = put_none e at

module _ (list e : List ℕ) (at i : ℕ) {x : List ℕ} {p : ℕ} (v : Put (numbers (take i list)) e at x p) where
  pub put_next_number : {y : List ℕ} {q : ℕ} → i < length list → Put (numbered (get_or list i 0)) x p y q → Put (numbers (take (i + 1) list)) e at y q
  put_next_number h w =
      put_as
      (ap (λ l. numbers (take i list) ++ l) (sym (numbers_one (get_or list i 0))) ∙ sym (numbers_append (take i list) (get_or list i 0 ∷ []))
      ∙ sym (ap numbers (ap (λ k. take k list) (add-one i) ∙ take-suc list i 0 h)))
      (put_more v w)

-- as many as asked, or all

pub take_min : (n : ℕ) (l : List ℕ) {k : ℕ} → k ≡ min n (length l) → take k l ≡ take n l
take_min n l {k} e = elim (dec_lt n (length l)) [
  | yes m ↦ let f : k ≡ n = omega arith in rw f
  | no m ↦ take_all k l (omega arith) ∙ sym (take_all n l (omega arith))
]

pub take_most : (n : ℕ) (l : List ℕ) {k i : ℕ} → k ≡ min n (length l) → length (take k l) ≤ i → take i (take k l) ≡ take n l
take_most n l {k} {i} e h = take_all i (take k l) h ∙ take_min n l e

-- Byte after byte of a text that is shown.

pub put_no_shown : (text e : List ℕ) (at : ℕ) → Put (map shown_byte (take 0 text)) e at e at
put_no_shown text e at = put_none e at

module _ (text e : List ℕ) (at i : ℕ) {x : List ℕ} {p : ℕ} (v : Put (map shown_byte (take i text)) e at x p) where
  pub put_next_shown : {b : ℕ} {y : List ℕ} {q : ℕ} → i < length text → b ≡ shown_byte (get_or text i 0) → Put (b ∷ []) x p y q → Put (map shown_byte (take (i + 1) text)) e at y q
  put_next_shown {b} h s w =
      put_as
      (ap (λ z. map shown_byte (take i text) ++ (z ∷ [])) s ∙ sym (map-append shown_byte (take i text) (get_or text i 0 ∷ []))
      ∙ sym (ap (map shown_byte) (ap (λ k. take k text) (add-one i) ∙ take-suc text i 0 h)))
      (put_more v w)

pub shown_end : (b : ℕ) → b ≡ 10 → 124 ≡ shown_byte b
unfolding shown_byte when◌then◌else◌
shown_end b h = rw (eq-eqb b 10 h) refl

pub shown_other : (b : ℕ) → (b ≡ 10 → ⊥) → b ≡ shown_byte b
unfolding shown_byte when◌then◌else◌
shown_other b h = rw (ne_eqb b 10 h) refl

-- A word that another writer put at the front of a buffer.

pub wrote_front : {word e x : List ℕ} {r : ℕ} → Wrote word e x r → word ≡ take r x
wrote_front {word} {e} w = sym (rw (w.count, w.bytes) (take_at word (drop (length word) e) (length word) refl))
