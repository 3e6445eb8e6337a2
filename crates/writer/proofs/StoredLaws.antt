-- Bytes stored at a place: one behind the other, number after number, group after group.
use Prim.Native.Nat.{ℕ, zero, suc, ◌+◌, ◌/◌, ◌%◌, ◌^◌, ◌≤◌, ◌<◌}
use mathlib.Core.Path.{◌≡◌, refl, sym, ◌∙◌, ap, subst}
use mathlib.Core.List.{List, [], ◌∷◌, ◌++◌}
use native.Mathlib.Nat.{pow-suc}
use native.Mathlib.Omega.{arith}
use lib.ListN.{length, get_or, set, take, length-append, length-set}
use lib.Seq.{length-sets, take_all}
use Rattle.laws.proofs.Writing.{sets_append}
use Rattle.journal.specs.Writes.{groups_of, number_bytes, numbers_bytes}
use Rattle.journal.proofs.Groups.{groups_one, groups_more}
use Rattle.writer.specs.Parts.{Stored}
use Rattle.writer.proofs.NumberLaws.{size_some, numbers_next, next_fits}

pub stored_length : {a e x : List ℕ} {at r : ℕ} → Stored a e at x r → length x ≡ length e
stored_length {a} {e} {at} v = ap length v.stored ∙ length-sets e at a

pub stored_as : {a b e x : List ℕ} {at r : ℕ} → a ≡ b → Stored a e at x r → Stored b e at x r
stored_as {e} {x} {at} {r} h v = subst (λ t. Stored t e at x r) h v

stored_one : {b at : ℕ} {e : List ℕ} → Stored (b ∷ []) e at (set e at b) (at + 1)
stored_one = record { stored = refl; next = refl }

-- one behind the other
pub stored_more : {a b e x y : List ℕ} {at r q : ℕ} → Stored a e at x r → Stored b x r y q → Stored (a ++ b) e at y q
stored_more {a} {b} {e} {at} v w =
    record {
      stored = w.stored ∙ rw (v.next, v.stored) (sym (sets_append a b e at));
      next = rw length-append (omega (arith, v.next, w.next));
    }

-- Number after number of a list.

pub stored_no_number : (list e : List ℕ) (at : ℕ) → Stored (numbers_bytes (take 0 list)) e at e at
unfolding numbers_bytes
stored_no_number list e at = record { stored = refl; next = omega arith }

module _ (list : List ℕ) (i : ℕ) {e x : List ℕ} {at p : ℕ} (v : Stored (numbers_bytes (take i list)) e at x p) where
  pub next_room : i < length list → at + length (numbers_bytes list) ≤ length e → p + length (number_bytes (get_or list i 0)) ≤ length x
  next_room h l = omega (arith, l, v.next, stored_length v, next_fits list i h)

  pub stored_next : {y : List ℕ} {q : ℕ} → i < length list → Stored (number_bytes (get_or list i 0)) x p y q → Stored (numbers_bytes (take (i + 1) list)) e at y q
  stored_next h w = stored_as (sym (numbers_next list i h)) (stored_more v w)

  pub stored_all : length list ≤ i → Stored (numbers_bytes list) e at x p
  stored_all h = stored_as (ap numbers_bytes (take_all i list h)) v

-- Group after group of a number.

-- what is left of x is y, with at most `suc most` groups: where they are stored from p on, x is stored
pub record Left (x : ℕ) (e : List ℕ) (at : ℕ) (b : List ℕ) (p y : ℕ) : Type 0 where
  pub most : ℕ
  pub small : y < 128 ^ suc most
  pub long : length b ≡ length e
  pub room : p + length (groups_of (suc most) y) ≤ length b
  pub rest : (z : List ℕ) (r : ℕ) → Stored (groups_of (suc most) y) b p z r → Stored (number_bytes x) e at z r

module _ (x : ℕ) (e : List ℕ) (at : ℕ) where
  pub left_start : x < 4_294_967_296 → at + length (number_bytes x) ≤ length e → Left x e at e at x
  unfolding number_bytes
  left_start h l = record { most = 4; small = omega (arith, h); long = refl; room = l; rest = λ z r v. v }

  module _ {b : List ℕ} (p y : ℕ) (v : Left x e at b p y) where
    pub left_room : p < length b
    left_room = omega (arith, v.room, size_some v.most y)

    pub left_more : 128 ≤ y → Left x e at (set b p (128 + y % 128)) (p + 1) (y / 128)
    left_more h = step v.most v.small v.room v.rest
      where
        step :
            (most : ℕ)
            → y < 128 ^ suc most
            → p + length (groups_of (suc most) y) ≤ length b
            → ((z : List ℕ) (r : ℕ) → Stored (groups_of (suc most) y) b p z r → Stored (number_bytes x) e at z r)
            → Left x e at (set b p (128 + y % 128)) (p + 1) (y / 128)
        step zero s l f = absurd (omega (arith, s, h))
        step (suc most) s l f =
            record {
              most = most;
              small = omega (arith, s, pow-suc 128 (suc most));
              long = length-set b p _ ∙ v.long;
              room = rw length-set (omega (arith, rw (groups_more (suc most) y h) at l));
              rest = λ z r w. f z r (stored_as (sym (groups_more (suc most) y h)) (stored_more stored_one w));
            }

    pub left_last : y < 128 → Stored (number_bytes x) e at (set b p y) (p + 1)
    left_last h = v.rest _ _ (stored_as (sym (groups_one v.most y h)) stored_one)
