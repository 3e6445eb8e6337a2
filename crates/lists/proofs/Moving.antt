-- Moving x directly before y in one pass: x is left out, and put where y is met. The same as `move_before` where y is met once.
use Prim.Native.Nat.{ℕ, ◌+◌, ◌≤◌, ◌<◌}
use mathlib.Core.Bool.{false, not}
use mathlib.Core.Path.{◌≡◌, refl, sym, ap, ◌∙◌}
use mathlib.Core.Logic.{◌≢◌}
use mathlib.Core.List.{List, [], ◌∷◌, ◌++◌, append_assoc, append-nil}
use native.Mathlib.Numerals.{add-one}
use native.Mathlib.Omega.{arith}
use lib.Dec.{eqb}
use lib.ListN.{length, get_or, take, drop, set, length-append, take-append-drop}
use lib.Seq.{take-suc}
use borrow.Author.Tests.{eqb-true, eq-eqb, ne_eqb}
use Rattle.laws.specs.Bools.{when◌then◌else◌}
use Rattle.laws.specs.Sequence.{keep, holds, times_in, insert_before, move_before, padded}
use Rattle.laws.proofs.Bools.{case_bool, false_of}
use Rattle.laws.proofs.Sequence.{times_tail_le, times_head_once, lacks_head, lacks_tail, holds_of_times}
use Rattle.laws.proofs.Move.{length_move}
use Rattle.laws.proofs.Building.{put_at}
use Rattle.laws.proofs.Front.{length_snoc}

unfoldable pub moved : ℕ → ℕ → List ℕ → List ℕ
moved x y [] = []
moved x y (z ∷ l) = when eqb z x then moved x y l else when eqb z y then x ∷ z ∷ moved x y l else z ∷ moved x y l

module _ (x y : ℕ) where
  moved_append : (l m : List ℕ) → moved x y (l ++ m) ≡ moved x y l ++ moved x y m
  unfolding moved when◌then◌else◌
  moved_append [] m = refl
  moved_append (z ∷ l) m =
      case_bool (eqb z x)
      (λ t. rw (t, moved_append l m))
      (λ f. case_bool (eqb z y) (λ t. rw (f, t, moved_append l m)) (λ g. rw (f, g, moved_append l m)))

  -- where y is not met, x is only taken out
  moved_none : (l : List ℕ) → holds y l ≡ false → moved x y l ≡ keep (λ z. not (eqb z x)) l
  unfolding moved keep when◌then◌else◌
  moved_none [] h = refl
  moved_none (z ∷ l) h =
      let g : eqb z y ≡ false = ne_eqb z y (λ e. lacks_head y z l h (sym e)) in
      let r = moved_none l (lacks_tail y z l h) in
      case_bool (eqb z x) (λ t. rw (t, r)) (λ f. rw (f, g, r))

  pub moved_is : (l : List ℕ) → times_in y l ≤ 1 → moved x y l ≡ move_before x y l
  unfolding moved move_before keep insert_before when◌then◌else◌
  moved_is [] h = refl
  moved_is (z ∷ l) h =
      let r : moved x y l ≡ insert_before x y (keep (λ z. not (eqb z x)) l) = moved_is l (times_tail_le y z l h) in
      case_bool (eqb z x)
      (λ t. rw (t, r))
      (λ f. case_bool (eqb z y)
      (λ t. rw (f, t, moved_none l (false_of λ k. times_head_once y l (rw (eqb-true z y t) at h) k)))
      (λ g. rw (f, g, r)))

  pub moved_skip : (z : ℕ) → z ≡ x → moved x y (z ∷ []) ≡ []
  unfolding moved when◌then◌else◌
  moved_skip z e = rw (eq-eqb z x e)

  pub moved_here : (z : ℕ) → z ≢ x → z ≡ y → moved x y (z ∷ []) ≡ x ∷ z ∷ []
  unfolding moved when◌then◌else◌
  moved_here z ne e = rw (ne_eqb z x ne, eq-eqb z y e)

  pub moved_other : (z : ℕ) → z ≢ x → z ≢ y → moved x y (z ∷ []) ≡ z ∷ []
  unfolding moved when◌then◌else◌
  moved_other z ne nf = rw (ne_eqb z x ne, ne_eqb z y nf)

  module _ (l : List ℕ) (i : ℕ) (h : i < length l) where
    moved_more : moved x y (take (i + 1) l) ≡ moved x y (take i l) ++ moved x y (get_or l i 0 ∷ [])
    moved_more = rw (add-one, take-suc l i 0 h) (moved_append (take i l) (get_or l i 0 ∷ []))

    pub moved_more_skip : get_or l i 0 ≡ x → moved x y (take (i + 1) l) ≡ moved x y (take i l)
    moved_more_skip e = moved_more ∙ rw (moved_skip (get_or l i 0) e) (append-nil (moved x y (take i l)))

    pub moved_more_here : get_or l i 0 ≢ x → get_or l i 0 ≡ y → moved x y (take (i + 1) l) ≡ (moved x y (take i l) ++ (x ∷ [])) ++ (get_or l i 0 ∷ [])
    moved_more_here ne e = moved_more ∙ rw (moved_here (get_or l i 0) ne e, append_assoc)

    pub moved_more_other : get_or l i 0 ≢ x → get_or l i 0 ≢ y → moved x y (take (i + 1) l) ≡ moved x y (take i l) ++ (get_or l i 0 ∷ [])
    moved_more_other ne nf = moved_more ∙ rw (moved_other (get_or l i 0) ne nf)

  -- a part of the pass writes no more than the list has
  pub moved_room : (l : List ℕ) (i : ℕ) → x ≢ y → times_in x l ≡ 1 → times_in y l ≡ 1 → length (moved x y (take i l)) ≤ length l
  moved_room l i ne hx hy =
      let e : length (moved x y l) ≡ length l = ap length (moved_is l (omega arith)) ∙ length_move x y l ne hx (holds_of_times y l (omega arith)) in
      let s : moved x y l ≡ moved x y (take i l) ++ moved x y (drop i l) =
      ap (moved x y) (sym (take-append-drop i l)) ∙ moved_append (take i l) (drop i l) in
      omega (arith, ap length s, length-append (moved x y (take i l)) (moved x y (drop i l)))

-- before the element at i is written: what stands there already, with room for it
pub record Ready (x y : ℕ) (l : List ℕ) (i : ℕ) (a : List ℕ) (m : ℕ) : Type 0 where
  pub built : List ℕ
  pub list : a ≡ padded 32 built
  pub count : m ≡ length built
  pub room : m < 32
  pub next : moved x y (take (i + 1) l) ≡ built ++ (get_or l i 0 ∷ [])

module _
    (x y : ℕ)
    (l : List ℕ)
    (ne : x ≢ y)
    (once : (times_in x l ≡ 1) × (times_in y l ≡ 1))
    (fits : length l ≤ 32)
    (i : ℕ)
    (h : i < length l)
    (a : List ℕ)
    (m : ℕ)
    (e : a ≡ padded 32 (moved x y (take i l)))
    (f : m ≡ length (moved x y (take i l)))
    (z : get_or l i 0 ≢ x) where
  room_next : length (moved x y (take (i + 1) l)) ≤ 32
  room_next = omega (arith, moved_room x y l (i + 1) ne once.0 once.1)

  -- where y is met, two are written
  pub room_here : get_or l i 0 ≡ y → m + 1 < 32
  room_here t =
      let r = moved_more_here x y l i (omega arith) z t in
      omega (
        arith,
        room_next,
        ap length r,
        length-append (moved x y (take i l) ++ (x ∷ [])) (get_or l i 0 ∷ []),
        length-append (moved x y (take i l)) (x ∷ []),
      )

  pub ready_here : get_or l i 0 ≡ y → (b : List ℕ) (k : ℕ) → b ≡ set a m x → k ≡ m + 1 → Ready x y l i b k
  ready_here t b k wrote more =
      record {
        built = moved x y (take i l) ++ (x ∷ []);
        list = wrote ∙ put_at 32 (moved x y (take i l)) x e f (omega (arith, room_here t));
        count = more ∙ ap (λ j. j + 1) f ∙ sym (length_snoc (moved x y (take i l)) x);
        room = omega (arith, room_here t);
        next = moved_more_here x y l i (omega arith) z t;
      }

  pub ready_other : get_or l i 0 ≢ y → (b : List ℕ) (k : ℕ) → b ≡ a → k ≡ m → Ready x y l i b k
  ready_other t b k wrote more =
      let r = moved_more_other x y l i (omega arith) z t in
      record {
        built = moved x y (take i l);
        list = wrote ∙ e;
        count = more ∙ f;
        room = omega (arith, room_next, ap length r, length-append (moved x y (take i l)) (get_or l i 0 ∷ []));
        next = r;
      }

pub ready_put : {x y : ℕ} {l : List ℕ} {i : ℕ} {a : List ℕ} {m : ℕ} (b : List ℕ) (k : ℕ) → Ready x y l i a m → b ≡ set a m (get_or l i 0) → k ≡ m + 1
    → (b ≡ padded 32 (moved x y (take (i + 1) l))) × (k ≡ length (moved x y (take (i + 1) l)))
ready_put {l = l} {i = i} b k r wrote more = (
  wrote ∙ put_at 32 r.built (get_or l i 0) r.list r.count r.room ∙ ap (padded 32) (sym r.next),
  more ∙ ap (λ j. j + 1) r.count ∙ sym (length_snoc r.built (get_or l i 0)) ∙ ap length (sym r.next),
)

pub skip_put : (x y : ℕ) (l : List ℕ) (i : ℕ) (a b : List ℕ) (m k : ℕ) → i < length l → a ≡ padded 32 (moved x y (take i l)) → m ≡ length (moved x y (take i l))
    → get_or l i 0 ≡ x → b ≡ a → k ≡ m
    → (b ≡ padded 32 (moved x y (take (i + 1) l))) × (k ≡ length (moved x y (take (i + 1) l)))
skip_put x y l i a b m k h e f t wrote more =
    let r = moved_more_skip x y l i h t in
    (wrote ∙ e ∙ ap (padded 32) (sym r), more ∙ f ∙ ap length (sym r))
