-- The order in a list after insert_before and move_before.
use Prim.Native.Nat.{ℕ}
use mathlib.Core.Bool.{true, false, not}
use mathlib.Core.Path.{◌≡◌, refl, sym, ◌∙◌}
use mathlib.Core.Logic.{◌⊎◌, inl, inr, ◌≢◌, ⊎_elim}
use mathlib.Core.List.{List, [], ◌∷◌}
use native.Mathlib.Decide.{ℕ_discrete}
use lib.Dec.{eqb}
use borrow.Author.Tests.{ne_eqb}
use Rattle.laws.specs.Sequence.{keep, holds, insert_before, move_before}
use Rattle.laws.specs.Order.{Before}
use Rattle.laws.proofs.Bools.{true_not_false, true_of, case_bool, not_is_true}
use Rattle.laws.proofs.Sequence.{holds_tail, holds_cases, holds_rest, lacks_head, lacks_tail}
use Rattle.laws.proofs.Keep.{remove_holds, remove_lacks}
use Rattle.laws.proofs.Move.{insert_here, insert_later, insert_none, holds_insert}
use Rattle.laws.proofs.Order.{before_left, before_right, before_keep, before_kept}

module _ (x y : ℕ) where
  pub holds_insert_other : (z : ℕ) (l : List ℕ) → z ≢ x → holds z (insert_before x y l) ≡ true → holds z l ≡ true
  holds_insert_other z l ne h =
      case_bool (holds y l) (λ t. rw (ne_eqb z x ne) at (sym (holds_insert x y z l t) ∙ h)) (λ f. rw (insert_none x y l f) at h)

  pub before_insert_other : (a b : ℕ) (l : List ℕ) → a ≢ x → b ≢ x → Before a b (insert_before x y l) → Before a b l
  unfolding Before insert_before
  before_insert_other a b [] na nb c = absurd c
  before_insert_other a b (z ∷ l) na nb c = elim (ℕ_discrete z y) [
    | yes e ↦ ⊎_elim (λ r. absurd (na r.0)) (λ d. d) (rw (insert_here x y l e) at c)
    | no ne ↦
        ⊎_elim
        (λ r. inl (r.0, holds_insert_other b l nb r.1))
        (λ d. inr (before_insert_other a b l na nb d))
        (rw (insert_later x y z l ne) at c)
  ]

  -- x stands before y and before what stands behind y
  pub before_insert_target : (l : List ℕ) → holds y l ≡ true → Before x y (insert_before x y l)
  unfolding Before holds
  before_insert_target [] h = true_not_false h refl
  before_insert_target (z ∷ l) h = elim (ℕ_discrete z y) [
    | yes e ↦ rw (insert_here x y l e) (inl (refl, h))
    | no ne ↦ rw (insert_later x y z l ne) (inr (before_insert_target l (holds_rest y z l (λ e. ne (sym e)) h)))
  ]

  pub before_insert_after : (b : ℕ) (l : List ℕ) → Before y b l → Before x b (insert_before x y l)
  unfolding Before
  before_insert_after b [] c = absurd c
  before_insert_after b (z ∷ l) c = elim (ℕ_discrete z y) [
    | yes e ↦ rw (insert_here x y l e) (inl (refl, holds_tail b z l (⊎_elim (λ r. r.1) (before_right y b l) c)))
    | no ne ↦ rw (insert_later x y z l ne) (inr (before_insert_after b l (⊎_elim (λ r. absurd (ne (sym r.0))) (λ d. d) c)))
  ]

  pub before_insert_after_cases : (b : ℕ) (l : List ℕ) → holds x l ≡ false → Before x b (insert_before x y l) → (b ≡ y) ⊎ Before y b l
  unfolding Before insert_before
  before_insert_after_cases b [] f c = absurd c
  before_insert_after_cases b (z ∷ l) f c = elim (ℕ_discrete z y) [
    | yes e ↦
        ⊎_elim
        (λ r. ⊎_elim (λ q. inl (q ∙ e)) (λ k. inr (inl (sym e, k))) (holds_cases b z l r.1))
        (λ d. true_not_false (before_left x b (z ∷ l) d) f)
        (rw (insert_here x y l e) at c)
    | no ne ↦
        ⊎_elim
        (λ r. absurd (lacks_head x z l f r.0))
        (λ d. ⊎_elim inl (λ k. inr (inr k)) (before_insert_after_cases b l (lacks_tail x z l f) d))
        (rw (insert_later x y z l ne) at c)
  ]

  pub before_insert_ahead_from : (a : ℕ) (l : List ℕ) → a ≢ x → holds x l ≡ false → Before a x (insert_before x y l) → Before a y l
  unfolding Before insert_before
  before_insert_ahead_from a [] na f c = absurd c
  before_insert_ahead_from a (z ∷ l) na f c = elim (ℕ_discrete z y) [
    | yes e ↦ ⊎_elim (λ r. absurd (na r.0)) (λ d. true_not_false (before_right a x (z ∷ l) d) f) (rw (insert_here x y l e) at c)
    | no ne ↦
        ⊎_elim
        (λ r. inl (r.0, target r.1))
        (λ d. inr (before_insert_ahead_from a l na (lacks_tail x z l f) d))
        (rw (insert_later x y z l ne) at c)
  ]
    where
      target : holds x (insert_before x y l) ≡ true → holds y l ≡ true
      target h = true_of λ g. true_not_false (rw (insert_none x y l g) at h) (lacks_tail x z l f)

module _ (x y : ℕ) (l : List ℕ) where
  pub before_move_from : (a b : ℕ) → a ≢ x → b ≢ x → Before a b (move_before x y l) → Before a b l
  unfolding move_before
  before_move_from a b na nb c =
      before_kept a b (λ z. not (eqb z x)) l (before_insert_other x y a b (keep (λ z. not (eqb z x)) l) na nb c)

  pub before_move_target : y ≢ x → holds y l ≡ true → Before x y (move_before x y l)
  unfolding move_before
  before_move_target ny h = before_insert_target x y (keep (λ z. not (eqb z x)) l) (remove_holds x y l ny h)

  pub before_move_after : (b : ℕ) → y ≢ x → b ≢ x → Before y b l → Before x b (move_before x y l)
  unfolding move_before
  before_move_after b ny nb c =
      before_insert_after x y b (keep (λ z. not (eqb z x)) l)
      (before_keep y b (λ z. not (eqb z x)) l (not_is_true (ne_eqb y x ny)) (not_is_true (ne_eqb b x nb)) c)

  pub before_move_after_cases : (b : ℕ) → Before x b (move_before x y l) → (b ≡ y) ⊎ Before y b l
  unfolding move_before
  before_move_after_cases b c =
      ⊎_elim inl
      (λ d. inr (before_kept y b (λ z. not (eqb z x)) l d))
      (before_insert_after_cases x y b (keep (λ z. not (eqb z x)) l) (remove_lacks x l) c)

  pub before_move_ahead_from : (a : ℕ) → a ≢ x → Before a x (move_before x y l) → Before a y l
  unfolding move_before
  before_move_ahead_from a na c =
      before_kept a y (λ z. not (eqb z x)) l (before_insert_ahead_from x y a (keep (λ z. not (eqb z x)) l) na (remove_lacks x l) c)
