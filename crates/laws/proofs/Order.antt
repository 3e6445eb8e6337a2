-- Laws of Before.
use Prim.Native.Nat.{ℕ, zero, suc, ◌≤◌, ◌<◌}
use mathlib.Core.Bool.{Bool, true}
use mathlib.Core.Path.{◌≡◌, refl, sym, ◌∙◌}
use mathlib.Core.Logic.{◌⊎◌, inl, inr, ◌≢◌, ⊎_elim}
use mathlib.Core.List.{List, [], ◌∷◌, ◌++◌}
use native.Mathlib.Nat.{not-suc-le-zero, le_of_suc-le-suc}
use lib.Dec.{eqb}
use lib.ListN.{length, get_or}
use borrow.Author.Tests.{eqb-true}
use Rattle.laws.specs.Bools.{when◌then◌else◌}
use Rattle.laws.specs.Sequence.{keep, holds, times_in, up_to}
use Rattle.laws.specs.Order.{Before}
use Rattle.laws.proofs.Bools.{true_not_false, case_bool}
use Rattle.laws.proofs.Sequence.{holds_head, holds_tail, holds_cases, holds_rest, holds_get_or, holds_append_cases, times_head_once, times_tail_le}
use Rattle.laws.proofs.Keep.{keep_true, keep_false, keep_in, holds_keep_in}

module _ (x y : ℕ) where
  pub before_left : (l : List ℕ) → Before x y l → holds x l ≡ true
  unfolding Before
  before_left [] b = absurd b
  before_left (z ∷ l) (inl r) = rw r.0 (holds_head z l)
  before_left (z ∷ l) (inr b) = holds_tail x z l (before_left l b)

  pub before_right : (l : List ℕ) → Before x y l → holds y l ≡ true
  unfolding Before
  before_right [] b = absurd b
  before_right (z ∷ l) (inl r) = holds_tail y z l r.1
  before_right (z ∷ l) (inr b) = holds_tail y z l (before_right l b)

  pub before_append_cases : (l m : List ℕ) → Before x y (l ++ m) → Before x y l ⊎ (((holds x l ≡ true) × (holds y m ≡ true)) ⊎ Before x y m)
  unfolding Before
  before_append_cases [] m b = inr (inr b)
  before_append_cases (z ∷ l) m (inl r) =
      ⊎_elim (λ k. inl (inl (r.0, k))) (λ k. inr (inl (rw r.0 (holds_head z l), k))) (holds_append_cases y l m r.1)
  before_append_cases (z ∷ l) m (inr b) =
      ⊎_elim
      (λ c. inl (inr c))
      (λ c. inr (⊎_elim (λ k. inl (holds_tail x z l k.0, k.1)) inr c))
      (before_append_cases l m b)

  pub before_keep : (p : ℕ → Bool) (l : List ℕ) → p x ≡ true → p y ≡ true → Before x y l → Before x y (keep p l)
  unfolding Before
  before_keep p [] hx hy b = absurd b
  before_keep p (z ∷ l) hx hy (inl r) = rw (keep_true p z l (rw (← r.0) hx)) (inl (r.0, holds_keep_in p y l r.1 hy))
  before_keep p (z ∷ l) hx hy (inr b) =
      let c = before_keep p l hx hy b in
      case_bool (p z) (λ t. rw (keep_true p z l t) (inr c)) (λ f. rw (keep_false p z l f) c)

  pub before_kept : (p : ℕ → Bool) (l : List ℕ) → Before x y (keep p l) → Before x y l
  unfolding Before keep
  before_kept p [] b = b
  before_kept p (z ∷ l) b =
      case_bool (p z)
      (λ t. ⊎_elim (λ r. inl (r.0, keep_in p y l r.1)) (λ c. inr (before_kept p l c)) (rw (keep_true p z l t) at b))
      (λ f. inr (before_kept p l (rw (keep_false p z l f) at b)))

  pub before_total : (l : List ℕ) → x ≢ y → holds x l ≡ true → holds y l ≡ true → Before x y l ⊎ Before y x l
  unfolding Before holds
  before_total [] ne hx hy = true_not_false hx refl
  before_total (z ∷ l) ne hx hy =
      ⊎_elim
      (λ e. inl (inl (e, holds_rest y z l (λ q. ne (e ∙ sym q)) hy)))
      (λ kx.
      ⊎_elim
      (λ e. inr (inl (e, kx)))
      (λ ky. ⊎_elim (λ b. inl (inr b)) (λ b. inr (inr b)) (before_total l ne kx ky))
      (holds_cases y z l hy))
      (holds_cases x z l hx)

  pub before_up_to : (l : List ℕ) → times_in y l ≤ 1 → Before x y l → holds x (up_to y l) ≡ true
  unfolding Before up_to when◌then◌else◌
  before_up_to [] o b = absurd b
  before_up_to (z ∷ l) o b =
      let k : holds y l ≡ true = ⊎_elim (λ r. r.1) (before_right l) b in
      case_bool (eqb z y)
      (λ t. absurd (times_head_once y l (rw (eqb-true z y t) at o) k))
      (λ f.
      rw f
      (⊎_elim
      (λ r. rw r.0 (holds_head z (up_to y l)))
      (λ c. holds_tail x z (up_to y l) (before_up_to l (times_tail_le y z l o) c))
      b))

pub before_get_or : (l : List ℕ) (i j d : ℕ) → i < j → j < length l → Before (get_or l i d) (get_or l j d) l
unfolding Before
before_get_or [] i j d h k = absurd (not-suc-le-zero k)
before_get_or (z ∷ l) i zero d h k = absurd (not-suc-le-zero h)
before_get_or (z ∷ l) zero (suc j) d h k = inl (refl, holds_get_or l j d (le_of_suc-le-suc k))
before_get_or (z ∷ l) (suc i) (suc j) d h k = inr (before_get_or l i j d (le_of_suc-le-suc h) (le_of_suc-le-suc k))

pub before_trans : (x y z : ℕ) (l : List ℕ) → times_in y l ≤ 1 → Before x y l → Before y z l → Before x z l
unfolding Before
before_trans x y z [] o b c = b
before_trans x y z (w ∷ l) o b c =
    let k : holds y l ≡ true = ⊎_elim (λ r. r.1) (before_right x y l) b in
    ⊎_elim
    (λ r. absurd (times_head_once y l (rw (← r.0) at o) k))
    (λ c. ⊎_elim (λ r. inl (r.0, before_right y z l c)) (λ b. inr (before_trans x y z l (times_tail_le y w l o) b c)) b)
    c
