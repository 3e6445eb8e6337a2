-- Laws of never_falling.
use Prim.Native.Nat.{ℕ, ◌≤◌, ◌<◌}
use mathlib.Core.Bool.{Bool, true}
use mathlib.Core.Path.{◌≡◌, refl}
use mathlib.Core.Logic.{inl, inr, ⊎_elim}
use mathlib.Core.List.{List, [], ◌∷◌, ◌++◌}
use lib.Dec.{leb}
use lib.ListN.{length, get_or}
use borrow.Author.Tests.{leb-true, le-leb}
use Rattle.laws.specs.Sequence.{keep, holds, every_in, never_falling}
use Rattle.laws.specs.Order.{Before}
use Rattle.laws.proofs.Bools.{true_not_false, and_both, and_left, and_right}
use Rattle.laws.proofs.Sequence.{holds_cases, every_at, every_from}
use Rattle.laws.proofs.Order.{before_left, before_right, before_append_cases, before_kept, before_get_or}

module _ (f : ℕ → ℕ) where
  pub falling_at : (l : List ℕ) → never_falling f l ≡ true → (x y : ℕ) → Before x y l → f x ≤ f y
  unfolding never_falling Before
  falling_at [] h x y b = absurd b
  falling_at (z ∷ l) h x y (inl r) =
      rw r.0 (leb-true (f z) (f y) (every_at (λ y. leb (f z) (f y)) l (and_left (every_in (λ y. leb (f z) (f y)) l) (never_falling f l) h) y r.1))
  falling_at (z ∷ l) h x y (inr b) = falling_at l (and_right (every_in (λ y. leb (f z) (f y)) l) (never_falling f l) h) x y b

  pub falling_from : (l : List ℕ) → ((x y : ℕ) → Before x y l → f x ≤ f y) → never_falling f l ≡ true
  unfolding never_falling Before
  falling_from [] h = refl
  falling_from (z ∷ l) h =
      and_both (every_from (λ y. leb (f z) (f y)) l λ y k. le-leb (f z) (f y) (h z y (inl (refl, k)))) (falling_from l λ x y b. h x y (inr b))

  pub falling_get_or : (l : List ℕ) → never_falling f l ≡ true → (i j d : ℕ) → i < j → j < length l → f (get_or l i d) ≤ f (get_or l j d)
  falling_get_or l h i j d k m = falling_at l h (get_or l i d) (get_or l j d) (before_get_or l i j d k m)

  pub falling_keep : (p : ℕ → Bool) (l : List ℕ) → never_falling f l ≡ true → never_falling f (keep p l) ≡ true
  falling_keep p l h = falling_from (keep p l) λ x y b. falling_at l h x y (before_kept x y p l b)

  pub falling_append : (l m : List ℕ) → never_falling f l ≡ true → never_falling f m ≡ true → ((x y : ℕ) → holds x l ≡ true → holds y m ≡ true → f x ≤ f y) → never_falling f (l ++ m) ≡ true
  falling_append l m h k across =
      falling_from (l ++ m) λ x y b.
      ⊎_elim (falling_at l h x y) (⊎_elim (λ r. across x y r.0 r.1) (falling_at m k x y)) (before_append_cases x y l m b)

  pub falling_single : (x : ℕ) → never_falling f (x ∷ []) ≡ true
  unfolding never_falling every_in
  falling_single x = refl

  -- one more at the end
  pub falling_last : (l : List ℕ) (y : ℕ) → never_falling f l ≡ true → ((x : ℕ) → holds x l ≡ true → f x ≤ f y) → never_falling f (l ++ (y ∷ [])) ≡ true
  unfolding holds
  falling_last l y h k =
      falling_append l (y ∷ []) h (falling_single y) λ x z hx hz.
      ⊎_elim (λ e. rw e (k x hx)) (λ n. true_not_false n refl) (holds_cases z y [] hz)

pub falling_same : (f g : ℕ → ℕ) (l : List ℕ) → ((x : ℕ) → holds x l ≡ true → f x ≡ g x) → never_falling f l ≡ true → never_falling g l ≡ true
falling_same f g l e h =
    falling_from g l λ x y b. rw (← e x (before_left x y l b), ← e y (before_right x y l b)) (falling_at f l h x y b)
