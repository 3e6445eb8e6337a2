-- Laws of last_to and newest.
use Prim.Native.Nat.{ℕ, zero, suc, ◌<◌}
use mathlib.Core.Path.{◌≡◌, refl, sym, ◌∙◌, ap}
use mathlib.Core.Logic.{◌≢◌}
use mathlib.Core.Bool.{Bool, true}
use mathlib.Core.List.{List, [], ◌∷◌, ◌++◌}
use native.Mathlib.Nat.{le_step, lt-suc_self, suc_inj}
use native.Mathlib.Omega.{arith}
use native.Mathlib.Decide.{ℕ_discrete, dec_lt}
use lib.ListN.{length, get_or, set, length-append, get_or-append}
use lib.Seq.{get_or-append_seam, get_or-set_same, get_or-set_other, set_out}
use lib.Dec.{eqb}
use borrow.Author.Tests.{eqb-true, eq-eqb, ne_eqb}
use Rattle.laws.specs.Range.{last_to}
use Rattle.laws.specs.Newest.{newest}
use Rattle.laws.proofs.Bools.{case_bool, if_true, if_false}

pub last_same : (p q : ℕ → Bool) (n : ℕ) → ((i : ℕ) → i < n → p i ≡ q i) → last_to p n ≡ last_to q n
unfolding last_to
last_same p q zero h = refl
last_same p q (suc n) h = rw (h n (lt-suc_self n), last_same p q n (λ i l. h i (le_step l)))

pub last_holds : (p : ℕ → Bool) (n i : ℕ) → last_to p n ≡ suc i → (i < n) × (p i ≡ true)
unfolding last_to
last_holds p zero i e = absurd (omega arith)
last_holds p (suc n) i e =
    case_bool (p n)
    (λ t. let q : n ≡ i = suc_inj (sym (if_true (suc n) (last_to p n) t) ∙ e) in rw (← q) (lt-suc_self n, t))
    (λ f. let r = last_holds p n i (sym (if_false (suc n) (last_to p n) f) ∙ e) in (le_step r.0, r.1))

module _ {ℓ} {A : Type ℓ} (key : A → ℕ) (none : A) where
  -- what it is
  pub newest_is : (l : List A) (j i : ℕ) → newest key none l j ≡ suc i → (i < length l) × (key (get_or l i none) ≡ j)
  unfolding newest
  newest_is l j i e =
      let r = last_holds (λ i. eqb (key (get_or l i none)) j) (length l) i e in
      (r.0, eqb-true (key (get_or l i none)) j r.1)

  -- the same keys in the same places
  pub newest_same : (l m : List A) → length l ≡ length m → ((i : ℕ) → key (get_or l i none) ≡ key (get_or m i none)) → (j : ℕ)
      → newest key none l j ≡ newest key none m j
  unfolding newest
  newest_same l m e h j =
      rw e (last_same (λ i. eqb (key (get_or l i none)) j) (λ i. eqb (key (get_or m i none)) j) (length m) (λ i b. ap (λ k. eqb k j) (h i)))

  -- after one more at the end
  module _ (l : List A) (new : A) where
    pub get_or_old : (i : ℕ) → i < length l → get_or (l ++ (new ∷ [])) i none ≡ get_or l i none
    get_or_old i b = get_or-append l (new ∷ []) none i b

    pub get_or_new : get_or (l ++ (new ∷ [])) (length l) none ≡ new
    get_or_new = get_or-append_seam l new [] none

    pub length_new : length (l ++ (new ∷ [])) ≡ suc (length l)
    length_new = omega (arith, length-append l (new ∷ []))

    pub newest_new : newest key none (l ++ (new ∷ [])) (key new) ≡ suc (length l)
    unfolding newest last_to
    newest_new = rw length_new (if_true _ _ (rw get_or_new (eq-eqb (key new) (key new) refl)))

    pub newest_old : (j : ℕ) → j ≢ key new → newest key none (l ++ (new ∷ [])) j ≡ newest key none l j
    unfolding newest last_to
    newest_old j h =
        rw length_new
        (if_false _ _ (rw get_or_new (ne_eqb (key new) j λ e. h (sym e)))
        ∙ last_same (λ i. eqb (key (get_or (l ++ (new ∷ [])) i none)) j) (λ i. eqb (key (get_or l i none)) j) (length l)
        (λ i b. ap (λ r. eqb (key r) j) (get_or_old i b)))

-- one element is written: what it has as the old one had it is as it was everywhere
module _ {ℓ κ} {A : Type ℓ} {B : Type κ} (none : A) (l : List A) (i : ℕ) (new : A) where
  pub set_field : (f : A → B) → f new ≡ f (get_or l i none) → (k : ℕ) → f (get_or (set l i new) k none) ≡ f (get_or l k none)
  set_field f e k =
      elim (ℕ_discrete k i) [
        | yes q ↦ rw q (elim (dec_lt i (length l)) [ yes b ↦ ap f (get_or-set_same l i new none b) ∙ e | no h ↦ ap (λ l. f (get_or l i none)) (set_out l i new (omega arith)) ])
        | no ne ↦ ap f (get_or-set_other l i k new none ne)
      ]
