-- Laws of on_chain and near: a chain, and the chain of those on it that pass a test.
use Prim.Native.Nat.{ℕ, zero, suc, ◌≤◌, ◌<◌}
use mathlib.Core.Bool.{Bool, true, false, ◌&&◌, ◌||◌}
use mathlib.Core.Path.{◌≡◌, refl, sym, ◌∙◌, ap}
use mathlib.Core.Logic.{⊎_elim, ◌≢◌}
use native.Mathlib.Nat.{not-suc-le-zero, le_of_suc-le-suc, le_step, le_refl, lt_trans, lt_irrefl, le_trans}
use native.Mathlib.Decide.{ℕ_discrete}
use lib.Dec.{eqb}
use borrow.Author.Tests.{eqb-true, eq-eqb, ne_eqb}
use Rattle.laws.specs.Bools.{when◌then◌else◌}
use Rattle.laws.specs.Chain.{along_chain, ends_in, first_along}
use Rattle.laws.specs.Onto.{on_chain, near}
use Rattle.laws.proofs.Bools.{true_not_false, false_of, case_bool, or_cases, and_both, and_left_false, and_right_false}
use Rattle.laws.proofs.Chain.{ends_more, first_along_zero, first_along_here, first_along_next, first_along_enough}

module _ (next : ℕ → ℕ) (r : ℕ) where
  pub on_zero : (n : ℕ) → on_chain next n 0 r ≡ false
  unfolding on_chain
  on_zero zero = refl
  on_zero (suc n) = refl

  -- more than the chain needs changes nothing
  pub on_enough : (m n k : ℕ) → m ≤ n → ends_in next m k ≡ true → on_chain next n k r ≡ on_chain next m k r
  unfolding on_chain ends_in
  on_enough zero n zero h e = on_zero n ∙ sym (on_zero 0)
  on_enough (suc m) n zero h e = on_zero n ∙ sym (on_zero (suc m))
  on_enough zero n (suc x) h e = true_not_false e refl
  on_enough (suc m) zero (suc x) h e = absurd (not-suc-le-zero h)
  on_enough (suc m) (suc n) (suc x) h e = ap (λ b. eqb x r || b) (on_enough m n (next x) (le_of_suc-le-suc h) e)

-- what lies on a chain is ok if that is kept along it
pub on_ok : (next : ℕ → ℕ) (ok : ℕ → Type 0) → ((x y : ℕ) → ok x → next x ≡ suc y → ok y) → (n k : ℕ) → ((x : ℕ) → k ≡ suc x → ok x)
    → (r : ℕ) → on_chain next n k r ≡ true → ok r
unfolding on_chain
on_ok next ok closed zero k o r h = true_not_false h refl
on_ok next ok closed (suc n) zero o r h = true_not_false h refl
on_ok next ok closed (suc n) (suc x) o r h =
    ⊎_elim (λ e. rw (← eqb-true x r e) (o x refl)) (on_ok next ok closed n (next x) (λ y. closed x y (o x refl)) r)
    (or_cases (eqb x r) (on_chain next n (next x) r) h)

-- where depth falls along the chain, it does not come back
pub on_not_back : (next depth : ℕ → ℕ) (ok : ℕ → Type 0) → ((x y : ℕ) → ok x → next x ≡ suc y → ok y)
    → ((x y : ℕ) → ok x → next x ≡ suc y → depth y < depth x) → (n x : ℕ) → ok x → on_chain next n (next x) x ≡ false
on_not_back next depth ok closed falls n x o = false_of λ h. lt_irrefl (depth x) (under h).1
  where
    under : on_chain next n (next x) x ≡ true → ok x × (depth x < depth x)
    under h =
        on_ok next (λ z. ok z × (depth z < depth x)) (λ y z q e. (closed y z q.0 e, lt_trans (falls y z q.0 e) q.1)) n (next x)
        (λ y e. (closed x y o e, falls x y o e)) x h

-- A step at each element of the chain, read at r: taken once where r lies on it.

module _ {ℓ} {A : Type ℓ} (next depth : ℕ → ℕ) (step : ℕ → A → A) (get : A → ℕ → ℕ) (h : ℕ → ℕ) (ok : ℕ → Type 0) (good : A → Type 0)
    (closed : (x y : ℕ) → ok x → next x ≡ suc y → ok y) (falls : (x y : ℕ) → ok x → next x ≡ suc y → depth y < depth x)
    (keeps : (x : ℕ) (a : A) → ok x → good a → good (step x a)) (here : (x : ℕ) (a : A) → ok x → good a → get (step x a) x ≡ h (get a x))
    (there : (x r : ℕ) (a : A) → ok x → good a → r ≢ x → get (step x a) r ≡ get a r) where
  pub along_at : (n k : ℕ) (a : A) → ((x : ℕ) → k ≡ suc x → ok x) → good a → (r : ℕ)
      → get (along_chain next step n k a) r ≡ (when on_chain next n k r then h (get a r) else get a r)
  unfolding along_chain on_chain when◌then◌else◌
  along_at zero k a o g r = refl
  along_at (suc n) zero a o g r = refl
  along_at (suc n) (suc x) a o g r = along_at n (next x) (step x a) (λ y. closed x y (o x refl)) (keeps x a (o x refl) g) r ∙ last
    where
      own : (when on_chain next n (next x) x then h (get (step x a) x) else get (step x a) x)
          ≡ (when eqb x x || on_chain next n (next x) x then h (get a x) else get a x)
      own = rw (on_not_back next depth ok closed falls n x (o x refl), eq-eqb x x refl) (here x a (o x refl) g)

      last : (when on_chain next n (next x) r then h (get (step x a) r) else get (step x a) r)
          ≡ (when eqb x r || on_chain next n (next x) r then h (get a r) else get a r)
      last = elim (ℕ_discrete r x) [ yes e ↦ rw e own | no ne ↦ rw (there x r a (o x refl) g ne, ne_eqb x r (λ q. ne (sym q))) refl ]

-- The chain of those that pass the test.

module _ (p : ℕ → Bool) (next : ℕ → ℕ) (N : ℕ) where
  -- the link of x to the nearest one is found with any fuel that is enough
  near_is : (n x : ℕ) → n ≤ N → ends_in next n (next x) ≡ true → near p next N x ≡ first_along p next n (next x)
  unfolding near
  near_is n x h e = first_along_enough p next n N (next x) h e

  pub ends_near : (n k : ℕ) → n ≤ N → ends_in next n k ≡ true → ends_in (near p next N) n (first_along p next n k) ≡ true
  unfolding ends_in
  ends_near zero zero h e = rw (first_along_zero p next 0) refl
  ends_near zero (suc x) h e = true_not_false e refl
  ends_near (suc n) zero h e = rw (first_along_zero p next (suc n)) refl
  ends_near (suc n) (suc x) h e =
      let low : n ≤ N = le_trans (le_step (le_refl n)) h in
      case_bool (p x)
      (λ t. rw (first_along_here p next n x t, near_is n x low e) (ends_near n (next x) low e))
      (λ f.
      rw (first_along_next p next n x f)
      (ends_more (near p next N) n (suc n) (first_along p next n (next x)) (le_step (le_refl n)) (ends_near n (next x) low e)))

  -- of those that pass, the same lie on both chains
  pub on_near : (n k r : ℕ) → n ≤ N → ends_in next n k ≡ true → p r ≡ true
      → on_chain (near p next N) n (first_along p next n k) r ≡ on_chain next n k r
  unfolding ends_in on_chain
  on_near zero k r h e t = refl
  on_near (suc n) zero r h e t = rw (first_along_zero p next (suc n)) refl
  on_near (suc n) (suc x) r h e t =
      let low : n ≤ N = le_trans (le_step (le_refl n)) h in
      case_bool (p x)
      (λ q. rw (first_along_here p next n x q, near_is n x low e) (ap (λ b. eqb x r || b) (on_near n (next x) r low e t)))
      (λ q.
      rw (first_along_next p next n x q, ne_eqb x r (λ z. true_not_false t (rw (← z) q)))
      (on_enough (near p next N) r n (suc n) (first_along p next n (next x)) (le_step (le_refl n)) (ends_near n (next x) low e)
      ∙ on_near n (next x) r low e t))

  near_step : (q : ℕ → Bool) (n x : ℕ) → n ≤ N → ends_in next n (next x) ≡ true
      → first_along q (near p next N) n (first_along p next n (next x)) ≡ first_along (λ x. p x && q x) next n (next x)
      → first_along q (near p next N) (suc n) (first_along p next (suc n) (suc x)) ≡ first_along (λ x. p x && q x) next (suc n) (suc x)
  near_step q n x low e ih =
      case_bool (p x)
      (λ t. ap (first_along q (near p next N) (suc n)) (first_along_here p next n x t) ∙ passed t)
      (λ f.
      ap (first_along q (near p next N) (suc n)) (first_along_next p next n x f)
      ∙ first_along_enough q (near p next N) n (suc n) (first_along p next n (next x)) (le_step (le_refl n)) (ends_near n (next x) low e)
      ∙ ih ∙ sym (first_along_next (λ x. p x && q x) next n x (and_left_false (q x) f)))
    where
      passed : p x ≡ true → first_along q (near p next N) (suc n) (suc x) ≡ first_along (λ x. p x && q x) next (suc n) (suc x)
      passed t =
          case_bool (q x)
          (λ g. first_along_here q (near p next N) n x g ∙ sym (first_along_here (λ x. p x && q x) next n x (and_both t g)))
          (λ g.
          first_along_next q (near p next N) n x g ∙ ap (first_along q (near p next N) n) (near_is n x low e)
          ∙ ih ∙ sym (first_along_next (λ x. p x && q x) next n x (and_right_false (p x) g)))

  -- the nearest that passes both tests is the nearest on the chain of the first that passes the second
  pub first_near : (q : ℕ → Bool) (n k : ℕ) → n ≤ N → ends_in next n k ≡ true
      → first_along q (near p next N) n (first_along p next n k) ≡ first_along (λ x. p x && q x) next n k
  unfolding ends_in
  first_near q zero k h e = unfold first_along in refl
  first_near q (suc n) zero h e =
      ap (first_along q (near p next N) (suc n)) (first_along_zero p next (suc n))
      ∙ first_along_zero q (near p next N) (suc n) ∙ sym (first_along_zero (λ x. p x && q x) next (suc n))
  first_near q (suc n) (suc x) h e =
      let low : n ≤ N = le_trans (le_step (le_refl n)) h in
      near_step q n x low e (first_near q n (next x) low e)

-- of two tests that agree
pub near_same : (p q : ℕ → Bool) (next : ℕ → ℕ) (n x : ℕ) → ((k : ℕ) → p k ≡ q k) → near p next n x ≡ near q next n x
unfolding near first_along
near_same p q next n x h = first_agrees n (next x)
  where
    first_agrees : (n k : ℕ) → first_along p next n k ≡ first_along q next n k
    first_agrees zero k = refl
    first_agrees (suc n) zero = refl
    first_agrees (suc n) (suc y) = rw (h y, first_agrees n (next y))
