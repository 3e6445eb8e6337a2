-- Nothing is lost: the accounts balance after every call.
use Prim.Native.Nat.{ℕ, suc, ◌+◌, ◌≤◌, ◌<◌}
use mathlib.Core.Path.{◌≡◌, refl, sym, ◌∙◌, ap, subst}
use mathlib.Core.Logic.{◌≢◌}
use mathlib.Core.Bool.{Bool, true, false, ◌&&◌}
use mathlib.Core.List.{List, [], ◌∷◌, ◌++◌}
use native.Mathlib.Decide.{ℕ_discrete}
use native.Mathlib.Nat.{suc_inj, lt_irrefl, not-suc-le-zero}
use native.Mathlib.Omega.{arith}
use lib.ListN.{length, length-set}
use lib.Seq.{get_or-set_same, get_or-set_other}
use lib.Dec.{eqb}
use borrow.Author.Tests.{eq-eqb, ne_eqb}
use Rattle.laws.specs.Bools.{when◌then◌else◌}
use Rattle.laws.proofs.Bools.{true_not_false, and_both, and_left_false, and_right_false, if_true, if_false}
use Rattle.laws.proofs.All.{below_suc}
use Rattle.laws.proofs.Newest.{newest_is, newest_same, newest_new, newest_old, get_or_old, get_or_new, length_new, set_field}
use Rattle.rules.specs.declared.State.{State}
use Rattle.rules.specs.State.{is_present, waiting_of}
use Rattle.rules.specs.Ledger.{Account, no_account, account_at, account_of, booked, still_waiting}

-- account i is the one of a present job
unfoldable pub open_account : State → List Account → ℕ → Bool
open_account s l i = is_present s (account_at l i).job && eqb (account_of l (account_at l i).job) (suc i)

pub record Books (s : State) (l : List Account) : Type 0 where
  pub balance : (i : ℕ) → i < length l → (account_at l i).taken ≡ (account_at l i).picked + (account_at l i).putoff + still_waiting s l i
  pub entered : (j : ℕ) → is_present s j ≡ true → 1 ≤ account_of l j

pub no_books : (s : State) → ((j : ℕ) → is_present s j ≡ false) → Books s []
no_books s h = record { balance = λ i l. absurd (not-suc-le-zero l); entered = λ j p. true_not_false p (h j) }

module _ (s : State) (l : List Account) where
  pub open_waits : (i : ℕ) → open_account s l i ≡ true → still_waiting s l i ≡ waiting_of s (account_at l i).job
  unfolding open_account still_waiting
  open_waits i h = if_true _ _ h

  pub open_of : (j i : ℕ) → is_present s j ≡ true → account_of l j ≡ suc i → open_account s l i ≡ true
  unfolding open_account account_of
  open_of j i h e =
      let q = (newest_is (λ a. a.job) no_account l j i e).1 in
      and_both (ap (is_present s) q ∙ h) (eq-eqb _ (suc i) (ap (account_of l) q ∙ e))

-- the same present jobs with the same waiting entries
pub books_same : {s : State} (t : State) {l : List Account} → Books s l → ((j : ℕ) → is_present t j ≡ is_present s j) → ((j : ℕ) → waiting_of t j ≡ waiting_of s j)
    → Books t l
unfolding still_waiting
books_same {s} t {l} b p w =
    record {
      balance = λ i k. b.balance i k ∙ ap (λ n. (account_at l i).picked + (account_at l i).putoff + n) (sym (rw (p (account_at l i).job, w (account_at l i).job) refl));
      entered = λ j h. b.entered j (sym (p j) ∙ h);
    }

-- A job is taken.

module _ {s : State} (t : State) {l : List Account} (b : Books s l) (j n : ℕ) (absent : is_present s j ≡ false) (there : is_present t j ≡ true)
    (waits : waiting_of t j ≡ n) (same : (k : ℕ) → k ≢ j → is_present t k ≡ is_present s k) (other : (k : ℕ) → k ≢ j → waiting_of t k ≡ waiting_of s k) where
  abbrev new : Account
  new = record { job = j; taken = n; picked = 0; putoff = 0 }

  abbrev more : List Account
  more = l ++ (new ∷ [])

  old : (i : ℕ) → i < length l → account_at more i ≡ account_at l i
  old = get_or_old (λ a. a.job) no_account l new

  newest_more : account_at more (length l) ≡ new
  newest_more = get_or_new (λ a. a.job) no_account l new

  account_j : account_of more j ≡ suc (length l)
  unfolding account_of
  account_j = newest_new (λ a. a.job) no_account l new

  account_other : (k : ℕ) → k ≢ j → account_of more k ≡ account_of l k
  unfolding account_of
  account_other = newest_old (λ a. a.job) no_account l new

  still_job : (k i : ℕ) → i < length l
      → (when is_present t k && eqb (account_of more k) (suc i) then waiting_of t k else 0) ≡ (when is_present s k && eqb (account_of l k) (suc i) then waiting_of s k else 0)
  still_job k i b =
      elim (ℕ_discrete k j) [
        | yes e ↦
            rw e
            (if_false (waiting_of t j) 0
            (and_right_false (is_present t j) (rw account_j (ne_eqb (suc (length l)) (suc i) (λ q. lt_irrefl i (rw (suc_inj q) at b)))))
            ∙ sym (if_false (waiting_of s j) 0 (and_left_false (eqb (account_of l j) (suc i)) absent)))
        | no ne ↦ rw (same k ne, other k ne, account_other k ne) refl
      ]

  still_old : (i : ℕ) → i < length l → still_waiting t more i ≡ still_waiting s l i
  unfolding still_waiting
  still_old i b = rw (old i b) (still_job (account_at l i).job i b)

  still_new : still_waiting t more (length l) ≡ n
  still_new =
      open_waits t more (length l) (open_of t more j (length l) there account_j) ∙ ap (λ a. waiting_of t a.job) newest_more ∙ waits

  pub books_taken : Books t (l ++ (record { job = j; taken = n; picked = 0; putoff = 0 } ∷ []))
  books_taken =
      record {
        balance = λ i k.
            below_suc (λ i. (account_at more i).taken ≡ (account_at more i).picked + (account_at more i).putoff + still_waiting t more i) (length l)
            (λ i k. rw (old i k, still_old i k) (b.balance i k)) (rw (newest_more, still_new) (omega arith)) i
            (subst (λ n. i < n) (length_new (λ a. a.job) no_account l new) k);
        entered = λ k h.
            elim (ℕ_discrete k j) [
              | yes e ↦ rw (ap (account_of more) e ∙ account_j) (omega arith)
              | no ne ↦ rw (account_other k ne) (b.entered k (sym (same k ne) ∙ h))
            ];
      }

-- An account is booked on.

module _ (l : List Account) (i p q : ℕ) where
  abbrev on : List Account
  on = booked (suc i) p q l

  pub booked_length : length on ≡ length l
  unfolding booked
  booked_length = length-set l i _

  pub booked_job : (k : ℕ) → (account_at on k).job ≡ (account_at l k).job
  unfolding booked
  booked_job = set_field no_account l i _ (λ a. a.job) refl

  pub booked_taken : (k : ℕ) → (account_at on k).taken ≡ (account_at l k).taken
  unfolding booked
  booked_taken = set_field no_account l i _ (λ a. a.taken) refl

  pub booked_here : i < length l → ((account_at on i).picked ≡ (account_at l i).picked + p) × ((account_at on i).putoff ≡ (account_at l i).putoff + q)
  unfolding booked
  booked_here b = (ap (λ a. a.picked) (get_or-set_same l i _ no_account b), ap (λ a. a.putoff) (get_or-set_same l i _ no_account b))

  pub booked_there : (k : ℕ) → k ≢ i → account_at on k ≡ account_at l k
  unfolding booked
  booked_there k ne = get_or-set_other l i k _ no_account ne

  pub booked_account : (j : ℕ) → account_of on j ≡ account_of l j
  unfolding account_of
  booked_account = newest_same (λ a. a.job) no_account on l booked_length booked_job

-- An entry is picked.

module _ {s : State} (t : State) {l : List Account} (b : Books s l) (j i : ℕ) (there : is_present s j ≡ true) (link : account_of l j ≡ suc i)
    (same : (k : ℕ) → is_present t k ≡ is_present s k) (fewer : waiting_of s j ≡ suc (waiting_of t j)) (other : (k : ℕ) → k ≢ j → waiting_of t k ≡ waiting_of s k) where
  inside : i < length l
  unfolding account_of
  inside = (newest_is (λ a. a.job) no_account l j i link).0

  job_here : (account_at l i).job ≡ j
  unfolding account_of
  job_here = (newest_is (λ a. a.job) no_account l j i link).1

  still_there : (k : ℕ) → k ≢ i → still_waiting t (booked (suc i) 1 0 l) k ≡ still_waiting s l k
  unfolding still_waiting
  still_there k ne =
      rw (booked_there l i 1 0 k ne, same (account_at l k).job, booked_account l i 1 0 (account_at l k).job)
      (elim (ℕ_discrete (account_at l k).job j) [
        | yes e ↦
            rw e
            (if_false (waiting_of t j) 0 (and_right_false (is_present s j) (rw link (ne_eqb (suc i) (suc k) (λ q. ne (sym (suc_inj q))))))
            ∙ sym (if_false (waiting_of s j) 0 (and_right_false (is_present s j) (rw link (ne_eqb (suc i) (suc k) (λ q. ne (sym (suc_inj q))))))))
        | no nj ↦ rw (other (account_at l k).job nj) refl
      ])

  still_here : still_waiting t (booked (suc i) 1 0 l) i ≡ waiting_of t j
  still_here =
      open_waits t (booked (suc i) 1 0 l) i (open_of t (booked (suc i) 1 0 l) j i (same j ∙ there) (booked_account l i 1 0 j ∙ link))
      ∙ ap (waiting_of t) (booked_job l i 1 0 i ∙ job_here)

  pub books_picked : Books t (booked (suc i) 1 0 l)
  books_picked =
      record {
        balance = λ k b'.
            elim (ℕ_discrete k i) [
              | yes e ↦
                  rw e
                  (omega (
                    arith,
                    b.balance i inside,
                    booked_taken l i 1 0 i,
                    (booked_here l i 1 0 inside).0,
                    (booked_here l i 1 0 inside).1,
                    still_here,
                    open_waits s l i (open_of s l j i there link) ∙ ap (waiting_of s) job_here,
                    fewer,
                  ))
              | no ne ↦ rw (booked_there l i 1 0 k ne, still_there k ne) (b.balance k (subst (λ n. k < n) (booked_length l i 1 0) b'))
            ];
        entered = λ k h. rw (booked_account l i 1 0 k) (b.entered k (sym (same k) ∙ h));
      }
