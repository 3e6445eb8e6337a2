-- What a candidate is, and which of them is the best.
use Prim.Native.Nat.{ℕ, zero, suc, ◌*◌, ◌≤◌, ◌<◌}
use mathlib.Core.Bool.{true, false, ◌&&◌}
use mathlib.Core.Path.{◌≡◌, refl, sym, ◌∙◌, ap, subst}
use mathlib.Core.Logic.{◌≢◌, ⊎_elim}
use native.Mathlib.Nat.{lt-suc_self, le_step, le_of_lt, le_refl, not-suc-le-zero, eq-or-lt_of_le}
use native.Mathlib.Decide.{dec_lt}
use native.Mathlib.Omega.{arith}
use lib.ListN.{length}
use borrow.Author.Tests.{eqb-true, eqb-false, leb-true, ltb-true, ltb-false, lt-ltb, le-ltb, not-true}
use Rattle.laws.proofs.Bools.{true_not_false, if_cases, and_left, and_right, and_false_cases}
use Rattle.laws.proofs.All.{below_suc}
use Rattle.laws.specs.Sequence.{holds}
use Rattle.laws.proofs.Sequence.{holds_place}
use Rattle.laws.proofs.Table.{fold_keeps}
use Rattle.laws.proofs.Fractions.{fraction_less}
use Rattle.laws.proofs.Joined.{and_6}
use Rattle.rules.specs.declared.State.{State}
use Rattle.rules.specs.State.{at, list_of, arrived_at, has_preempted, waiting_of}
use Rattle.rules.specs.Picking.{has_eligible}
use Rattle.rules.specs.Preemption.{can_pay_for, is_candidate, age_of, beats, better, best_before, best_candidate}
use Rattle.rules.proofs.EntryFacts.{has_eligible_waits}

pub record Candidate (s : State) (t y x : ℕ) : Type 0 where
  pub other : x ≢ y
  pub transport : at s.jobs.transport x ≡ t
  pub unpicked : at s.jobs.picked x ≡ 0
  pub unmarked : has_preempted s x ≡ false
  pub eligible : has_eligible s x ≡ true
  pub affordable : can_pay_for s t y x ≡ true

pub candidate_facts : (s : State) (t y x : ℕ) → is_candidate s t y x ≡ true → Candidate s t y x
unfolding is_candidate
candidate_facts s t y x h =
    let r = and_6 _ _ _ _ _ _ h in
    record {
      other = eqb-false x y (not-true _ r.0);
      transport = omega (arith, eqb-true);
      unpicked = omega (arith, eqb-true, leb-true);
      unmarked = not-true _ r.3;
      eligible = r.4;
      affordable = r.5;
    }

pub candidate_waits : (s : State) (t y x : ℕ) → is_candidate s t y x ≡ true → 1 ≤ waiting_of s x
candidate_waits s t y x h = has_eligible_waits s x (candidate_facts s t y x h).eligible

-- x beats b, which k does not beat
beats_less : (s : State) (now k b x : ℕ) → 1 ≤ waiting_of s k → beats s now k b ≡ false → beats s now x b ≡ true → beats s now x k ≡ true
unfolding beats
beats_less s now k b x one f t =
    lt-ltb (age_of s now k * waiting_of s x) (age_of s now x * waiting_of s k)
    (fraction_less (age_of s now k) (age_of s now b) (age_of s now x) (waiting_of s k) (waiting_of s b) (waiting_of s x) one
    (ltb-false (age_of s now b * waiting_of s k) (age_of s now k * waiting_of s b) f)
    (ltb-true (age_of s now b * waiting_of s x) (age_of s now x * waiting_of s b) t))

beats_not : (s : State) (now x k : ℕ) → beats s now x k ≡ true → beats s now k x ≡ false
unfolding beats
beats_not s now x k t =
    le-ltb (age_of s now x * waiting_of s k) (age_of s now k * waiting_of s x) (le_of_lt (ltb-true (age_of s now k * waiting_of s x) (age_of s now x * waiting_of s k) t))

-- x is the best among the first n ranks
pub record Best (s : State) (now t y n x : ℕ) : Type 0 where
  pub rank : ℕ
  pub below : rank < n
  pub stands : arrived_at s rank ≡ x
  pub candidate : is_candidate s t y x ≡ true
  pub lower : (i : ℕ) → i < rank → is_candidate s t y (arrived_at s i) ≡ true → beats s now x (arrived_at s i) ≡ true
  pub higher : (i : ℕ) → i < n → rank < i → is_candidate s t y (arrived_at s i) ≡ true → beats s now (arrived_at s i) x ≡ false

-- a link to the best: none, or to it
abbrev pub BestLink : State → ℕ → ℕ → ℕ → ℕ → ℕ → Type 0
BestLink s now t y n zero = (i : ℕ) → i < n → is_candidate s t y (arrived_at s i) ≡ false
BestLink s now t y n (suc x) = Best s now t y n x

module _ (s : State) (now t y n : ℕ) where
  -- the newcomer is the best
  newcomer : (x : ℕ) → Best s now t y n x → is_candidate s t y (arrived_at s n) && beats s now (arrived_at s n) x ≡ true → Best s now t y (suc n) (arrived_at s n)
  newcomer x h k =
      let c = and_left (is_candidate s t y (arrived_at s n)) (beats s now (arrived_at s n) x) k in
      let b = and_right (is_candidate s t y (arrived_at s n)) (beats s now (arrived_at s n) x) k in
      record {
        rank = n;
        below = lt-suc_self n;
        stands = refl;
        candidate = c;
        lower = λ i l q.
            elim (dec_lt i h.rank) [
              | yes m ↦ beats_less s now (arrived_at s i) x (arrived_at s n) (candidate_waits s t y (arrived_at s i) q) (beats_not s now x (arrived_at s i) (h.lower i m q)) b
              | no m ↦
                  ⊎_elim
                  (λ e. rw (← e, h.stands) b)
                  (λ g. beats_less s now (arrived_at s i) x (arrived_at s n) (candidate_waits s t y (arrived_at s i) q) (h.higher i l g q) b)
                  (eq-or-lt_of_le {n = h.rank} {m = i} (omega arith))
            ];
        higher = λ i l g. absurd (omega arith);
      }

  best_step : (b : ℕ) → BestLink s now t y n b → BestLink s now t y (suc n) (better s now t y b (arrived_at s n))
  unfolding better
  best_step zero h =
      if_cases (BestLink s now t y (suc n)) (is_candidate s t y (arrived_at s n))
      (λ c.
      record {
        rank = n;
        below = lt-suc_self n;
        stands = refl;
        candidate = c;
        lower = λ i l q. true_not_false q (h i l);
        higher = λ i l g. absurd (omega arith);
      })
      (λ f. below_suc (λ i. is_candidate s t y (arrived_at s i) ≡ false) n h f)
  best_step (suc x) h =
      if_cases (BestLink s now t y (suc n)) (is_candidate s t y (arrived_at s n) && beats s now (arrived_at s n) x)
      (newcomer x h)
      (λ f.
      record {
        rank = h.rank;
        below = le_step h.below;
        stands = h.stands;
        candidate = h.candidate;
        lower = h.lower;
        higher =
            below_suc (λ i. h.rank < i → is_candidate s t y (arrived_at s i) ≡ true → beats s now (arrived_at s i) x ≡ false) n h.higher
            (λ g q. ⊎_elim (λ z. true_not_false q z) (λ z. z) (and_false_cases (is_candidate s t y (arrived_at s n)) (beats s now (arrived_at s n) x) f));
      })

pub best_link : (s : State) (now t y : ℕ) → BestLink s now t y (length (list_of s.arrivals)) (best_candidate s now t y)
unfolding best_candidate best_before
best_link s now t y =
    fold_keeps (BestLink s now t y) (λ rank b. better s now t y b (arrived_at s rank)) 0 (length (list_of s.arrivals))
    (λ i l. absurd (not-suc-le-zero l))
    (λ i b l h. best_step s now t y i b h)

pub best_some : (s : State) (now t y x : ℕ) → best_candidate s now t y ≡ suc x → Best s now t y (length (list_of s.arrivals)) x
best_some s now t y x e = subst (BestLink s now t y (length (list_of s.arrivals))) e (best_link s now t y)

-- no candidate beats the best
pub best_unbeaten : (s : State) (now t y n x : ℕ) → Best s now t y n x → (i : ℕ) → i < n → is_candidate s t y (arrived_at s i) ≡ true → beats s now (arrived_at s i) x ≡ false
unfolding beats
best_unbeaten s now t y n x b i l c = elim (dec_lt i b.rank) [
  | yes m ↦ beats_not s now x (arrived_at s i) (b.lower i m c)
  | no m ↦
      ⊎_elim
      (λ e. subst (λ z. beats s now z x ≡ false) (sym b.stands ∙ ap (arrived_at s) e)
      (le-ltb (age_of s now x * waiting_of s x) (age_of s now x * waiting_of s x) (le_refl (age_of s now x * waiting_of s x))))
      (λ g. b.higher i l g c)
      (eq-or-lt_of_le {n = b.rank} {m = i} (omega arith))
]

pub best_unbeaten_job : (s : State) (now t y x j : ℕ) → best_candidate s now t y ≡ suc x → holds j (list_of s.arrivals) ≡ true → is_candidate s t y j ≡ true → beats s now j x ≡ false
best_unbeaten_job s now t y x j e h c =
    let w = holds_place j (list_of s.arrivals) 0 h in
    subst (λ z. beats s now z x ≡ false) w.2
    (best_unbeaten s now t y (length (list_of s.arrivals)) x (best_some s now t y x e) w.0 w.1 (subst (λ z. is_candidate s t y z ≡ true) (sym w.2) c))
