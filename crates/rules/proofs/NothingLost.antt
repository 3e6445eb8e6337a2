-- Nothing is lost over any list of calls: entries taken to wait = picked + put off later + still waiting.
use Prim.Native.Nat.{ℕ, zero, suc, ◌+◌, ◌≤◌, ◌<◌}
use mathlib.Core.Path.{◌≡◌, refl, sym, ◌∙◌, ap, subst}
use mathlib.Core.Logic.{◌≢◌}
use mathlib.Core.Bool.{Bool, true, false, ◌&&◌}
use mathlib.Core.List.{List, [], ◌∷◌, map, foldl}
use native.Mathlib.Decide.{ℕ_discrete}
use native.Mathlib.Nat.{suc_inj}
use native.Mathlib.Omega.{arith}
use lib.ListN.{length}
use lib.Dec.{eqb}
use borrow.Author.Tests.{eqb-true, eq-eqb, ne_eqb}
use Rattle.laws.specs.Bools.{when◌then◌else◌}
use Rattle.laws.specs.Sequence.{times_in}
use Rattle.laws.proofs.Bools.{true_not_false, case_bool, one_true, one_false, if_true, if_false}
use Rattle.laws.proofs.Newest.{newest_is, set_field}
use Rattle.laws.proofs.Sequence.{times_cons, times_single}
use Rattle.rules.specs.declared.Setup.{Setup}
use Rattle.rules.specs.declared.State.{State}
use Rattle.rules.specs.declared.Outcome.{Outcome}
use Rattle.rules.specs.Sizes.{max_entries}
use Rattle.rules.specs.State.{at, is_present, is_busy, job_of, destination_of, waiting_of}
use Rattle.rules.specs.Setup.{setup_in_range, fresh_state}
use Rattle.rules.specs.SoundFacts.{Sound}
use Rattle.rules.specs.Windows.{woken}
use Rattle.rules.specs.Taking.{kept_of, n_of, new_number, taken}
use Rattle.rules.specs.Picking.{finds, next_place, next_entry}
use Rattle.rules.specs.Preemption.{preempting}
use Rattle.rules.specs.Pick.{handed_out, pick_from, pick_with, picking}
use Rattle.rules.specs.Reporting.{reporting}
use Rattle.rules.specs.Calls.{took, put_off, Call, picking_decision}
use Rattle.rules.specs.History.{state_after}
use Rattle.rules.specs.Ledger.{Account, no_account, account_at, account_of, booked, entered, accounts_of, still_waiting}
use Rattle.rules.proofs.Shape.{Shaped}
use Rattle.rules.proofs.EntryTests.{absent_waiting}
use Rattle.rules.proofs.KeptWaking.{woken_waits}
use Rattle.rules.proofs.Taken.{Passed, fits_of, taken_others, taken_new}
use Rattle.rules.proofs.TakenEntries.{taken_waiting_new, taken_waiting_other}
use Rattle.rules.proofs.Preempted.{preempting_waits, preempting_eligible}
use Rattle.rules.proofs.KeptPreempting.{kept_preempting}
use Rattle.rules.proofs.HandedOut.{CanHandOut, handed_waits_own, handed_waits_other}
use Rattle.rules.proofs.KeptPicking.{next_can, picking_cases}
use Rattle.rules.proofs.ReportedFacts.{reported_by, died_by, reported_waiting, reported_was_present, left_waiting, reported_putoff, putoff_times}
use Rattle.rules.proofs.RangeFacts.{in_range_facts}
use Rattle.rules.proofs.KeptFresh.{kept_fresh}
use Rattle.rules.proofs.CallCases.{Steps, calls_keep}
use Rattle.rules.proofs.SimFresh.{none_present}
use Rattle.rules.proofs.Books.{Books, no_books, books_same, books_taken, booked_length, booked_job, booked_taken}
use Rattle.rules.proofs.Books.{booked_here, booked_there, booked_account, books_picked}

-- Entries are put off: what that does to each account.

-- the account of its job
unfoldable pub is_newest : List Account → ℕ → Bool
is_newest l i = eqb (account_of l (account_at l i).job) (suc i)

pub record PutOffFrom (l m : List Account) (jobs : List ℕ) : Type 0 where
  pub size : length m ≡ length l
  pub account : (j : ℕ) → account_of m j ≡ account_of l j
  pub job : (i : ℕ) → (account_at m i).job ≡ (account_at l i).job
  pub taken : (i : ℕ) → (account_at m i).taken ≡ (account_at l i).taken
  pub picked : (i : ℕ) → (account_at m i).picked ≡ (account_at l i).picked
  pub putoff : (i : ℕ) → i < length l
      → (account_at m i).putoff ≡ (account_at l i).putoff + (when is_newest l i then times_in (account_at l i).job jobs else 0)

-- an account that is not j's gets nothing
not_its : (l : List Account) (j i : ℕ) → account_of l j ≢ suc i → (when is_newest l i then times_in (account_at l i).job (j ∷ []) else 0) ≡ 0
unfolding is_newest
not_its l j i h =
    case_bool (eqb (account_of l (account_at l i).job) (suc i))
    (λ t.
    if_true _ _ t ∙ times_single (account_at l i).job j
    ∙ one_false (ne_eqb (account_at l i).job j (λ e. h (ap (account_of l) (sym e) ∙ eqb-true (account_of l (account_at l i).job) (suc i) t))))
    (λ f. if_false _ _ f)

its : (l : List Account) (j i : ℕ) → account_of l j ≡ suc i → (when is_newest l i then times_in (account_at l i).job (j ∷ []) else 0) ≡ 1
unfolding is_newest account_of
its l j i h =
    let e = (newest_is (λ a. a.job) no_account l j i h).1 in
    if_true _ _ (eq-eqb (account_of l (account_at l i).job) (suc i) (ap (account_of l) e ∙ h))
    ∙ times_single (account_at l i).job j ∙ one_true (eq-eqb (account_at l i).job j e)

one_off : (l : List Account) (j k : ℕ) → account_of l j ≡ k → PutOffFrom l (booked k 0 1 l) (j ∷ [])
one_off l j zero h =
    unfold booked in
    record {
      size = refl;
      account = λ j. refl;
      job = λ i. refl;
      taken = λ i. refl;
      picked = λ i. refl;
      putoff = λ i b. omega (arith, not_its l j i (λ e. omega arith));
    }
one_off l j (suc k) h =
    record {
      size = booked_length l k 0 1;
      account = booked_account l k 0 1;
      job = booked_job l k 0 1;
      taken = booked_taken l k 0 1;
      picked = λ i. picked_same i;
      putoff = λ i b.
          elim (ℕ_discrete i k) [
            | yes e ↦ rw e (omega (arith, (booked_here l k 0 1 (rw e at b)).1, its l j k h))
            | no ne ↦ rw (booked_there l k 0 1 i ne) (omega (arith, not_its l j i (λ q. ne (suc_inj (sym q ∙ h)))))
          ];
    }
  where
    picked_same : (i : ℕ) → (account_at (booked (suc k) 0 1 l) i).picked ≡ (account_at l i).picked
    picked_same i = unfold booked in set_field no_account l k _ (λ a. a.picked) (omega arith) i

and_then : {l m n : List Account} (j : ℕ) (jobs : List ℕ) → PutOffFrom l m (j ∷ []) → PutOffFrom m n jobs → PutOffFrom l n (j ∷ jobs)
unfolding is_newest
and_then {l} {m} {n} j jobs p q =
    record {
      size = q.size ∙ p.size;
      account = λ j. q.account j ∙ p.account j;
      job = λ i. q.job i ∙ p.job i;
      taken = λ i. q.taken i ∙ p.taken i;
      picked = λ i. q.picked i ∙ p.picked i;
      putoff = λ i b.
          (let one = p.putoff i b in
          let rest = q.putoff i (subst (λ n. i < n) (sym p.size) b) in
          let same : is_newest m i ≡ is_newest l i = ap (λ k. eqb k (suc i)) (ap (account_of m) (p.job i) ∙ p.account (account_at l i).job) in
          sum_up (is_newest l i) (times_in (account_at l i).job (j ∷ [])) (times_in (account_at l i).job jobs) (times_in (account_at l i).job (j ∷ jobs))
          (account_at l i).putoff (account_at m i).putoff (account_at n i).putoff
          (times_cons (account_at l i).job j jobs ∙ ap (λ n. n + times_in (account_at l i).job jobs) (sym (times_single (account_at l i).job j))) one
          (rw (same, p.job i) at rest));
    }
  where
    sum_up : (b : Bool) (x y z a c d : ℕ) → z ≡ x + y → c ≡ a + (when b then x else 0) → d ≡ c + (when b then y else 0) → d ≡ a + (when b then z else 0)
    sum_up true x y z a c d e f g = unfold when◌then◌else◌ in omega arith
    sum_up false x y z a c d e f g = unfold when◌then◌else◌ in omega arith

put_off_from : (jobs : List ℕ) (l : List Account) → PutOffFrom l (foldl entered l (map put_off jobs)) jobs
unfolding entered
put_off_from [] l =
    record {
      size = refl;
      account = λ j. refl;
      job = λ i. refl;
      taken = λ i. refl;
      picked = λ i. refl;
      putoff = λ i b. none (is_newest l i) (account_at l i).putoff (account_at l i).job;
    }
  where
    none : (b : Bool) (n x : ℕ) → n ≡ n + (when b then times_in x [] else 0)
    none true n x = unfold when◌then◌else◌ times_in in omega arith
    none false n x = unfold when◌then◌else◌ in omega arith
put_off_from (j ∷ jobs) l = and_then j jobs (one_off l j (account_of l j) refl) (put_off_from jobs (booked (account_of l j) 0 1 l))

-- the books after a report
module _ {s : State} (t : State) {l : List Account} (b : Books s l) (jobs : List ℕ) (was : (j : ℕ) → is_present t j ≡ true → is_present s j ≡ true)
    (waits : (j : ℕ) → waiting_of s j ≡ times_in j jobs + waiting_of t j) (left : (j : ℕ) → is_present s j ≡ true → is_present t j ≡ false → waiting_of t j ≡ 0)
    (absent : (j : ℕ) → is_present s j ≡ false → waiting_of s j ≡ 0) where
  abbrev m : List Account
  m = foldl entered l (map put_off jobs)

  still_job : (newest here there : Bool) (j : ℕ) → is_present s j ≡ here → is_present t j ≡ there
      → (when here && newest then waiting_of s j else 0) ≡ (when newest then times_in j jobs else 0) + (when there && newest then waiting_of t j else 0)
  unfolding when◌then◌else◌
  still_job false true true j p q = refl
  still_job false true false j p q = refl
  still_job false false true j p q = refl
  still_job false false false j p q = refl
  still_job true true true j p q = waits j
  still_job true true false j p q = omega (arith, waits j, left j p q)
  still_job true false true j p q = true_not_false (was j q) p
  still_job true false false j p q = omega (arith, waits j, absent j p)

  pub books_put_off : Books t m
  books_put_off =
      let o = put_off_from jobs l in
      record {
        balance = λ i k.
            (let k' : i < length l = subst (λ n. i < n) o.size k in
            let split : still_waiting s l i ≡ (when is_newest l i then times_in (account_at l i).job jobs else 0) + still_waiting t m i =
            unfold still_waiting is_newest in
            (rw (o.job i, o.account (account_at l i).job)
            (still_job (eqb (account_of l (account_at l i).job) (suc i)) (is_present s (account_at l i).job) (is_present t (account_at l i).job) (account_at l i).job refl refl)) in
            omega (arith, b.balance i k', o.taken i, o.picked i, o.putoff i k'));
        entered = λ j h. rw (o.account j) (b.entered j (was j h));
      }

-- The books through each step.

books_woken : (s : State) {l : List Account} → Books s l → (now : ℕ) → Books (woken s now) l
books_woken s b now = books_same (woken s now) b (λ j. unfold woken in refl) (woken_waits s now)

books_taking : (w : State) {l : List Account} → Shaped w → Sound w → Books w l → (t : ℕ) (dests : List ℕ) → Passed w t dests
    → Books (taken w (new_number w) t w.clock (kept_of w dests)) (entered l (took (new_number w) t (n_of w dests)))
unfolding entered n_of
books_taking w shaped sound b t dests p =
    let j : ℕ = new_number w in
    let now : ℕ = w.clock in
    let kept : List ℕ = kept_of w dests in
    let fits = fits_of w t dests p in
    books_taken (taken w j t now kept) b j (length kept) fits.absent (taken_new w j t now kept shaped sound fits).present
    (taken_waiting_new w j t now kept shaped sound fits) (λ k ne. (taken_others w j t now kept shaped sound fits k ne).present)
    (taken_waiting_other w j t now kept shaped sound fits)

-- an entry of a present job is handed out
hands_out : (w : State) {l : List Account} → Books w l → Shaped w → (t j place e : ℕ) → CanHandOut w t j place e → is_present w j ≡ true
    → Books (handed_out w t j place e) (booked (account_of l j) 1 0 l)
hands_out w {l} b shaped t j place e can h = go (account_of l j) refl
  where
    go : (k : ℕ) → account_of l j ≡ k → Books (handed_out w t j place e) (booked k 1 0 l)
    go zero q = absurd (none (b.entered j h))
      where
        none : 1 ≤ account_of l j → ⊥
        none o = omega arith
    go (suc i) q =
        books_picked (handed_out w t j place e) b j i h q (λ k. unfold handed_out in refl) (handed_waits_own w t j place e shaped can)
        (handed_waits_other w t j place e shaped can)

books_picking : (w : State) {l : List Account} → Shaped w → Sound w → Books w l → (now : ℕ) → finds w ≡ true
    → Books (picking w now).state (entered l (picking_decision (picking w now).found))
books_picking w {l} shaped sound b now f =
    picking_cases (λ p. Books p.state (entered l (picking_decision p.found))) w now shaped sound f
    (λ t x et ex lane cur none.
    unfold entered pick_from pick_with in
    hands_out w b shaped t x (next_place w x) (next_entry w x) (next_can w t x shaped sound cur.present cur.transport cur.eligible) cur.present)
    (λ t x z et ex lane cur some p.
    unfold entered pick_from pick_with in
    let moved : State = preempting w t z x (waiting_of w z) in
    let kept = kept_preempting w now t x z shaped sound lane.below cur p in
    let there : is_present moved z ≡ true = unfold preempting in p.present in
    let home : at moved.jobs.transport z ≡ t = unfold preempting in p.transport in
    hands_out moved (books_same moved b (λ j. unfold preempting in refl) (preempting_waits w t z x (waiting_of w z))) kept.0 t z (next_place moved z)
    (next_entry moved z) (next_can moved t z kept.0 kept.1 there home (preempting_eligible w t z x (waiting_of w z) z ∙ p.eligible)) there)

books_reporting : (w : State) {l : List Account} → Shaped w → Sound w → Books w l → (now e : ℕ) (outcome : Outcome) → e < max_entries → is_busy w e ≡ true
    → Books (reporting w now e (destination_of w e) outcome).state
    (foldl entered l (map put_off (map (job_of w) (reporting w now e (destination_of w e) outcome).putoff)))
books_reporting w shaped sound b now e outcome k busy =
    books_put_off (reported_by w now e outcome) b (map (job_of w) (reporting w now e (destination_of w e) outcome).putoff)
    (reported_was_present w now e outcome shaped sound k busy)
    (λ j.
    reported_waiting w now e outcome shaped sound k busy j
    ∙ ap (λ n. n + waiting_of (reported_by w now e outcome) j)
    (sym (ap (λ es. times_in j (map (job_of w) es)) (reported_putoff w now e outcome) ∙ putoff_times w (died_by w now e outcome) (destination_of w e) j)))
    (left_waiting w now e outcome shaped sound k busy) (λ j h. absent_waiting w sound j h)

books_steps : Steps entered Books
books_steps =
    record {
      wakes = λ s l shaped sound b now. books_woken s b now;
      takes = λ w l shaped sound b t dests p. books_taking w shaped sound b t dests p;
      picks = λ w l shaped sound b f. books_picking w shaped sound b w.clock f;
      reports = λ w l shaped sound b e outcome k busy. books_reporting w shaped sound b w.clock e outcome k busy;
    }

pub nothing_lost_lem : (u : Setup) → setup_in_range u ≡ true → (calls : List Call) → Books (state_after u calls) (accounts_of u calls)
unfolding state_after accounts_of
nothing_lost_lem u h calls =
    let kept = kept_fresh u (in_range_facts u h) in
    (calls_keep books_steps (fresh_state u) []
    (record { shaped = kept.0; sound = kept.1; said = no_books (fresh_state u) (none_present u) }) calls).said
