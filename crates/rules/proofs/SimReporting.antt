-- The simulation through a report.
use Prim.Native.Nat.{ℕ, zero, suc, ◌+◌, ◌≤◌, ◌<◌}
use mathlib.Core.Path.{◌≡◌, refl, sym, ◌∙◌, ap, subst}
use mathlib.Core.Bool.{Bool, true, false, ◌&&◌}
use native.Mathlib.Nat.{suc_inj}
use native.Mathlib.Omega.{arith}
use lib.ListN.{get_or}
use lib.Dec.{eqb}
use Rattle.laws.specs.Bools.{when◌then◌else◌}
use Rattle.laws.specs.Chain.{ends_in, first_along}
use Rattle.laws.specs.Onto.{near}
use Rattle.laws.specs.Order.{Before}
use Rattle.laws.proofs.Bools.{true_not_false, case_bool, false_of, bool_same, if_true, if_false, if_cases, and_both, and_left, and_right}
use Rattle.laws.proofs.Chain.{first_along_enough}
use Rattle.laws.proofs.Onto.{ends_near, first_near, near_same}
use Rattle.laws.proofs.Order.{before_kept}
use Rattle.ceiling.specs.Columns.{Columns}
use Rattle.ceiling.specs.Steps.{lessen}
use Rattle.ceiling.proofs.Ceilings.{names_end}
use Rattle.ceiling.proofs.Invariant.{inv_lessen, inv_leave}
use Rattle.rules.specs.declared.Setup.{Setup}
use Rattle.rules.specs.declared.State.{State}
use Rattle.rules.specs.declared.Outcome.{Outcome}
use Rattle.rules.specs.Sizes.{max_entries}
use Rattle.rules.specs.State.{at, queue_of, is_present, is_busy, waiting_of, parent_of}
use Rattle.rules.specs.SoundFacts.{Sound}
use Rattle.rules.specs.Reporting.{settled, stays, nearest_staying}
use Rattle.rules.specs.Tally.{Tally, row_at, row_of}
use Rattle.rules.proofs.Shape.{Shaped, present_below}
use Rattle.rules.proofs.ReportedFacts.{settled_by, reported_by, ReportLeaves, report_leaves, reported_waiting_le, reported_was_present}
use Rattle.rules.proofs.ReportedFacts.{left_waiting, reported_queue, stays_are_present, reported_parent}
use Rattle.rules.proofs.Rows.{row_of_is}
use Rattle.rules.proofs.Sim.{present_row, job_link, Ahead, JobIs, Sim}
use Rattle.rules.proofs.SimRows.{row_inside, present_of, present_row_is}
use Rattle.rules.proofs.SimChain.{up, up_present, parent_up}

module _ {u : Setup} {w : State} {y : Tally} {g : Columns} (m : Sim u w y g) (now e : ℕ) (outcome : Outcome) (shaped : Shaped w) (sound : Sound w)
    (inside : e < max_entries) (busy : is_busy w e ≡ true) where
  abbrev after : State
  after = reported_by w now e outcome

  leaves : ReportLeaves w after
  leaves = report_leaves w now e outcome

  was_present : (j : ℕ) → is_present after j ≡ true → is_present w j ≡ true
  was_present = reported_was_present w now e outcome shaped sound inside busy

  -- what waits afterwards, by row
  pub left : ℕ → ℕ
  left i = when present_row w y.rows i then waiting_of after (row_at y.rows i).job else 0

  left_of : (j i : ℕ) → is_present w j ≡ true → row_of y.rows j ≡ suc i → left i ≡ waiting_of after j
  unfolding left
  left_of j i h e = if_true _ _ (present_of w y.rows j i h e) ∙ ap (waiting_of after) (row_of_is y.rows j i e).1

  left_le : (i : ℕ) → i < g.rows → left i ≤ g.waiting i
  unfolding left
  left_le i l =
      if_cases (λ v. v ≤ g.waiting i) (present_row w y.rows i)
      (λ h.
      let q = present_row_is w y.rows i h in
      let (c, r) = m.job (row_at y.rows i).job q.0 in
      subst (λ n. waiting_of after (row_at y.rows i).job ≤ n) (r.waiting ∙ ap g.waiting (suc_inj (sym r.link ∙ q.1)))
      (reported_waiting_le w now e outcome shaped sound inside busy (row_at y.rows i).job))
      (λ h. omega arith)

  -- the rows that stay
  present_after : (i : ℕ) → present_row after y.rows i ≡ present_row w y.rows i && is_present after (row_at y.rows i).job
  unfolding present_row
  present_after i =
      let j : ℕ = (row_at y.rows i).job in
      let own : Bool = eqb (row_of y.rows j) (suc i) in
      bool_same
      (λ h. and_both (and_both (was_present j (and_left (is_present after j) own h)) (and_right (is_present after j) own h)) (and_left (is_present after j) own h))
      (λ h. and_both (and_right (is_present w j && own) (is_present after j) h) (and_right (is_present w j) own (and_left (is_present w j && own) (is_present after j) h)))

  -- a job that stays, as a test of rows
  row_stays : ℕ → Bool
  row_stays i = is_present after (row_at y.rows i).job

  -- a link of jobs and a link of present rows that lead to the same: so does the first that stays
  same_first : (n k : ℕ) → ((z : ℕ) → k ≡ suc z → present_row w y.rows z ≡ true)
      → first_along (is_present after) (parent_of w) n (job_link y.rows k) ≡ job_link y.rows (first_along row_stays (up m) n k)
  unfolding job_link first_along row_stays
  same_first zero k h = refl
  same_first (suc n) zero h = refl
  same_first (suc n) (suc z) h =
      case_bool (is_present after (row_at y.rows z).job)
      (λ t. if_true _ _ t ∙ sym (ap (job_link y.rows) (if_true (suc z) (first_along row_stays (up m) n (up m z)) t)))
      (λ f.
      if_false _ _ f ∙ ap (first_along (is_present after) (parent_of w) n) (parent_up m z (h z refl)) ∙ same_first n (up m z) (up_present m z)
      ∙ sym (ap (job_link y.rows) (if_false (suc z) (first_along row_stays (up m) n (up m z)) f)))

  parent_after_lem : (j i : ℕ) → is_present after j ≡ true → JobIs w y.rows g j i
      → parent_of after j ≡ job_link y.rows (near (present_row after y.rows) g.names g.rows i)
  unfolding near settled
  parent_after_lem j i h r =
      let l : i < g.rows = row_inside m j i r.link in
      let k : ℕ = parent_of w j in
      let was : is_present w j ≡ true = was_present j h in
      let ends : ends_in (parent_of w) 32 k ≡ true = (sound.jobs j (present_below w shaped j was) was).ends in
      let nearest : nearest_staying (settled_by w now e outcome) j ≡ first_along (stays (settled_by w now e outcome)) (parent_of w) 32 k =
      first_along_enough (stays (settled_by w now e outcome)) (parent_of w) 32 _ k (omega arith) ends in
      reported_parent w now e outcome shaped sound inside busy j h
      ∙ nearest ∙ ap (λ p. first_along p (parent_of w) 32 k) (stays_are_present w now e outcome shaped sound inside busy)
      ∙ sym (first_along_enough (is_present after) (parent_of w) 32 (32 + g.rows) k (omega arith) ends)
      ∙ ap (first_along (is_present after) (parent_of w) (32 + g.rows)) r.parent
      ∙ same_first (32 + g.rows) (up m i) (up_present m i)
      ∙ ap (job_link y.rows)
      (first_along_enough row_stays (up m) g.rows (32 + g.rows) (up m i) (omega arith)
      (ends_near (present_row w y.rows) g.names g.rows g.rows (g.names i) (omega arith) (names_end m.inv i l))
      ∙ first_near (present_row w y.rows) g.names g.rows row_stays g.rows (g.names i) (omega arith) (names_end m.inv i l)
      ∙ sym (near_same (present_row after y.rows) (λ i. present_row w y.rows i && row_stays i) g.names g.rows i (λ i. unfold row_stays in present_after i)))

  jobs_after : (j : ℕ) → is_present after j ≡ true → (i : ℕ) × JobIs after y.rows (lessen g left) j i
  jobs_after j h =
      let was : is_present w j ≡ true = was_present j h in
      let (i, r) = m.job j was in (
        i,
        record {
          link = r.link;
          transport = ap (λ c. at c j) leaves.transport ∙ r.transport;
          picked = ap (λ c. at c j) leaves.picked ∙ r.picked;
          waiting = sym (left_of j i was r.link);
          n = ap (λ c. at c j) leaves.n ∙ r.n;
          sold = ap (λ c. at c j) leaves.sold ∙ r.sold;
          over = ap (λ c. at c j) leaves.overtakers ∙ r.over;
          unmarked = λ f. r.unmarked (ap (λ c. get_or c j false) (sym leaves.preempted) ∙ f);
          parent = parent_after_lem j i h r;
        },
      )

  gone_after : (i : ℕ) → i < g.rows → present_row after y.rows i ≡ false → left i ≡ 0
  unfolding left
  gone_after i l f =
      if_cases (λ v. v ≡ 0) (present_row w y.rows i)
      (λ h.
      left_waiting w now e outcome shaped sound inside busy (row_at y.rows i).job (present_row_is w y.rows i h).0
      (false_of λ t. true_not_false (and_both h t) (sym (present_after i) ∙ f)))
      (λ h. refl)

  ahead_before : (a b : ℕ) → Ahead after y.rows a b → Ahead w y.rows a b
  ahead_before a b (v, x, z, l, q, e1, e2) =
      let few : v < w.setup.transports = subst (λ u. v < u.transports) leaves.setup l in
      (v, x, z, few, before_kept x z (is_present after) (queue_of w v) (subst (Before x z) (reported_queue w now e outcome shaped sound inside busy v few) q), e1, e2)

  pub sim_reported : Sim u (reported_by w now e outcome) y (lessen g left)
  sim_reported =
      record {
        setup = leaves.setup ∙ m.setup;
        rows = m.rows;
        row = λ i l.
            (let r = m.row i l in
            record {
              transport = r.transport;
              n = r.n;
              upto = r.upto;
              overtakers = r.overtakers;
              names = r.names;
              past = r.past;
              lastpick = r.lastpick;
              lasttotal = r.lasttotal;
              lastpast = r.lastpast;
            });
        picks = m.picks;
        total = m.total;
        job = jobs_after;
        gone = gone_after;
        inv = inv_leave (inv_lessen m.inv left left_le) ahead_before;
      }
