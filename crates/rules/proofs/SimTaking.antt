-- The simulation through taking a job.
use Prim.Native.Nat.{ℕ, zero, suc, ◌+◌, ◌<◌}
use mathlib.Core.Path.{◌≡◌, refl, sym, ◌∙◌, ap, subst}
use mathlib.Core.Logic.{◌≢◌, ◌⊎◌, inl, inr, ⊎_elim}
use mathlib.Core.Bool.{true, false, ◌&&◌}
use mathlib.Core.List.{List, [], ◌∷◌, ◌++◌}
use native.Mathlib.Decide.{ℕ_discrete}
use native.Mathlib.Nat.{suc_inj, lt_irrefl}
use native.Mathlib.Omega.{arith}
use lib.ListN.{length}
use lib.Dec.{eqb}
use borrow.Author.Tests.{ne_eqb}
use Rattle.laws.specs.Chain.{first_along}
use Rattle.laws.specs.Onto.{near}
use Rattle.laws.specs.Order.{Before}
use Rattle.laws.specs.Sequence.{holds}
use Rattle.laws.proofs.Bools.{true_not_false, and_left_false, and_right_false}
use Rattle.laws.proofs.Update.{upd_same, upd_below}
use Rattle.laws.proofs.All.{below_suc}
use Rattle.laws.proofs.Newest.{get_or_old, get_or_new, length_new}
use Rattle.laws.proofs.Sequence.{holds_cases}
use Rattle.laws.proofs.Chain.{first_along_zero, first_along_same, first_along_agree, first_along_enough, first_along_ok}
use Rattle.laws.proofs.Order.{before_append_cases, before_left, before_right}
use Rattle.ceiling.specs.Columns.{Columns, of_transport}
use Rattle.ceiling.specs.Steps.{add_row}
use Rattle.ceiling.proofs.Forest.{sold_add, sold_add_new}
use Rattle.ceiling.proofs.Ceilings.{names_end}
use Rattle.ceiling.proofs.Invariant.{inv_add}
use Rattle.rules.specs.declared.Setup.{Setup}
use Rattle.rules.specs.declared.State.{State}
use Rattle.rules.specs.State.{queue_of, is_present}
use Rattle.rules.specs.SoundFacts.{Sound}
use Rattle.rules.specs.Taking.{taken}
use Rattle.rules.specs.Tally.{Row, Tally, no_row, row_at, row_of, new_row, with_job}
use Rattle.rules.proofs.Shape.{Shaped}
use Rattle.rules.proofs.Taken.{Fits, taken_others, taken_new, present_other}
use Rattle.rules.proofs.TakenEntries.{taken_waiting_new, taken_waiting_other}
use Rattle.rules.proofs.TakenLists.{taken_queue, taken_queue_other}
use Rattle.rules.proofs.Rows.{row_of_new, row_of_old}
use Rattle.rules.proofs.Sim.{present_row, job_link, Ahead, RowIs, JobIs, Sim}
use Rattle.rules.proofs.SimRows.{row_inside, present_of, sum_on_lem}
use Rattle.rules.proofs.ListFacts.{queue_job}

module _ {u : Setup} {w : State} {y : Tally} {g : Columns} (m : Sim u w y g) (j t now : ℕ) (kept : List ℕ) (shaped : Shaped w) (sound : Sound w)
    (fits : Fits w j t kept) where
  abbrev n : ℕ
  n = length kept

  abbrev after : State
  after = taken w j t now kept

  abbrev new : Row
  new = new_row y.rows j t n

  abbrev rows : List Row
  rows = y.rows ++ (new ∷ [])

  abbrev g' : Columns
  g' = add_row g t n

  new_job : new.job ≡ j
  unfolding new_row
  new_job = refl

  -- rows of jobs

  row_of_j : row_of rows j ≡ suc g.rows
  row_of_j = ap (row_of rows) (sym new_job) ∙ row_of_new y.rows new ∙ ap suc m.rows

  row_of_other : (x : ℕ) → x ≢ j → row_of rows x ≡ row_of y.rows x
  row_of_other x ne = row_of_old y.rows new x (λ e. ne (e ∙ new_job))

  old : (i : ℕ) → i < g.rows → row_at rows i ≡ row_at y.rows i
  old i l = get_or_old (λ r. r.job) no_row y.rows new i (subst (λ n. i < n) (sym m.rows) l)

  newest : row_at rows g.rows ≡ new
  newest = ap (row_at rows) (sym m.rows) ∙ get_or_new (λ r. r.job) no_row y.rows new

  row_after : (i : ℕ) → i < suc g.rows → RowIs g' i (row_at rows i)
  unfolding new_row
  row_after = below_suc (λ i. RowIs g' i (row_at rows i)) g.rows older (subst (RowIs g' g.rows) (sym newest) latest)
    where
      older : (i : ℕ) → i < g.rows → RowIs g' i (row_at rows i)
      older i l =
          let r = m.row i l in
          subst (RowIs g' i) (sym (old i l))
          (record {
            transport = r.transport ∙ sym (upd_below g.transport g.rows t i l);
            n = r.n ∙ sym (upd_below g.n g.rows n i l);
            upto = r.upto ∙ sym (upd_below g.upto g.rows _ i l);
            overtakers = r.overtakers ∙ sym (upd_below g.over g.rows 0 i l);
            names = r.names ∙ sym (upd_below g.names g.rows 0 i l);
            past = r.past ∙ sym (upd_below g.blocked g.rows 0 i l);
            lastpick = r.lastpick ∙ sym (upd_below g.last_pick g.rows 0 i l);
            lasttotal = r.lasttotal ∙ sym (upd_below g.last_total g.rows 0 i l);
            lastpast = r.lastpast ∙ sym (upd_below g.last_blocked g.rows 0 i l);
          })

      latest : RowIs g' g.rows new
      latest =
          record {
            transport = sym (upd_same g.transport g.rows t);
            n = sym (upd_same g.n g.rows n);
            upto = omega (arith, sum_on_lem m t (λ r. r.n) g.n (λ i l. (m.row i l).n), upd_same g.upto g.rows (n + of_transport g t g.n g.rows));
            overtakers = sym (upd_same g.over g.rows 0);
            names = sym (upd_same g.names g.rows 0);
            past = sym (upd_same g.blocked g.rows 0);
            lastpick = sym (upd_same g.last_pick g.rows 0);
            lasttotal = sym (upd_same g.last_total g.rows 0);
            lastpast = sym (upd_same g.last_blocked g.rows 0);
          }

  -- which rows are present

  present_job : (x i : ℕ) → i < g.rows → is_present after x && eqb (row_of rows x) (suc i) ≡ is_present w x && eqb (row_of y.rows x) (suc i)
  present_job x i l =
      elim (ℕ_discrete x j) [
        | yes e ↦
            rw e
            (and_right_false (is_present after j) (rw row_of_j (ne_eqb (suc g.rows) (suc i) (λ q. lt_irrefl i (rw (suc_inj q) at l))))
            ∙ sym (and_left_false (eqb (row_of y.rows j) (suc i)) fits.absent))
        | no ne ↦ rw ((taken_others w j t now kept shaped sound fits x ne).present, row_of_other x ne) refl
      ]

  present_old : (i : ℕ) → i < g.rows → present_row after rows i ≡ present_row w y.rows i
  unfolding present_row
  present_old i l = ap (λ r. is_present after r.job && eqb (row_of rows r.job) (suc i)) (old i l) ∙ present_job (row_at y.rows i).job i l

  present_new : present_row after rows g.rows ≡ true
  present_new = present_of after rows j g.rows (taken_new w j t now kept shaped sound fits).present row_of_j

  -- chains of old rows

  closed : (i z : ℕ) → i < g.rows → g.names i ≡ suc z → z < g.rows
  closed i z l e = (m.inv.forest.named i z l e).inside

  closed' : (i z : ℕ) → i < g.rows → g'.names i ≡ suc z → z < g.rows
  closed' i z l e = closed i z l (sym (upd_below g.names g.rows 0 i l) ∙ e)

  up_old : (i : ℕ) → i < g.rows → near (present_row after rows) g'.names (suc g.rows) i ≡ near (present_row w y.rows) g.names g.rows i
  unfolding near
  up_old i l =
      first_along_agree (present_row after rows) (present_row w y.rows) g'.names (λ z. z < g.rows) closed' present_old (suc g.rows) (g'.names i)
      (λ z e. closed' i z l e)
      ∙ first_along_same g'.names g.names (λ z. z < g.rows) closed' (λ z l. upd_below g.names g.rows 0 z l) (present_row w y.rows) (suc g.rows)
      (g'.names i) (λ z e. closed' i z l e)
      ∙ ap (first_along (present_row w y.rows) g.names (suc g.rows)) (upd_below g.names g.rows 0 i l)
      ∙ first_along_enough (present_row w y.rows) g.names g.rows (suc g.rows) (g.names i) (omega arith) (names_end m.inv i l)

  up_new : near (present_row after rows) g'.names (suc g.rows) g.rows ≡ 0
  unfolding near
  up_new =
      ap (first_along (present_row after rows) g'.names (suc g.rows)) (upd_same g.names g.rows 0)
      ∙ first_along_zero (present_row after rows) g'.names (suc g.rows)

  -- a link to an old row
  link_old : (k : ℕ) → ((z : ℕ) → k ≡ suc z → z < g.rows) → job_link rows k ≡ job_link y.rows k
  unfolding job_link
  link_old zero h = refl
  link_old (suc z) h = ap (λ r. suc r.job) (old z (h z refl))

  up_inside : (i : ℕ) → i < g.rows → (z : ℕ) → near (present_row w y.rows) g.names g.rows i ≡ suc z → z < g.rows
  unfolding near
  up_inside i l z e = (first_along_ok (present_row w y.rows) g.names (λ z. z < g.rows) closed g.rows (g.names i) (λ z e. closed i z l e) z e).0

  -- jobs

  job_other : (x i : ℕ) → x ≢ j → JobIs w y.rows g x i → JobIs after rows g' x i
  job_other x i ne r =
      let o = taken_others w j t now kept shaped sound fits x ne in
      let l : i < g.rows = row_inside m x i r.link in
      record {
        link = row_of_other x ne ∙ r.link;
        transport = o.transport ∙ r.transport ∙ sym (upd_below g.transport g.rows t i l);
        picked = o.picked ∙ r.picked ∙ sym (upd_below g.picked g.rows 0 i l);
        waiting = taken_waiting_other w j t now kept shaped sound fits x ne ∙ r.waiting ∙ sym (upd_below g.waiting g.rows n i l);
        n = o.n ∙ r.n ∙ sym (upd_below g.n g.rows n i l);
        sold = o.sold ∙ r.sold ∙ sym (sold_add m.inv.forest t n i);
        over = o.overtakers ∙ r.over ∙ sym (upd_below g.over g.rows 0 i l);
        unmarked = λ f. upd_below g.names g.rows 0 i l ∙ r.unmarked (sym o.preempted ∙ f);
        parent = o.parent ∙ r.parent ∙ sym (ap (job_link rows) (up_old i l) ∙ link_old _ (up_inside i l));
      }

  job_own : JobIs after rows g' j g.rows
  unfolding job_link
  job_own =
      let o = taken_new w j t now kept shaped sound fits in
      record {
        link = row_of_j;
        transport = o.transport ∙ sym (upd_same g.transport g.rows t);
        picked = o.picked ∙ sym (upd_same g.picked g.rows 0);
        waiting = taken_waiting_new w j t now kept shaped sound fits ∙ sym (upd_same g.waiting g.rows n);
        n = o.n ∙ sym (upd_same g.n g.rows n);
        sold = o.sold ∙ sym (sold_add_new m.inv.forest t n);
        over = o.overtakers ∙ sym (upd_same g.over g.rows 0);
        unmarked = λ f. upd_same g.names g.rows 0;
        parent = o.parent ∙ sym (ap (job_link rows) up_new);
      }

  jobs_after : (x : ℕ) → is_present after x ≡ true → (i : ℕ) × JobIs after rows g' x i
  jobs_after x h =
      elim (ℕ_discrete x j) [
        | yes e ↦ (g.rows, subst (λ x. JobIs after rows g' x g.rows) (sym e) job_own)
        | no ne ↦
            let (i, r) = m.job x (sym (taken_others w j t now kept shaped sound fits x ne).present ∙ h) in
            (i, job_other x i ne r)
      ]

  gone_after : (i : ℕ) → i < suc g.rows → present_row after rows i ≡ false → g'.waiting i ≡ 0
  gone_after =
      below_suc (λ i. present_row after rows i ≡ false → g'.waiting i ≡ 0) g.rows
      (λ i l f. upd_below g.waiting g.rows n i l ∙ m.gone i l (sym (present_old i l) ∙ f)) (λ f. true_not_false present_new f)

  -- the order

  holds_none : (z : ℕ) → holds z [] ≡ false
  unfolding holds
  holds_none z = refl

  before_none : (x z : ℕ) → Before x z (j ∷ []) → ⊥
  unfolding Before
  before_none x z s = ⊎_elim (λ s. true_not_false s.1 (holds_none z)) (λ s. s) s

  ahead_before : (a b : ℕ) → Ahead after rows a b → Ahead w y.rows a b ⊎ ((b ≡ g.rows) × (a < g.rows))
  ahead_before a b (v, x, z, l, q, e1, e2) =
      elim (ℕ_discrete v t) [
        | yes e ↦
            ⊎_elim (λ s. inl (old_pair t x z fits.transport s e1 e2))
            (⊎_elim (λ s. inr (last (single s).1, first s.0)) (λ s. absurd (before_none x z s)))
            (before_append_cases x z (queue_of w t) (j ∷ [])
            (subst (Before x z) (taken_queue w j t now kept shaped sound fits) (subst (λ v. Before x z (queue_of after v)) e q)))
        | no ne ↦ inl (old_pair v x z (unfold taken in l) (subst (Before x z) (taken_queue_other w j t now kept shaped sound fits v ne) q) e1 e2)
      ]
    where
      listed_other : (v x : ℕ) → v < w.setup.transports → holds x (queue_of w v) ≡ true → x ≢ j
      listed_other v x l h = present_other w j t kept fits x (queue_job w v x sound l h).1

      old_pair : (v x z : ℕ) → v < w.setup.transports → Before x z (queue_of w v) → row_of rows x ≡ suc a → row_of rows z ≡ suc b → Ahead w y.rows a b
      old_pair v x z l q e1 e2 = (
        v,
        x,
        z,
        l,
        q,
        sym (row_of_other x (listed_other v x l (before_left x z (queue_of w v) q))) ∙ e1,
        sym (row_of_other z (listed_other v z l (before_right x z (queue_of w v) q))) ∙ e2,
      )

      last : z ≡ j → b ≡ g.rows
      last e = suc_inj (sym e2 ∙ ap (row_of rows) e ∙ row_of_j)

      single : (holds x (queue_of w t) ≡ true) × (holds z (j ∷ []) ≡ true) → (holds x (queue_of w t) ≡ true) × (z ≡ j)
      single s = (s.0, ⊎_elim (λ e. e) (λ h. true_not_false h (holds_none z)) (holds_cases z j [] s.1))

      first : holds x (queue_of w t) ≡ true → a < g.rows
      first h = row_inside m x a (sym (row_of_other x (listed_other t x fits.transport h)) ∙ e1)

  pub sim_taken : Sim u (taken w j t now kept) (with_job y j t (length kept)) (add_row g t (length kept))
  unfolding with_job
  sim_taken =
      record {
        setup = unfold taken in m.setup;
        rows = length_new (λ r. r.job) no_row y.rows new ∙ ap suc m.rows;
        row = row_after;
        picks = m.picks;
        total = m.total;
        job = jobs_after;
        gone = gone_after;
        inv = inv_add m.inv t n ahead_before;
      }
