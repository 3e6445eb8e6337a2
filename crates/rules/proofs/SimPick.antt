-- The simulation through handing out an entry.
use Prim.Native.Nat.{ℕ, suc, ◌+◌, ◌-◌, ◌<◌}
use mathlib.Core.Path.{◌≡◌, refl, sym, ◌∙◌, ap, ap₂, subst}
use mathlib.Core.Logic.{◌≢◌}
use mathlib.Core.Bool.{true, false}
use mathlib.Core.List.{List}
use native.Mathlib.Decide.{ℕ_discrete}
use native.Mathlib.Nat.{suc_inj}
use native.Mathlib.Numerals.{add-one}
use native.Mathlib.Omega.{arith}
use lib.ListN.{length, length-set}
use Rattle.laws.specs.Update.{upd}
use Rattle.laws.specs.Onto.{near}
use Rattle.laws.proofs.Bools.{true_not_false}
use Rattle.laws.proofs.Update.{upd_same, upd_other, upd_all, upd_agree}
use Rattle.laws.proofs.Onto.{near_same}
use Rattle.ceiling.specs.Columns.{Columns}
use Rattle.ceiling.specs.Steps.{Picking, pick}
use Rattle.ceiling.proofs.Invariant.{inv_pick, inv_leave}
use Rattle.rules.specs.declared.Setup.{Setup}
use Rattle.rules.specs.declared.State.{State}
use Rattle.rules.specs.State.{at, is_present, waiting_of}
use Rattle.rules.specs.Pick.{handed_out}
use Rattle.rules.specs.Tally.{Row, Tally, row_at, row_of, with_last, noting, once_past, past_rows, with_pick_at}
use Rattle.rules.proofs.Shape.{Shaped, present_below}
use Rattle.rules.proofs.Rows.{row_of_is}
use Rattle.rules.proofs.HandedOut.{CanHandOut, handed_waits_own, handed_waits_other, handed_picked_own, handed_picked_other}
use Rattle.rules.proofs.Sim.{present_row, job_link, Ahead, RowIs, JobIs, Sim}
use Rattle.rules.proofs.SimPast.{past_at, past_field, past_length, past_column}
use Rattle.rules.proofs.SimRows.{rows_apart, present_of, same_row_of, same_link, same_present, row_same, row_other, row_field}

-- The rows that were gone past, and then the picked one's note.

module _ (rows : List Row) (jobs : List ℕ) (i picks total : ℕ) where
  abbrev pub noted : List Row
  noted = noting i picks total (past_rows jobs rows)

  pub noted_length : length noted ≡ length rows
  unfolding noting
  noted_length = length-set (past_rows jobs rows) i _ ∙ past_length jobs rows

  -- what neither writes
  pub noted_field : {B : Type 0} (f : Row → B) → ((r : Row) → f (once_past r) ≡ f r) → ((r : Row) → f (with_last picks total r) ≡ f r) → (k : ℕ) → f (row_at noted k) ≡ f (row_at rows k)
  unfolding noting
  noted_field f h q k = row_field (past_rows jobs rows) i _ f (q (row_at (past_rows jobs rows) i)) k ∙ past_field f h jobs rows k

  pub noted_jobs : (k : ℕ) → (row_at noted k).job ≡ (row_at rows k).job
  noted_jobs = noted_field (λ r. r.job) (λ r. refl) (λ r. refl)

  pub noted_past : (k : ℕ) → (row_at noted k).past ≡ (row_at (past_rows jobs rows) k).past
  unfolding noting
  noted_past = row_field (past_rows jobs rows) i _ (λ r. r.past) refl

  -- what the note alone writes, as a column
  pub noted_column : i < length rows → (f : Row → ℕ) (col : ℕ → ℕ) (v : ℕ) → f (with_last picks total (row_at (past_rows jobs rows) i)) ≡ v → ((r : Row) → f (once_past r) ≡ f r) → (k : ℕ)
      → f (row_at rows k) ≡ col k → f (row_at noted k) ≡ upd col i v k
  unfolding noting
  noted_column inside f col v here h =
      upd_all (λ k v. f (row_at rows k) ≡ col k → f (row_at noted k) ≡ v) col i v
      (λ e. ap f (row_same (past_rows jobs rows) i _ (subst (λ n. i < n) (sym (past_length jobs rows)) inside)) ∙ here)
      (λ k ne e. ap f (row_other (past_rows jobs rows) i _ k ne) ∙ past_field f h jobs rows k ∙ e)

-- a row after it, and the columns after a pick
module _ {g : Columns} (rows : List Row) (jobs : List ℕ) (i p q k : ℕ) (past : ℕ → ℕ) (went : (l : ℕ) → past_at rows jobs l ≡ past l) (inside : i < length rows)
    (picks : p ≡ suc (g.picks (g.transport i))) (total : q ≡ g.total (g.transport i) + k) (own : RowIs g i (row_at rows i)) where
  past_is : (l : ℕ) → l < length rows → RowIs g l (row_at rows l) → (row_at (past_rows jobs rows) l).past ≡ g.blocked l + past l
  past_is l b r = past_column jobs rows l b ∙ ap₂ ◌+◌ r.past (went l)

  pub row_noted : (l : ℕ) → l < length rows → RowIs g l (row_at rows l) → RowIs (pick g i k past) l (row_at (noted rows jobs i p q) l)
  row_noted l b r =
      record {
        transport = noted_field rows jobs i p q (λ r. r.transport) (λ r. refl) (λ r. refl) l ∙ r.transport;
        n = noted_field rows jobs i p q (λ r. r.n) (λ r. refl) (λ r. refl) l ∙ r.n;
        upto = noted_field rows jobs i p q (λ r. r.upto) (λ r. refl) (λ r. refl) l ∙ r.upto;
        overtakers = noted_field rows jobs i p q (λ r. r.overtakers) (λ r. refl) (λ r. refl) l ∙ r.overtakers;
        names = noted_field rows jobs i p q (λ r. r.names) (λ r. refl) (λ r. refl) l ∙ r.names;
        past = noted_past rows jobs i p q l ∙ past_is l b r;
        lastpick = noted_column rows jobs i p q inside (λ r. r.lastpick) g.last_pick _ picks (λ r. refl) l r.lastpick;
        lasttotal = noted_column rows jobs i p q inside (λ r. r.lasttotal) g.last_total _ total (λ r. refl) l r.lasttotal;
        lastpast = noted_column rows jobs i p q inside (λ r. r.lastpast) g.last_blocked _ (omega (arith, past_is i inside own)) (λ r. refl) l r.lastpast;
      }

module _ {u : Setup} {w : State} {y : Tally} {g : Columns} (m : Sim u w y g) (shaped : Shaped w) (t j place e i : ℕ) (can : CanHandOut w t j place e)
    (present : is_present w j ≡ true) (link : row_of y.rows j ≡ suc i) (k : ℕ) (jobs : List ℕ) (past : ℕ → ℕ) (went : (l : ℕ) → past_at y.rows jobs l ≡ past l)
    (picking : Picking g (Ahead w y.rows) i k past) where
  -- the row's transport, and what is noted
  abbrev lane : ℕ
  lane = (row_at y.rows i).transport

  abbrev rows : List Row
  rows = noted y.rows jobs i (y.picks lane + 1) (y.total lane + k)

  abbrev after : State
  after = handed_out w t j place e

  inside : i < length y.rows
  inside = (row_of_is y.rows j i link).0

  lane_is : lane ≡ g.transport i
  lane_is = (m.row i picking.inside).transport

  picks_is : y.picks lane + 1 ≡ suc (g.picks (g.transport i))
  picks_is = add-one (y.picks lane) ∙ ap suc (ap y.picks lane_is ∙ m.picks (g.transport i))

  total_is : y.total lane + k ≡ g.total (g.transport i) + k
  total_is = ap (λ n. n + k) (ap y.total lane_is ∙ m.total (g.transport i))

  row_of_noted : (x : ℕ) → row_of rows x ≡ row_of y.rows x
  row_of_noted = same_row_of y.rows rows (noted_length y.rows jobs i _ _) (noted_jobs y.rows jobs i _ _)

  present_noted : (l : ℕ) → present_row after rows l ≡ present_row w y.rows l
  unfolding handed_out
  present_noted = same_present y.rows rows (noted_length y.rows jobs i _ _) (noted_jobs y.rows jobs i _ _) w after (λ j. refl)

  link_noted : (x : ℕ) → job_link rows x ≡ job_link y.rows x
  link_noted = same_link y.rows rows (noted_length y.rows jobs i _ _) (noted_jobs y.rows jobs i _ _)

  -- a job and its row after it, given what was picked and what waits
  job_after : (x l : ℕ) → JobIs w y.rows g x l → at after.jobs.picked x ≡ upd g.picked i (suc (g.picked i)) l
      → waiting_of after x ≡ upd g.waiting i (g.waiting i - 1) l → JobIs after rows (pick g i k past) x l
  unfolding handed_out
  job_after x l r p q =
      record {
        link = row_of_noted x ∙ r.link;
        transport = r.transport;
        picked = p;
        waiting = q;
        n = r.n;
        sold = r.sold;
        over = r.over;
        unmarked = r.unmarked;
        parent =
            r.parent
            ∙ sym (link_noted (near (present_row w y.rows) g.names g.rows l))
            ∙ ap (job_link rows) (sym (near_same (present_row after rows) (present_row w y.rows) g.names g.rows l present_noted));
      }

  job_there : (x l : ℕ) → x ≢ j → JobIs w y.rows g x l → JobIs after rows (pick g i k past) x l
  job_there x l ne r =
      let apart = rows_apart y.rows x j l i r.link link ne in
      job_after x l r
      (handed_picked_other w t j place e shaped can x ne ∙ r.picked ∙ sym (upd_other g.picked i (suc (g.picked i)) l apart))
      (handed_waits_other w t j place e shaped can x ne ∙ r.waiting ∙ sym (upd_other g.waiting i (g.waiting i - 1) l apart))

  job_here : (l : ℕ) → JobIs w y.rows g j l → JobIs after rows (pick g i k past) j l
  job_here l r =
      let same : l ≡ i = suc_inj (sym r.link ∙ link) in
      job_after j l r
      (handed_picked_own w t j place e shaped can (present_below w shaped j present) ∙ ap suc (r.picked ∙ ap g.picked same)
      ∙ sym (ap (upd g.picked i (suc (g.picked i))) same ∙ upd_same g.picked i (suc (g.picked i))))
      (less (waiting_of w j) (waiting_of after j) (g.waiting i) (handed_waits_own w t j place e shaped can) (r.waiting ∙ ap g.waiting same)
      ∙ sym (ap (upd g.waiting i (g.waiting i - 1)) same ∙ upd_same g.waiting i (g.waiting i - 1)))
    where
      less : (a b c : ℕ) → a ≡ suc b → a ≡ c → b ≡ c - 1
      less a b c p q = omega arith

  gone_after : (l : ℕ) → l < g.rows → present_row after rows l ≡ false → upd g.waiting i (g.waiting i - 1) l ≡ 0
  gone_after l b h =
      let f : present_row w y.rows l ≡ false = sym (present_noted l) ∙ h in
      upd_other g.waiting i (g.waiting i - 1) l (λ q. true_not_false (ap (present_row w y.rows) q ∙ present_of w y.rows j i present link) f)
      ∙ m.gone l b f

  jobs_after : (x : ℕ) → is_present after x ≡ true → (l : ℕ) × JobIs after rows (pick g i k past) x l
  unfolding handed_out
  jobs_after x h =
      let (l, r) = m.job x h in
      elim (ℕ_discrete x j) [
        | yes q ↦ (l, subst (λ z. JobIs after rows (pick g i k past) z l) (sym q) (job_here l (subst (λ z. JobIs w y.rows g z l) q r)))
        | no ne ↦ (l, job_there x l ne r)
      ]

  ahead_before : (a b : ℕ) → Ahead after rows a b → Ahead w y.rows a b
  unfolding handed_out
  ahead_before a b (v, x, z, l, q, p, r) = (v, x, z, l, q, sym (row_of_noted x) ∙ p, sym (row_of_noted z) ∙ r)

  pub sim_handed_out : Sim u (handed_out w t j place e) (with_pick_at y (suc i) k (past_rows jobs y.rows)) (pick g i k past)
  unfolding with_pick_at
  sim_handed_out =
      record {
        setup = unfold handed_out in m.setup;
        rows = noted_length y.rows jobs i _ _ ∙ m.rows;
        row = λ l b. row_noted y.rows jobs i _ _ k past went inside picks_is total_is (m.row i picking.inside) l (subst (λ n. l < n) (sym m.rows) b) (m.row l b);
        picks = upd_agree y.picks g.picks lane_is picks_is m.picks;
        total = upd_agree y.total g.total lane_is total_is m.total;
        job = jobs_after;
        gone = gone_after;
        inv = inv_leave (inv_pick m.inv picking) ahead_before;
      }
