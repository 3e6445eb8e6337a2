-- The simulation through a whole pick.
use Prim.Native.Nat.{ℕ, suc, ◌≤◌, ◌<◌}
use mathlib.Core.Path.{◌≡◌, sym, ◌∙◌, ap, subst}
use mathlib.Core.Logic.{◌≢◌, ◌⊎◌, inl, inr, ⊎_elim}
use mathlib.Core.Bool.{true}
use mathlib.Core.List.{List}
use native.Mathlib.Decide.{ℕ_discrete}
use native.Mathlib.Nat.{suc_inj, lt_of_lt_of_le}
use native.Mathlib.Omega.{arith}
use lib.Dec.{eqb}
use borrow.Author.Tests.{eqb-true, eq-eqb, lt-ltb}
use Rattle.laws.specs.Range.{sum_to}
use Rattle.laws.specs.Order.{Before}
use Rattle.laws.specs.Sequence.{holds, up_to, move_before}
use Rattle.laws.proofs.Bools.{true_of}
use Rattle.laws.proofs.Sequence.{count_in_pos_of, count_in_witness, count_in_same}
use Rattle.laws.proofs.Keep.{keep_in, holds_keep_in}
use Rattle.laws.proofs.FirstOf.{up_to_in}
use Rattle.laws.proofs.Once.{once_le}
use Rattle.laws.proofs.Order.{before_total, before_up_to}
use Rattle.laws.proofs.MoveOrder.{before_move_target, before_move_after}
use Rattle.ceiling.specs.Columns.{Columns}
use Rattle.ceiling.specs.Steps.{Picking, pick, preempt}
use Rattle.rules.specs.declared.Setup.{Setup}
use Rattle.rules.specs.declared.State.{State}
use Rattle.rules.specs.Sizes.{max_transports}
use Rattle.rules.specs.State.{queue_of, waiting_of}
use Rattle.rules.specs.SoundFacts.{Sound}
use Rattle.rules.specs.Picking.{finds, has_waiting, passed_over, next_place, next_entry}
use Rattle.rules.specs.Preemption.{preempting}
use Rattle.rules.specs.Pick.{handed_out, pick_from, pick_with, picking}
use Rattle.rules.specs.Calls.{picking_decision}
use Rattle.rules.specs.Tally.{Row, Tally, row_at, row_of, naming, overtaken, with_preemption, preempted_rows, past_rows, with_pick_at, with_pick, tallied}
use Rattle.rules.proofs.Shape.{Shaped}
use Rattle.rules.proofs.EntryFacts.{has_eligible_waits}
use Rattle.rules.proofs.Picked.{Current}
use Rattle.rules.proofs.Preemptor.{Preempts}
use Rattle.rules.proofs.KeptPreempting.{kept_preempting}
use Rattle.rules.proofs.Preempted.{preempting_queue_own, preempting_eligible}
use Rattle.rules.proofs.WentPast.{passed_jobs, passed_number, past_current, past_preemptor}
use Rattle.rules.proofs.KeptPicking.{next_can, picking_cases}
use Rattle.rules.proofs.Sim.{present_row, Ahead, Sim}
use Rattle.rules.proofs.SimRows.{job_is, row_inside, present_row_is, same_row_of}
use Rattle.rules.proofs.SimPast.{past_at, past_sum}
use Rattle.rules.proofs.SimPick.{sim_handed_out}
use Rattle.rules.proofs.SimTally.{Alike, alike_jobs, alike_transport, preempted_alike}
use Rattle.rules.proofs.SimPreempt.{sim_preempting}
use Rattle.rules.proofs.ListFacts.{queue_holds, queue_job, queue_once}

module _ {u : Setup} {w : State} {y : Tally} {g : Columns} (m : Sim u w y g) (shaped : Shaped w) (sound : Sound w) (t b : ℕ)
    (below : t < w.setup.transports) (cur : Current w t b) where
  -- a row of the transport with something waiting is that of a job in the list
  waiting_row : (i : ℕ) → i < g.rows → 1 ≤ g.waiting i → g.transport i ≡ t
      → (present_row w y.rows i ≡ true) × (holds (row_at y.rows i).job (queue_of w t) ≡ true) × (1 ≤ waiting_of w (row_at y.rows i).job)
  waiting_row i l h e =
      let here : present_row w y.rows i ≡ true = true_of λ f. let z = m.gone i l f in omega arith in
      let q = present_row_is w y.rows i here in
      let (c, r) = m.job (row_at y.rows i).job q.0 in
      let same : c ≡ i = suc_inj (sym r.link ∙ q.1) in (
        here,
        queue_holds w t (row_at y.rows i).job shaped sound below q.0 (r.transport ∙ ap g.transport same ∙ e),
        rw (r.waiting ∙ ap g.waiting same) h,
      )

  -- how often the pick goes past row i
  abbrev past : ℕ → ℕ
  past = past_at y.rows (passed_jobs w t b)

  -- a job that it passes over has a row, of this transport
  passed_row : (j : ℕ) → holds j (passed_jobs w t b) ≡ true → (i : ℕ) × (i < g.rows) × (row_of y.rows j ≡ suc i) × (g.transport i ≡ t)
  passed_row j h =
      let f = queue_job w t j sound below (up_to_in b j (queue_of w t) (keep_in (has_waiting w) j (up_to b (queue_of w t)) h)) in
      let (i, r) = m.job j f.1 in
      (i, row_inside m j i r.link, r.link, sym r.transport ∙ f.2)

  past_lane : (i : ℕ) → 1 ≤ past i → g.transport i ≡ t
  past_lane i h =
      let (j, k, e) = count_in_witness (λ j. eqb (row_of y.rows j) (suc i)) (passed_jobs w t b) h in
      let (c, l, q, lane) = passed_row j k in
      ap g.transport (suc_inj (sym (eqb-true (row_of y.rows j) (suc i) e) ∙ q)) ∙ lane

  past_number : sum_to past g.rows ≡ passed_over w t b
  past_number = past_sum y.rows g.rows (passed_jobs w t b) (λ j h. let r = passed_row j h in (r.0, r.1, r.2)) ∙ passed_number w t b

  -- of those not gone past, b itself or one behind it
  not_past : (i : ℕ) → i < g.rows → 1 ≤ g.waiting i → g.transport i ≡ t → past i ≡ 0
      → ((row_at y.rows i).job ≡ b) ⊎ Before b (row_at y.rows i).job (queue_of w t)
  not_past i l h e z =
      let (here, inside, waits) = waiting_row i l h e in
      elim (ℕ_discrete (row_at y.rows i).job b) [
        | yes q ↦ inl q
        | no ne ↦
            inr
            (⊎_elim (λ q. absurd (ahead here waits (before_up_to _ b (queue_of w t) (once_le (queue_once w t sound below) b) q))) (λ q. q)
            (before_total (row_at y.rows i).job b (queue_of w t) ne inside cur.inside))
      ]
    where
      -- whoever waits before b is gone past
      ahead : present_row w y.rows i ≡ true → 1 ≤ waiting_of w (row_at y.rows i).job → holds (row_at y.rows i).job (up_to b (queue_of w t)) ≡ true → ⊥
      ahead here waits k =
          let job = (row_at y.rows i).job in
          omega (
            arith,
            z,
            count_in_pos_of (λ j. eqb (row_of y.rows j) (suc i)) (passed_jobs w t b) job
                (holds_keep_in (has_waiting w) job (up_to b (queue_of w t)) k (lt-ltb 0 (waiting_of w job) waits))
                (eq-eqb (row_of y.rows job) (suc i) (present_row_is w y.rows i here).1),
          )

  -- From the current job.

  module _ (bi : ℕ) (eb : row_of y.rows b ≡ suc bi) where
    lane_of : g.transport bi ≡ t
    lane_of = sym (job_is m b bi cur.present eb).transport ∙ cur.transport

    from_current : Picking g (Ahead w y.rows) bi (passed_over w t b) past
    from_current =
        record {
          inside = row_inside m b bi eb;
          waits =
              (let (l, r) = m.job b cur.present in
              subst (λ n. 1 ≤ n) (r.waiting ∙ ap g.waiting (suc_inj (sym r.link ∙ eb))) (has_eligible_waits w b cur.eligible));
          same = λ i l h. past_lane i h ∙ sym lane_of;
          number = past_number;
          first = λ i l e h ne f. behind i l (e ∙ lane_of) h ne (not_past i l h (e ∙ lane_of) f);
        }
      where
        behind : (i : ℕ) → i < g.rows → g.transport i ≡ t → 1 ≤ g.waiting i → i ≢ bi → ((row_at y.rows i).job ≡ b) ⊎ Before b (row_at y.rows i).job (queue_of w t)
            → Ahead w y.rows bi i
        behind i l e h ne d =
            let q = present_row_is w y.rows i (waiting_row i l h e).0 in
            ⊎_elim (λ s. absurd (ne (suc_inj (sym q.1 ∙ ap (row_of y.rows) s ∙ eb)))) (λ s. (t, b, (row_at y.rows i).job, below, s, eb, q.1)) d

    sim_current : Sim u (pick_with w t b 0).state (tallied y (picking_decision (pick_with w t b 0).found)) (pick g bi (passed_over w t b) past)
    unfolding pick_with pick_from tallied with_pick preempted_rows
    sim_current =
        rw eb
        (sim_handed_out m shaped t b (next_place w b) (next_entry w b) bi (next_can w t b shaped sound cur.present cur.transport cur.eligible)
        cur.present eb (passed_over w t b) (pick_with w t b 0).found.past past (λ l. ap (λ jobs. past_at y.rows jobs l) (past_current w t b cur)) from_current)

  -- From a job that preempts it.

  module _ (now x bi xi : ℕ) (p : Preempts w now t b x) (eb : row_of y.rows b ≡ suc bi) (ex : row_of y.rows x ≡ suc xi) where
    abbrev k : ℕ
    k = waiting_of w x

    abbrev moved : State
    moved = preempting w t x b k

    abbrev rows : List Row
    rows = overtaken (suc bi) k (naming xi (suc bi) y.rows)

    abbrev between : Tally
    between = record { rows = rows; picks = y.picks; total = y.total }

    sim_between : Sim u moved between (preempt g xi bi k)
    sim_between = sim_preempting m shaped sound now t b x bi xi below cur p eb ex

    kept : Shaped moved × Sound moved
    kept = kept_preempting w now t b x shaped sound below cur p

    like : Alike y.rows rows
    like = preempted_alike xi (suc bi) k y.rows

    row_of_between : (z : ℕ) → row_of rows z ≡ row_of y.rows z
    row_of_between = same_row_of y.rows rows like.length (alike_jobs like)

    lane_mover : g.transport xi ≡ t
    lane_mover = sym (job_is m x xi p.present ex).transport ∙ p.transport

    few : t < max_transports
    few = lt_of_lt_of_le below sound.setup.transports.1

    gone_between : (l : ℕ) → past_at rows (pick_with w t b (suc x)).found.past l ≡ past l
    gone_between l =
        ap (λ jobs. past_at rows jobs l) (past_preemptor w t b cur now x shaped few p)
        ∙ count_in_same (λ j. eqb (row_of rows j) (suc l)) (λ j. eqb (row_of y.rows j) (suc l)) (passed_jobs w t b) (λ j h. ap (λ z. eqb z (suc l)) (row_of_between j))

    from_preemptor : Picking (preempt g xi bi k) (Ahead moved rows) xi (passed_over w t b) past
    from_preemptor =
        record {
          inside = row_inside m x xi ex;
          waits =
              (let (l, r) = m.job x p.present in
              subst (λ n. 1 ≤ n) (r.waiting ∙ ap g.waiting (suc_inj (sym r.link ∙ ex))) p.waits);
          same = λ i l h. past_lane i h ∙ sym lane_mover;
          number = past_number;
          first = λ i l e h ne f. behind i l (e ∙ lane_mover) h ne (not_past i l h (e ∙ lane_mover) f);
        }
      where
        apart : b ≢ x
        apart e = p.other (sym e)

        behind : (i : ℕ) → i < g.rows → g.transport i ≡ t → 1 ≤ g.waiting i → i ≢ xi → ((row_at y.rows i).job ≡ b) ⊎ Before b (row_at y.rows i).job (queue_of w t)
            → Ahead moved rows xi i
        behind i l e h ne d =
            let q = present_row_is w y.rows i (waiting_row i l h e).0 in
            let job : ℕ = (row_at y.rows i).job in
            let off : job ≢ x = λ s. ne (suc_inj (sym q.1 ∙ ap (row_of y.rows) s ∙ ex)) in (
              t,
              x,
              job,
              (unfold preempting in below),
              subst (Before x job) (sym (preempting_queue_own w t x b k shaped few))
                  (⊎_elim (λ s. subst (λ j. Before x j (move_before x b (queue_of w t))) (sym s) (before_move_target x b (queue_of w t) apart cur.inside))
                  (before_move_after x b (queue_of w t) job apart off) d),
              row_of_between x ∙ ex,
              row_of_between job ∙ q.1,
            )

    -- the transport that the pick counts for
    same_lane : (row_at rows xi).transport ≡ (row_at y.rows xi).transport
    same_lane = alike_transport like xi

    same_pick : (n : ℕ) (l : List Row) → with_pick_at between (suc xi) n l ≡ with_pick_at y (suc xi) n l
    unfolding with_pick_at
    same_pick n l = rw same_lane

    sim_preemptor : Sim u (pick_with w t b (suc x)).state (tallied y (picking_decision (pick_with w t b (suc x)).found)) (pick (preempt g xi bi k) xi (passed_over w t b) past)
    unfolding pick_with pick_from tallied with_pick preempted_rows
    sim_preemptor =
        rw (ex, eb)
        (unfold with_preemption in
        (subst
        (λ z. Sim u (handed_out moved t x (next_place moved x) (next_entry moved x)) z (pick (preempt g xi bi k) xi (passed_over w t b) past))
        (same_pick (passed_over w t b) (past_rows (pick_with w t b (suc x)).found.past rows))
        (sim_handed_out sim_between kept.0 t x (next_place moved x) (next_entry moved x) xi
        (next_can moved t x kept.0 kept.1 (unfold preempting in p.present) (unfold preempting in p.transport) (preempting_eligible w t x b k x ∙ p.eligible))
        (unfold preempting in p.present) (row_of_between x ∙ ex) (passed_over w t b) (pick_with w t b (suc x)).found.past past gone_between from_preemptor)))

-- A pick that finds an entry: the rules' state and the tally move with some columns.

pub sim_picking : {u : Setup} {w : State} {y : Tally} {g : Columns} → Sim u w y g → Shaped w → Sound w → (now : ℕ) → finds w ≡ true
    → (g' : Columns) × Sim u (picking w now).state (tallied y (picking_decision (picking w now).found)) g'
sim_picking {u} {w} {y} {g} m shaped sound now h =
    picking_cases (λ r. (g' : Columns) × Sim u r.state (tallied y (picking_decision r.found)) g') w now shaped sound h
    (λ t b et eb lane cur none.
    let (i, r) = m.job b cur.present in
    (pick g i (passed_over w t b) (past_at y.rows (passed_jobs w t b)), sim_current m shaped sound t b lane.below cur i r.link))
    (λ t b x et eb lane cur some p.
    let (i, r) = m.job b cur.present in
    let (l, q) = m.job x p.present in (
      pick (preempt g l i (waiting_of w x)) l (passed_over w t b) (past_at y.rows (passed_jobs w t b)),
      sim_preemptor m shaped sound t b lane.below cur now x i l p r.link q.link,
    ))
