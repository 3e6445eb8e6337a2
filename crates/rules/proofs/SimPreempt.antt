-- The simulation through a preemption.
use Prim.Native.Nat.{ℕ, zero, suc, ◌+◌, ◌*◌, ◌≤◌, ◌<◌}
use mathlib.Core.Path.{◌≡◌, refl, sym, ◌∙◌, ap, subst}
use mathlib.Core.Logic.{◌≢◌, ◌⊎◌, inl, inr, ⊎_elim}
use mathlib.Core.Bool.{true, false}
use mathlib.Core.List.{List}
use native.Mathlib.Decide.{ℕ_discrete}
use native.Mathlib.Nat.{suc_inj, lt_of_lt_of_le, not-suc-le-zero}
use lib.ListN.{length}
use Rattle.laws.specs.Chain.{first_along}
use Rattle.laws.specs.Onto.{near}
use Rattle.laws.specs.Order.{Before}
use Rattle.laws.specs.Sequence.{move_before}
use Rattle.laws.specs.Update.{upd}
use Rattle.laws.proofs.Bools.{true_not_false}
use Rattle.laws.proofs.Update.{upd_same, upd_other, upd_all, upd_agree_at}
use Rattle.laws.proofs.Chain.{first_along_here, first_along_same}
use Rattle.laws.proofs.Onto.{near_same}
use Rattle.laws.proofs.Once.{once_le}
use Rattle.laws.proofs.Order.{before_trans}
use Rattle.laws.proofs.MoveOrder.{before_move_from, before_move_after_cases, before_move_ahead_from}
use Rattle.ceiling.specs.Columns.{Columns, sold}
use Rattle.ceiling.specs.Steps.{Preempting, preempt}
use Rattle.ceiling.proofs.Forest.{sold_preempt_own, sold_preempt_other, unpicked_unnamed}
use Rattle.ceiling.proofs.Ceilings.{over_within}
use Rattle.ceiling.proofs.Invariant.{inv_preempt}
use Rattle.rules.specs.declared.Setup.{Setup}
use Rattle.rules.specs.declared.State.{State}
use Rattle.rules.specs.State.{at, settings_of, queue_of, is_present, has_preempted, waiting_of, parent_of}
use Rattle.rules.specs.SoundFacts.{Sound}
use Rattle.rules.specs.Preemption.{preempting}
use Rattle.rules.specs.Tally.{Row, Tally, row_at, row_of, naming, overtaken}
use Rattle.rules.proofs.Shape.{Shaped}
use Rattle.rules.proofs.Picked.{Current}
use Rattle.rules.proofs.Preemptor.{Preempts}
use Rattle.rules.proofs.Sim.{cost_in, present_row, job_link, Ahead, RowIs, JobIs, Sim}
use Rattle.rules.proofs.SimRows.{job_is, row_inside, rows_apart, present_of, same_row_of, same_link, same_present}
use Rattle.rules.proofs.SimChain.{link_to_job}
use Rattle.rules.proofs.SimTally.{Alike, alike_jobs, naming_alike, naming_overtakers, naming_names, overtaken_names, preempted_alike, overtaken_column}
use Rattle.rules.proofs.SimOvertaking.{over_after}
use Rattle.rules.proofs.Preempted.{preempting_waits, preempting_queue_own, preempting_queue_other, preempting_sold_own, preempting_sold_other}
use Rattle.rules.proofs.Preempted.{preempting_parent_own, preempting_parent_other, preempting_marked_own, preempting_marked_other}
use Rattle.rules.proofs.ListFacts.{queue_once}

module _ {u : Setup} {w : State} {y : Tally} {g : Columns} (m : Sim u w y g) (shaped : Shaped w) (sound : Sound w) (now t b x bi xi : ℕ)
    (below : t < w.setup.transports) (cur : Current w t b) (p : Preempts w now t b x) (eb : row_of y.rows b ≡ suc bi)
    (ex : row_of y.rows x ≡ suc xi) where
  abbrev k : ℕ
  k = waiting_of w x

  abbrev after : State
  after = preempting w t x b k

  -- the rows after it
  abbrev named : List Row
  named = naming xi (suc bi) y.rows

  abbrev rows : List Row
  rows = overtaken (suc bi) k named

  abbrev g' : Columns
  g' = preempt g xi bi k

  -- what the simulation says of both jobs

  abbrev job_b : JobIs w y.rows g b bi
  job_b = job_is m b bi cur.present eb

  abbrev job_x : JobIs w y.rows g x xi
  job_x = job_is m x xi p.present ex

  lane : g.transport bi ≡ t
  lane = sym job_b.transport ∙ cur.transport

  cost_is : cost_in u (g.transport bi) ≡ (settings_of w t).cost
  cost_is = ap (cost_in u) lane ∙ ap (λ v. cost_in v t) (sym m.setup)

  may : Preempting (cost_in u) g xi bi k
  may =
      record {
        inside = row_inside m x xi ex;
        other = row_inside m b bi eb;
        same = sym job_x.transport ∙ p.transport ∙ sym lane;
        dear = subst (λ c. 2 ≤ c) (sym cost_is) p.cost;
        unpicked = sym job_x.picked ∙ p.unpicked;
        unnaming = job_x.unmarked p.unmarked;
        waits = sym job_x.waiting;
        used = subst (λ n. 1 ≤ n) job_b.picked p.picked;
        pays = pays_as cost_is job_b.sold job_b.picked job_b.waiting p.pays;
      }
    where
      pays_as : {c d q r s i v z : ℕ} → c ≡ d → q ≡ r → s ≡ i → v ≡ z → d * (q + k) ≤ s + v → c * (r + k) ≤ i + z
      pays_as e1 e2 e3 e4 h = rw (e1, ← e2, ← e3, ← e4) h

  -- the rows

  like : Alike y.rows rows
  like = preempted_alike xi (suc bi) k y.rows

  abbrev inside : bi < g.rows
  inside = row_inside m b bi eb

  names_after : (i : ℕ) → i < g.rows → (row_at named i).names ≡ upd g.names xi (suc bi) i
  names_after i l =
      naming_names y.rows xi (suc bi) (subst (λ n. xi < n) (sym m.rows) (row_inside m x xi ex)) i
      ∙ upd_agree_at (λ i. (row_at y.rows i).names) g.names xi (suc bi) i (m.row i l).names

  -- the names stay inside
  closed : (i z : ℕ) → i < g.rows → upd g.names xi (suc bi) i ≡ suc z → z < g.rows
  closed i z l =
      upd_all (λ i v. i < g.rows → v ≡ suc z → z < g.rows) g.names xi (suc bi) (λ b e. subst (λ n. n < g.rows) (suc_inj e) inside)
      (λ i ne b e. (m.inv.forest.named i z b e).inside) i l

  row_after : (i : ℕ) → i < g.rows → RowIs g' i (row_at rows i)
  row_after i l =
      let r = m.row i l in
      record {
        transport = ap (λ r. r.transport) (like.rest i) ∙ r.transport;
        n = ap (λ r. r.n) (like.rest i) ∙ r.n;
        upto = ap (λ r. r.upto) (like.rest i) ∙ r.upto;
        overtakers =
            overtaken_column (upd g.names xi (suc bi)) (suc bi) k g.rows named g.over ((naming_alike y.rows xi (suc bi)).length ∙ m.rows)
            (λ i l. naming_overtakers y.rows xi (suc bi) i ∙ (m.row i l).overtakers) names_after closed (λ z e. subst (λ n. n < g.rows) (suc_inj e) inside) i l;
        names = overtaken_names (suc bi) k named i ∙ names_after i l;
        past = ap (λ r. r.past) (like.rest i) ∙ r.past;
        lastpick = ap (λ r. r.lastpick) (like.rest i) ∙ r.lastpick;
        lasttotal = ap (λ r. r.lasttotal) (like.rest i) ∙ r.lasttotal;
        lastpast = ap (λ r. r.lastpast) (like.rest i) ∙ r.lastpast;
      }

  same_length : length rows ≡ length y.rows
  same_length = like.length

  same_jobs : (i : ℕ) → (row_at rows i).job ≡ (row_at y.rows i).job
  same_jobs = alike_jobs like

  row_of_after : (z : ℕ) → row_of rows z ≡ row_of y.rows z
  row_of_after = same_row_of y.rows rows same_length same_jobs

  present_after : (i : ℕ) → present_row after rows i ≡ present_row w y.rows i
  unfolding preempting
  present_after = same_present y.rows rows same_length same_jobs w after (λ j. refl)

  link_after : (n : ℕ) → job_link rows n ≡ job_link y.rows n
  link_after = same_link y.rows rows same_length same_jobs

  -- the order

  ahead_before : (a c : ℕ) → Ahead after rows a c → Ahead w y.rows a c ⊎ ((a ≡ xi) × ((c ≡ bi) ⊎ Ahead w y.rows bi c))
  ahead_before a c (v, i, j, l, q, e1, e2) =
      elim (ℕ_discrete v t) [
        | yes e ↦ on_lane i j (subst (λ v. Before i j (queue_of after v)) e q) (sym (row_of_after i) ∙ e1) (sym (row_of_after j) ∙ e2)
        | no ne ↦
            inl (
              v,
              i,
              j,
              unfold preempting in l,
              subst (Before i j) (preempting_queue_other w t x b k shaped v ne) q,
              sym (row_of_after i) ∙ e1,
              sym (row_of_after j) ∙ e2,
            )
      ]
    where
      few : t < 4
      few = lt_of_lt_of_le below sound.setup.transports.1

      on_lane : (i j : ℕ) → Before i j (queue_of after t) → row_of y.rows i ≡ suc a → row_of y.rows j ≡ suc c
          → Ahead w y.rows a c ⊎ ((a ≡ xi) × ((c ≡ bi) ⊎ Ahead w y.rows bi c))
      on_lane i j q e1 e2 =
          let moved : Before i j (move_before x b (queue_of w t)) = subst (Before i j) (preempting_queue_own w t x b k shaped few) q in
          elim (ℕ_discrete i x) [
            | yes e ↦
                inr (
                  suc_inj (sym e1 ∙ ap (row_of y.rows) e ∙ ex),
                  ⊎_elim (λ f. inl (suc_inj (sym e2 ∙ ap (row_of y.rows) f ∙ eb))) (λ f. inr (t, b, j, below, f, eb, e2))
                      (before_move_after_cases x b (queue_of w t) j (subst (λ i. Before i j (move_before x b (queue_of w t))) e moved)),
                )
            | no ne ↦
                elim (ℕ_discrete j x) [
                  | yes e ↦
                      inl (
                        t,
                        i,
                        j,
                        below,
                        subst (λ j. Before i j (queue_of w t)) (sym e)
                            (before_trans i b x (queue_of w t) (once_le (queue_once w t sound below) b)
                            (before_move_ahead_from x b (queue_of w t) i ne (subst (λ j. Before i j (move_before x b (queue_of w t))) e moved)) p.behind),
                        e1,
                        e2,
                      )
                  | no nj ↦ inl (t, i, j, below, before_move_from x b (queue_of w t) i j ne nj moved, e1, e2)
                ]
          ]

  -- the jobs

  sold_after : (z i : ℕ) → JobIs w y.rows g z i → at after.jobs.sold z ≡ sold g' i
  sold_after z i r =
      elim (ℕ_discrete z b) [
        | yes e ↦
            let q : i ≡ bi = suc_inj (sym r.link ∙ ap (row_of y.rows) e ∙ eb) in
            ap (at after.jobs.sold) e ∙ preempting_sold_own w t x b k shaped cur.below ∙ ap (λ n. n + k) job_b.sold
            ∙ sym (ap (sold g') q ∙ sold_preempt_own m.inv.forest may)
        | no ne ↦
            preempting_sold_other w t x b k shaped z ne ∙ r.sold
            ∙ sym (sold_preempt_other m.inv.forest may i (rows_apart y.rows z b i bi r.link eb ne))
      ]

  -- a chain that x's row is not on stays
  up_other : (i : ℕ) → i < g.rows → i ≢ xi → near (present_row after rows) g'.names g.rows i ≡ near (present_row w y.rows) g.names g.rows i
  unfolding near
  up_other i l ne =
      near_same (present_row after rows) (present_row w y.rows) g'.names g.rows i present_after
      ∙ first_along_same g'.names g.names (λ z. (z < g.rows) × (z ≢ xi)) away (λ z o. upd_other g.names xi (suc bi) z o.1)
      (present_row w y.rows) g.rows (g'.names i) (λ z e. away i z (l, ne) e)
      ∙ ap (first_along (present_row w y.rows) g.names g.rows) (upd_other g.names xi (suc bi) i ne)
    where
      away : (i z : ℕ) → (i < g.rows) × (i ≢ xi) → g'.names i ≡ suc z → (z < g.rows) × (z ≢ xi)
      away i z (l, ne) e =
          let q : g.names i ≡ suc z = sym (upd_other g.names xi (suc bi) i ne) ∙ e in (
            (m.inv.forest.named i z l q).inside,
            λ f. unpicked_unnamed m.inv.forest xi may.unpicked i l (q ∙ ap suc f),
          )

  up_x : near (present_row after rows) g'.names g.rows xi ≡ suc bi
  unfolding near
  up_x = ap (first_along (present_row after rows) g'.names g.rows) (upd_same g.names xi (suc bi)) ∙ found g.rows inside
    where
      found : (n : ℕ) → bi < n → first_along (present_row after rows) g'.names n (suc bi) ≡ suc bi
      found zero l = absurd (not-suc-le-zero l)
      found (suc n) l =
          first_along_here (present_row after rows) g'.names n bi (present_after bi ∙ present_of w y.rows b bi cur.present eb)

  parent_after_lem : (z i : ℕ) → is_present w z ≡ true → JobIs w y.rows g z i
      → parent_of after z ≡ job_link rows (near (present_row after rows) g'.names g.rows i)
  parent_after_lem z i h r =
      elim (ℕ_discrete z x) [
        | yes e ↦ own_parent e (suc_inj (sym r.link ∙ ap (row_of y.rows) e ∙ ex))
        | no ne ↦
            preempting_parent_other w t x b k shaped z ne ∙ r.parent
            ∙ sym
            (link_after (near (present_row after rows) g'.names g.rows i)
            ∙ ap (job_link y.rows) (up_other i (row_inside m z i r.link) (rows_apart y.rows z x i xi r.link ex ne)))
      ]
    where
      own_parent : z ≡ x → i ≡ xi → parent_of after z ≡ job_link rows (near (present_row after rows) g'.names g.rows i)
      own_parent e q =
          ap (parent_of after) e ∙ preempting_parent_own w t x b k shaped p.below
          ∙ sym (ap (λ i. job_link rows (near (present_row after rows) g'.names g.rows i)) q ∙ ap (job_link rows) up_x ∙ link_to_job rows b bi (row_of_after b ∙ eb))

  unmarked_after : (z i : ℕ) → JobIs w y.rows g z i → has_preempted after z ≡ false → g'.names i ≡ 0
  unmarked_after z i r f =
      elim (ℕ_discrete z x) [
        | yes e ↦ true_not_false (ap (has_preempted after) e ∙ preempting_marked_own w t x b k shaped p.below) f
        | no ne ↦
            upd_other g.names xi (suc bi) i (rows_apart y.rows z x i xi r.link ex ne)
            ∙ r.unmarked (sym (preempting_marked_other w t x b k shaped z ne) ∙ f)
      ]

  jobs_after : (z : ℕ) → is_present after z ≡ true → (i : ℕ) × JobIs after rows g' z i
  unfolding preempting
  jobs_after z h =
      let (i, r) = m.job z h in (
        i,
        record {
          link = row_of_after z ∙ r.link;
          transport = r.transport;
          picked = r.picked;
          waiting = preempting_waits w t x b k z ∙ r.waiting;
          n = r.n;
          sold = sold_after z i r;
          over = over_after m shaped sound t x b k xi bi cur.present eb may (over_within (inv_preempt m.inv may ahead_before)) z i h r;
          unmarked = unmarked_after z i r;
          parent = parent_after_lem z i h r;
        },
      )

  pub sim_preempting : Sim u (preempting w t x b k) (record { rows = overtaken (suc bi) k (naming xi (suc bi) y.rows); picks = y.picks; total = y.total })
      (preempt g xi bi k)
  sim_preempting =
      record {
        setup = unfold preempting in m.setup;
        rows = same_length ∙ m.rows;
        row = row_after;
        picks = m.picks;
        total = m.total;
        job = jobs_after;
        gone = λ i l f. m.gone i l (sym (present_after i) ∙ f);
        inv = inv_preempt m.inv may ahead_before;
      }
