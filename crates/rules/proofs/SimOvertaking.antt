-- Overtaking sums through a preemption: the walk up the stored parents and the walk up the names grow the same ones, and the stop does not bite.
use Prim.Native.Nat.{ℕ, zero, suc, pred, ◌+◌, ◌≤◌, ◌<◌, min}
use mathlib.Core.Path.{◌≡◌, refl, sym, ◌∙◌, ap, subst}
use mathlib.Core.Bool.{Bool, true, false}
use native.Mathlib.Nat.{suc_inj, lt-suc_self, lt_trans, suc-ne-zero}
use native.Mathlib.Omega.{arith}
use lib.ListN.{length, length-set}
use lib.Seq.{get_or-set_same, get_or-set_other}
use Rattle.laws.specs.Bools.{when◌then◌else◌}
use Rattle.laws.specs.Chain.{along_chain}
use Rattle.laws.specs.Onto.{on_chain, near}
use Rattle.laws.proofs.Bools.{if_true}
use Rattle.laws.proofs.Update.{upd_same, upd_other}
use Rattle.laws.proofs.Chain.{along_enough, first_along_ok}
use Rattle.laws.proofs.Onto.{along_at, on_ok}
use Rattle.ceiling.specs.Columns.{Columns}
use Rattle.ceiling.specs.Steps.{Preempting, preempt, overtake}
use Rattle.ceiling.proofs.Overtaken.{over_preempt}
use Rattle.rules.specs.declared.Setup.{Setup}
use Rattle.rules.specs.declared.State.{State}
use Rattle.rules.specs.Sizes.{sum_limit}
use Rattle.rules.specs.State.{at, is_present, parent_of}
use Rattle.rules.specs.SoundFacts.{Sound}
use Rattle.rules.specs.Preemption.{preempting, charged, added_to}
use Rattle.rules.specs.Tally.{Tally, row_at, row_of}
use Rattle.rules.proofs.Shape.{Shaped, overtakers_length, present_below}
use Rattle.rules.proofs.KeptPreempting.{parent_present, chain_ends}
use Rattle.rules.proofs.Sim.{cost_in, present_row, job_link, JobIs, Sim}
use Rattle.rules.proofs.SimRows.{row_inside, present_row_is}
use Rattle.rules.proofs.SimChain.{up, up_present, parents_are_names}
use Rattle.rules.proofs.Preempted.{preempting_overtakers}

min_eq : {a b : ℕ} → a ≤ b → min a b ≡ a
min_eq h = omega arith

module _ {u : Setup} {w : State} {y : Tally} {g : Columns} (m : Sim u w y g) (shaped : Shaped w) (sound : Sound w) where
  job_n : (z : ℕ) → is_present w z ≡ true → at w.jobs.n z ≤ 256
  job_n z h = (sound.jobs z (present_below w shaped z h) h).n.1

  -- A stored parent lies deeper.

  job_depth : ℕ → ℕ
  job_depth z = g.depth (pred (row_of y.rows z))

  depth_is : (z i : ℕ) → row_of y.rows z ≡ suc i → job_depth z ≡ g.depth i
  unfolding job_depth
  depth_is z i e = ap (λ n. g.depth (pred n)) e

  -- the nearest present row lies deeper
  up_deeper : (l i : ℕ) → l < g.rows → up m l ≡ suc i → g.depth i < g.depth l
  unfolding near
  up_deeper l i b e =
      (first_along_ok (present_row w y.rows) g.names (λ z. (z < g.rows) × (g.depth z < g.depth l))
      (λ z v o q. ((m.inv.forest.named z v o.0 q).inside, lt_trans (falls z v o.0 q) o.1)) g.rows (g.names l)
      (λ z q. ((m.inv.forest.named l z b q).inside, falls l z b q)) i e).0.1
    where
      falls : (z v : ℕ) → z < g.rows → g.names z ≡ suc v → g.depth v < g.depth z
      falls z v l e = rw (m.inv.forest.named z v l e).deeper (lt-suc_self (g.depth v))

  parent_deeper : (z v : ℕ) → is_present w z ≡ true → parent_of w z ≡ suc v → job_depth v < job_depth z
  parent_deeper z v h e = let (l, r) = m.job z h in rw (depth_is z l r.link) (go l (row_inside m z l r.link) (up m l) refl (sym r.parent ∙ e))
    where
      led : (l i : ℕ) → l < g.rows → up m l ≡ suc i → job_link y.rows (suc i) ≡ suc v → job_depth v < g.depth l
      led l i b q f =
          let here = present_row_is w y.rows i (up_present m l i q) in
          let same : (row_at y.rows i).job ≡ v = unfold job_link in suc_inj f in
          rw (depth_is v i (ap (row_of y.rows) (sym same) ∙ here.1)) (up_deeper l i b q)

      go : (l : ℕ) → l < g.rows → (n : ℕ) → up m l ≡ n → job_link y.rows n ≡ suc v → job_depth v < g.depth l
      go l b zero q f = absurd (suc-ne-zero v (sym (unfold job_link in f)))
      go l b (suc i) q f = led l i b q f

  -- x, of which k entries wait, preempts b
  module _ (t x b k xi bi : ℕ) (here : is_present w b ≡ true) (eb : row_of y.rows b ≡ suc bi) (may : Preempting (cost_in u) g xi bi k)
      (kept : (i : ℕ) → i < g.rows → 2 ≤ cost_in u (g.transport i) → (preempt g xi bi k).over i ≤ g.n i) where
    abbrev g' : Columns
    g' = preempt g xi bi k

    -- The walk up the stored parents.

    -- it goes as far as the chain
    whole_walk : charged (parent_of w) b k w.jobs.overtakers ≡ along_chain (parent_of w) (added_to k) 32 (suc b) w.jobs.overtakers
    unfolding charged
    whole_walk = along_enough (parent_of w) (added_to k) 32 _ (suc b) w.jobs.overtakers (omega arith) (chain_ends w shaped sound b here)

    state_walk : (z : ℕ) → at (along_chain (parent_of w) (added_to k) 32 (suc b) w.jobs.overtakers) z
        ≡ (when on_chain (parent_of w) 32 (suc b) z then min (at w.jobs.overtakers z + k) sum_limit else at w.jobs.overtakers z)
    unfolding added_to
    state_walk z =
        along_at (parent_of w) job_depth (added_to k) at (λ v. min (v + k) sum_limit) (λ z. is_present w z ≡ true) (λ l. length l ≡ 32)
        (λ z v h e. parent_present w shaped sound z v h e) parent_deeper (λ z l h e. length-set l z _ ∙ e)
        (λ z l h e. get_or-set_same l z _ 0 (subst (λ n. z < n) (sym e) (present_below w shaped z h))) (λ z v l h e ne. get_or-set_other l z v _ 0 ne) 32 (suc b)
        w.jobs.overtakers (λ z q. subst (λ z. is_present w z ≡ true) (suc_inj q) here) (overtakers_length shaped.jobs) z

    -- The walk up the names.

    column_walk : (i : ℕ) → g'.over i ≡ (when on_chain g.names g.rows (suc bi) i then g.over i + k else g.over i)
    column_walk i =
        ap (λ f. f i) (over_preempt m.inv.forest m.inv.overtaken may)
        ∙ along_at g.names g.depth (overtake k) (λ f i. f i) (λ v. v + k) (λ i. i < g.rows) (λ f. Unit {0})
        (λ i z l e. (m.inv.forest.named i z l e).inside) (λ i z l e. rw (m.inv.forest.named i z l e).deeper (lt-suc_self (g.depth z))) (λ i f l o. tt)
        (λ i f l o. upd_same f i (f i + k)) (λ i j f l o ne. upd_other f i (f i + k) j ne) g.rows (suc bi) g.over
        (λ z e. subst (λ n. n < g.rows) (suc_inj e) (row_inside m b bi eb)) tt i

    -- on that chain the sums stay small
    few_over : (i : ℕ) → i < g.rows → on_chain g.names g.rows (suc bi) i ≡ true → {n : ℕ} → n ≡ g.n i → n ≤ 256 → g.over i + k ≤ sum_limit
    few_over i l on {n} e h =
        let dear =
        on_ok g.names (λ i. (i < g.rows) × (2 ≤ cost_in u (g.transport i)))
        (λ i z o q. ((m.inv.forest.named i z o.0 q).inside, (m.inv.forest.named i z o.0 q).dear)) g.rows (suc bi)
        (λ z q. subst (λ z. (z < g.rows) × (2 ≤ cost_in u (g.transport z))) (suc_inj q) (row_inside m b bi eb, may.dear)) i on in
        let small : g'.over i ≤ g.n i = kept i l dear.1 in
        let grown : g'.over i ≡ g.over i + k = column_walk i ∙ if_true (g.over i + k) (g.over i) on in
        omega arith

    -- Both walks.

    pub over_after : (z i : ℕ) → is_present w z ≡ true → JobIs w y.rows g z i → at (preempting w t x b k).jobs.overtakers z ≡ g'.over i
    over_after z i h r =
        ap (λ l. at l z) (preempting_overtakers w t x b k ∙ whole_walk)
        ∙ state_walk z ∙ both (on_chain (parent_of w) 32 (suc b) z) (on_chain g.names g.rows (suc bi) i)
        (parents_are_names m 32 b bi z i (chain_ends w shaped sound b here) here eb h r.link) r.over (λ on. few_over i (row_inside m z i r.link) on r.n (job_n z h))
        ∙ sym (column_walk i)
      where
        both : (on on' : Bool) {v v' : ℕ} → on ≡ on' → v ≡ v' → (on' ≡ true → v' + k ≤ sum_limit)
            → (when on then min (v + k) sum_limit else v) ≡ (when on' then v' + k else v')
        both on true e q f = rw e (rw q (unfold when◌then◌else◌ in min_eq (f refl)))
        both on false e q f = rw e (unfold when◌then◌else◌ in q)
