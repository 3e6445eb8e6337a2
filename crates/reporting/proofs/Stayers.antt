-- Who stays after a report: in a sound state each present job has an entry, and has one still unless the report took it.
use Prim.Native.Nat.{ℕ, ◌+◌, ◌*◌, ◌<◌}
use mathlib.Core.Path.{◌≡◌, refl, sym, ◌∙◌, ap, subst}
use mathlib.Core.Bool.{Bool, true, false, not, ◌&&◌, ◌||◌}
use mathlib.Core.List.{List}
use native.Mathlib.Omega.{arith}
use lib.ListN.{set}
use lib.Seq.{get_or-set_other}
use lib.Dec.{eqb, ltb}
use borrow.Author.Tests.{not-true, ltb-true, ltb-false, eqb-true, eq-eqb}
use Rattle.laws.specs.Range.{any_to, count_to}
use Rattle.laws.proofs.All.{any_of, any_witness}
use Rattle.laws.proofs.Bools.{if_false, case_bool, true_not_false, false_of, not_is_true, and_both, and_left, and_right, and_right_false, or_left_false, or_right_false}
use Rattle.laws.proofs.Count.{count_zero_at, count_witness}
use Rattle.laws.proofs.Table.{get_or_table}
use Rattle.rules.specs.declared.State.{State}
use Rattle.rules.specs.Sizes.{max_destinations, max_jobs, max_entries}
use Rattle.rules.specs.State.{at, is_free, job_of, destination_of, used_of}
use Rattle.rules.specs.SoundFacts.{Sound}
use Rattle.rules.proofs.EntryTests.{busy_used, waiting_used}
use Rattle.rules.proofs.Soundness.{sound_facts}
use Rattle.counting.specs.Counting.{counts_to, Paired}
use Rattle.std.specs.Bool.{then_some}
use Rattle.std.specs.Option.{MatchOption}
use Rattle.reporting.proofs.Off.{off_at, Off}
use Rattle.leaving.specs.Leaving.{used_at, elsewhere, emptied, OthersStay}
use Rattle.rules.proofs.Accepted.{ReportAccepted}

module _ (s : State) (clock e ticket : ℕ) (lent : List ℕ) (can : ReportAccepted s clock e ticket lent) where
  facts : Sound s
  facts = sound_facts s can.whole

  pub destination_below : destination_of s e < max_destinations
  destination_below = omega (arith, (facts.entries e can.entry (busy_used s e can.busy)).destination, facts.setup.destinations)

  module _ {died : Bool} {n : ℕ} {list kind freed dropped list' : List ℕ}
      (put : Off died (destination_of s e) s.entries.kind s.entries.job s.entries.destination s.jobs.dropped list kind dropped list' n)
      (free : freed ≡ set kind e 0) where
    -- a used entry, not the one reported, that was not put off is used still
    used_still : (j i : ℕ) → i < max_entries → used_of s j i ≡ true → (i ≡ e → ⊥)
        → off_at s.entries.kind s.entries.destination died (destination_of s e) i ≡ false → used_at freed s.entries.job j i ≡ true
    unfolding used_of
    used_still j i l used other kept = rw same used
      where
        same : at freed i ≡ at s.entries.kind i
        same = ap (λ k. at k i) free ∙ get_or-set_other kind e i 0 0 other ∙ ap (λ k. at k i) put.kinds ∙ get_or_table _ max_entries i 0 l ∙ if_false 0 (at s.entries.kind i) kept

    -- an entry of job j that is used and not put off
    abbrev Kept : ℕ → Type 0
    Kept j = (i : ℕ) × (i < max_entries) × (used_of s j i ≡ true) × (i ≡ e → ⊥) × (off_at s.entries.kind s.entries.destination died (destination_of s e) i ≡ false)

    stay_where : (these : ℕ → Bool) → ((j : ℕ) → j < max_jobs → these j ≡ false → any_to (used_of s j) max_entries ≡ true → Kept j)
        → OthersStay these freed s.entries.job s.jobs.present
    stay_where these h j l f p =
        let w = h j l f (facts.used j l p) in
        any_of (used_at freed s.entries.job j) max_entries w.0 w.1 (used_still j w.0 w.1 w.2 w.3 w.4)

    -- an entry of another job is another entry
    other_entry : (j i : ℕ) → used_of s j i ≡ true → eqb j (job_of s e) ≡ false → i ≡ e → ⊥
    unfolding used_of
    other_entry j i used f q =
        true_not_false (eq-eqb j (job_of s e) (sym (eqb-true (job_of s i) j (and_right (not (is_free s i)) (eqb (job_of s i) j) used)) ∙ ap (job_of s) q)) f

    pub others_live : died ≡ false → OthersStay (λ j. eqb j (job_of s e)) freed s.entries.job s.jobs.present
    others_live lives = stay_where (λ j. eqb j (job_of s e)) λ j l f some.
        let w = any_witness (used_of s j) max_entries some in (w.0, w.1, w.2, other_entry j w.0 w.2 f, rw lives refl)

    module _ {pairs : List ℕ} (paired : Paired s.entries.kind s.entries.job s.entries.destination pairs) where
      -- the entries of job j that wait for x are counted in the table
      abbrev waiting_for : ℕ → ℕ → ℕ → Bool
      waiting_for j x i = eqb (at s.entries.kind i) 1 && eqb (32 * job_of s i + destination_of s i) (32 * j + x)

      counted : (j x : ℕ) → j < max_jobs → x < max_destinations → at pairs (32 * j + x) ≡ count_to (waiting_for j x) max_entries
      unfolding counts_to
      counted j x l m = paired.counts (32 * j + x) (omega (arith, l, m))

      -- it has none that waited for the destination
      kept_whole : (j : ℕ) → j < max_jobs → ltb 0 (at pairs (32 * j + destination_of s e)) || eqb j (job_of s e) ≡ false → any_to (used_of s j) max_entries ≡ true → Kept j
      unfolding used_of
      kept_whole j l f some =
          let none = ltb-false 0 (at pairs (32 * j + destination_of s e)) (or_left_false (ltb 0 (at pairs (32 * j + destination_of s e))) (eqb j (job_of s e)) f) in
          let zero' : count_to (waiting_for j (destination_of s e)) max_entries ≡ 0 = omega (arith, none, counted j (destination_of s e) l destination_below) in
          let w = any_witness (used_of s j) max_entries some in (
            w.0,
            w.1,
            w.2,
            other_entry j w.0 w.2 (or_right_false (ltb 0 (at pairs (32 * j + destination_of s e))) (eqb j (job_of s e)) f),
            false_of λ t.
                let own = eqb-true (job_of s w.0) j (and_right (not (is_free s w.0)) (eqb (job_of s w.0) j) w.2) in
                let to = eqb-true (destination_of s w.0) (destination_of s e) (and_right (died && eqb (at s.entries.kind w.0) 1) (eqb (destination_of s w.0) (destination_of s e)) t) in
                let waits = and_right died (eqb (at s.entries.kind w.0) 1) (and_left (died && eqb (at s.entries.kind w.0) 1) (eqb (destination_of s w.0) (destination_of s e)) t) in
                true_not_false (and_both waits (eq-eqb (32 * job_of s w.0 + destination_of s w.0) (32 * j + destination_of s e) (omega (arith, own, to))))
                (count_zero_at (waiting_for j (destination_of s e)) max_entries zero' w.0 w.1),
          )

      -- it has one that waits elsewhere
      kept_elsewhere : (j : ℕ) → j < max_jobs → any_to (elsewhere pairs (destination_of s e) j) 32 ≡ true → Kept j
      unfolding used_of
      kept_elsewhere j l t =
          let x = any_witness (elsewhere pairs (destination_of s e) j) 32 t in
          let some = ltb-true 0 (at pairs (32 * j + x.0)) (and_left (ltb 0 (at pairs (32 * j + x.0))) (not (eqb x.0 (destination_of s e))) x.2) in
          let far = not-true (eqb x.0 (destination_of s e)) (and_right (ltb 0 (at pairs (32 * j + x.0))) (not (eqb x.0 (destination_of s e))) x.2) in
          let w = count_witness (waiting_for j x.0) max_entries (subst (λ n. 0 < n) (counted j x.0 l x.1) some) in
          let waits = and_left (eqb (at s.entries.kind w.0) 1) (eqb (32 * job_of s w.0 + destination_of s w.0) (32 * j + x.0)) w.2 in
          let same = and_right (eqb (at s.entries.kind w.0) 1) (eqb (32 * job_of s w.0 + destination_of s w.0) (32 * j + x.0)) w.2 in
          let place = eqb-true (32 * job_of s w.0 + destination_of s w.0) (32 * j + x.0) same in
          let used = waiting_used s w.0 waits in
          let to : destination_of s w.0 < max_destinations = omega (arith, (facts.entries w.0 w.1 used).destination, facts.setup.destinations) in
          let own : job_of s w.0 ≡ j = omega (arith, place, to, x.1) in
          let goes : destination_of s w.0 ≡ x.0 = omega (arith, place, to, x.1) in (
            w.0,
            w.1,
            and_both (not_is_true used) (eq-eqb (job_of s w.0) j own),
            (λ q. busy_waits q waits),
            and_right_false (died && eqb (at s.entries.kind w.0) 1) (ap (λ d. eqb d (destination_of s e)) goes ∙ far),
          )
        where
          busy_waits : {i : ℕ} → i ≡ e → eqb (at s.entries.kind i) 1 ≡ true → ⊥
          busy_waits {i} q waits =
              let one' = eqb-true (at s.entries.kind i) 1 waits in
              let two = eqb-true (at s.entries.kind e) 2 can.busy in
              absurd (omega (arith, sym one' ∙ ap (λ z. at s.entries.kind z) q ∙ two))

      pub others_stay : OthersStay (emptied pairs (destination_of s e) (job_of s e)) freed s.entries.job s.jobs.present
      others_stay = stay_where (emptied pairs (destination_of s e) (job_of s e)) λ j l f some.
          case_bool (any_to (elsewhere pairs (destination_of s e) j) 32) (kept_elsewhere j l)
          (λ n. case_bool (ltb 0 (at pairs (32 * j + destination_of s e)) || eqb j (job_of s e))
          (λ t. true_not_false (and_both t (not_is_true n)) f)
          (λ g. kept_whole j l g some))

      -- by whether the destination died
      pub stay_asks : (died ≡ false → OthersStay (λ j. eqb j (job_of s e)) freed s.entries.job s.jobs.present) → (b : Bool) → b ≡ died
          → MatchOption (then_some b (destination_of s e)) (OthersStay (λ j. eqb j (job_of s e)) freed s.entries.job s.jobs.present)
          (λ d. (d < 32) × OthersStay (emptied pairs d (job_of s e)) freed s.entries.job s.jobs.present)
      stay_asks live true h = (destination_below, others_stay)
      stay_asks live false h = live (sym h)
