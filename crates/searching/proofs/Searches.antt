-- The walk of the search along the list of arrivals: what it knows before a rank, and what it answers at its end.
use Prim.Native.Nat.{ℕ, zero, suc, ◌+◌, ◌-◌, ◌*◌, ◌/◌, ◌≤◌, ◌<◌}
use mathlib.Core.Bool.{Bool, true, false, ◌&&◌}
use mathlib.Core.Path.{◌≡◌, refl, sym, ◌∙◌, ap}
use mathlib.Core.List.{List}
use native.Mathlib.Omega.{arith}
use lib.Dec.{eqb, ltb, leb}
use lib.ListN.{length, get_or}
use lib.Seq.{get_or-take, length-take-le}
use borrow.Author.Tests.{eq-eqb, ne_eqb}
use Rattle.laws.specs.Bools.{when◌then◌else◌}
use Rattle.laws.specs.Range.{count_to, fold_to}
use Rattle.laws.specs.Sequence.{never_falling}
use Rattle.laws.proofs.Bools.{if_true, if_false, and_both, and_left_false, and_right_false}
use Rattle.laws.proofs.All.{below_suc}
use Rattle.laws.proofs.Count.{count_hit, count_miss}
use Rattle.laws.proofs.First.{first_unique, first_none}
use Rattle.laws.proofs.Table.{fold_step}
use Rattle.rules.specs.declared.Jobs.{Jobs}
use Rattle.rules.specs.declared.JobList.{JobList}
use Rattle.rules.specs.declared.State.{State}
use Rattle.rules.specs.State.{at, settings_of, list_of, arrived_at, waiting_of}
use Rattle.rules.specs.Preemption.{owned, credit_of, better, best_before, best_candidate, not_above, arrived_on, stops_at, search_end, looked_at}
use Rattle.rules.proofs.ShorterSearch.{same_best}
use Rattle.eligibility.specs.Eligibility.{Reads}
use Rattle.searching.proofs.Scores.{Score, able_at, no_candidate, candidate_is, not_above_is, better_is}

-- the state that the columns are of, and what most is
pub record Matches (s : State) (jobs : Jobs) (arrivals : JobList) (waits : List ℕ) (ready : List Bool) (t y most : ℕ) : Type 0 where
  pub jobs' : s.jobs ≡ jobs
  pub arrivals' : s.arrivals ≡ arrivals
  pub reads : Reads s waits ready
  pub most' : most ≡ (waiting_of s y + owned (credit_of s t y)) / (settings_of s t).cost

-- the search stopped at none before rank i
pub record Walked (s : State) (time t y link looked i : ℕ) : Type 0 where
  pub best : link ≡ best_before s time t y i
  pub count : looked ≡ count_to (arrived_on s t) i
  pub onward : (j : ℕ) → j < i → stops_at s time t y j ≡ false

-- what the search answers
abbrev pub Answers : State → ℕ → ℕ → ℕ → ℕ → ℕ → Type 0
Answers s time t y link looked = (link ≡ best_candidate s time t y) × (looked ≡ looked_at s time t y)

pub record SearchedTo (jobs : Jobs) (arrivals : JobList) (waits : List ℕ) (ready : List Bool) (time t y most link than of looked i : ℕ) : Type 0 where
  pub bound : i ≤ arrivals.count
  pub score : Score jobs.arrival waits time link than of
  pub few : looked ≤ i
  pub walked : (s : State) → Matches s jobs arrivals waits ready t y most → Walked s time t y link looked i

pub search_begins : (jobs : Jobs) (arrivals : JobList) (waits : List ℕ) (ready : List Bool) (time t y most : ℕ) → SearchedTo jobs arrivals waits ready time t y most 0 0 1 0 0
unfolding best_before fold_to count_to
search_begins jobs arrivals waits ready time t y most =
    record {
      bound = omega arith;
      score = record { old = omega arith; small = omega arith; none = λ e. (refl, refl); some = λ b e. absurd (omega arith) };
      few = omega arith;
      walked = λ s m. record { best = refl; count = refl; onward = λ j l. absurd (omega arith) };
    }

module _ {jobs : Jobs} {arrivals : JobList} {waits : List ℕ} {ready : List Bool} {time t y most link than of looked i : ℕ}
    (r : SearchedTo jobs arrivals waits ready time t y most link than of looked i)
  where
    pub link_below : link ≤ 32
    link_below = go link refl
      where
        go : (k : ℕ) → link ≡ k → k ≤ 32
        go zero e = omega arith
        go (suc b) e = omega (arith, (r.score.some b e).0)

    pub search_is : (link' than' of' looked' : ℕ) → link' ≡ link → than' ≡ than → of' ≡ of → looked' ≡ looked
        → SearchedTo jobs arrivals waits ready time t y most link' than' of' looked' i
    search_is link' than' of' looked' a b c d = rw (a, b, c, d) r

    ranks : (s : State) → Matches s jobs arrivals waits ready t y most → arrivals.count ≤ 32 → length arrivals.jobs ≡ 32 → length (list_of s.arrivals) ≡ arrivals.count
    ranks s m l len = rw m.arrivals' (length-take-le arrivals.count arrivals.jobs (omega arith))

    -- after the last rank
    pub search_done : i ≡ arrivals.count → arrivals.count ≤ 32 → length arrivals.jobs ≡ 32 → (s : State) → Matches s jobs arrivals waits ready t y most
        → Answers s time t y link looked
    unfolding best_candidate search_end looked_at
    search_done e l len s m =
        let w = r.walked s m in
        let n : i ≡ length (list_of s.arrivals) = e ∙ sym (ranks s m l len) in
        let none = first_none (stops_at s time t y) (length (list_of s.arrivals)) (λ j k. w.onward j (omega (arith, n))) in
        (w.best ∙ ap (best_before s time t y) n, w.count ∙ ap (count_to (arrived_on s t)) (n ∙ sym none))

    module _ (l : i < arrivals.count) (x : ℕ) (here : x ≡ at arrivals.jobs i) (below : x < 32) where
      place : (s : State) → Matches s jobs arrivals waits ready t y most → arrived_at s i ≡ x
      place s m = rw m.arrivals' (get_or-take arrivals.count arrivals.jobs i 0 l ∙ sym here)

      lane_read : (s : State) → Matches s jobs arrivals waits ready t y most → eqb (at s.jobs.transport x) t ≡ eqb (at jobs.transport x) t
      lane_read s m = ap (λ g. eqb (at g.transport x) t) m.jobs'

      on_read : (s : State) → Matches s jobs arrivals waits ready t y most → arrived_on s t i ≡ eqb (at jobs.transport x) t
      on_read s m = ap (λ j. eqb (at s.jobs.transport j) t) (place s m) ∙ lane_read s m

      best_next : (s : State) → Matches s jobs arrivals waits ready t y most → best_before s time t y (i + 1) ≡ better s time t y link x
      unfolding best_before
      best_next s m =
          fold_step (λ rank b. better s time t y b (arrived_at s rank)) 0 i
          ∙ ap (λ b. better s time t y b (arrived_at s i)) (sym (r.walked s m).best)
          ∙ ap (better s time t y link) (place s m)

      -- the search goes on past rank i
      past : (s : State) → Matches s jobs arrivals waits ready t y most → stops_at s time t y i ≡ false → (j : ℕ) → j < i + 1 → stops_at s time t y j ≡ false
      past s m f j k = below_suc (λ j. stops_at s time t y j ≡ false) i (r.walked s m).onward f j (omega arith)

      -- a job of another transport is passed by
      pub passed_by : (at jobs.transport x ≡ t → ⊥) → SearchedTo jobs arrivals waits ready time t y most link than of looked (i + 1)
      passed_by ne =
          let off : eqb (at jobs.transport x) t ≡ false = ne_eqb (at jobs.transport x) t ne in
          record {
            bound = omega arith;
            score = r.score;
            few = omega (arith, r.few);
            walked = λ s m.
                let w = r.walked s m in
                record {
                  best = sym (best_next s m ∙ same_link s m off);
                  count = w.count ∙ sym (count_miss (arrived_on s t) i (on_read s m ∙ off));
                  onward = past s m (and_left_false (not_above s time (best_before s time t y i) (arrived_at s i)) (on_read s m ∙ off));
                };
          }
        where
          same_link : (s : State) → Matches s jobs arrivals waits ready t y most → eqb (at jobs.transport x) t ≡ false → better s time t y link x ≡ link
          same_link s m off =
              let no = no_candidate s jobs waits ready m.jobs' m.reads t y x (omega arith) (lane_read s m ∙ off) in
              better_is s jobs waits ready m.jobs' m.reads t y x (omega arith) time link than of (time - at jobs.arrival x + 1) r.score refl _ refl
              ∙ if_false (suc x) link (and_left_false _ no)

      module _ (on : at jobs.transport x ≡ t) (age : ℕ) (is-age : age ≡ time - at jobs.arrival x + 1) where
        lane : (s : State) → Matches s jobs arrivals waits ready t y most → arrived_on s t i ≡ true
        lane s m = on_read s m ∙ eq-eqb (at jobs.transport x) t on

        stop_read : (s : State) → Matches s jobs arrivals waits ready t y most → not_above s time (best_before s time t y i) (arrived_at s i) ≡ leb (age * of) than
        stop_read s m =
            ap (λ b. not_above s time b (arrived_at s i)) (sym (r.walked s m).best)
            ∙ ap (not_above s time link) (place s m)
            ∙ sym (not_above_is s jobs waits ready m.jobs' m.reads t y x (omega arith) time link than of age r.score is-age)

        -- the search stops
        pub search_stops : leb (age * of) than ≡ true → arrivals.count ≤ 32 → length arrivals.jobs ≡ 32 → never_falling (at jobs.arrival) (list_of arrivals) ≡ true
            → (s : State) → Matches s jobs arrivals waits ready t y most → Answers s time t y link looked
        unfolding search_end looked_at
        search_stops h few len rising s m =
            let w = r.walked s m in
            let n = ranks s m few len in
            let end = first_unique (stops_at s time t y) (length (list_of s.arrivals)) i (omega (arith, n)) (and_both (lane s m) (stop_read s m ∙ h)) w.onward in
            let falls : never_falling (at s.jobs.arrival) (list_of s.arrivals) ≡ true = rw (m.jobs', m.arrivals') rising in (
              w.best ∙ ap (best_before s time t y) (sym end) ∙ (same_best s time t y falls).same,
              w.count ∙ ap (count_to (arrived_on s t)) (sym end),
            )

        module _ (goes : leb (age * of) than ≡ false) (ahead : Bool) (is-ahead : ahead ≡ ltb (than * at waits x) (age * of)) where
          next : (s : State) → Matches s jobs arrivals waits ready t y most
              → best_before s time t y (i + 1) ≡ (when (able_at jobs waits y most x && ahead) && get_or ready x false then suc x else link)
          next s m =
              best_next s m
              ∙ better_is s jobs waits ready m.jobs' m.reads t y x (omega arith) time link than of age r.score is-age ahead is-ahead
              ∙ ap (λ b. when b then suc x else link)
              (sym (candidate_is s jobs waits ready m.jobs' m.reads t y x (omega arith) most ahead (lane_read s m ∙ eq-eqb (at jobs.transport x) t on) m.most'))

          -- x, looked at, and the best after it
          looked_at_lem : (link' : ℕ) → ((s : State) → Matches s jobs arrivals waits ready t y most → link' ≡ best_before s time t y (i + 1)) → (s : State) → Matches s jobs arrivals waits ready t y most
              → Walked s time t y link' (looked + 1) (i + 1)
          looked_at_lem link' best s m =
              record {
                best = best s m;
                count = ap (λ k. k + 1) (r.walked s m).count ∙ sym (count_hit (arrived_on s t) i (lane s m));
                onward = past s m (and_right_false (arrived_on s t i) (stop_read s m ∙ goes));
              }

          -- x leaves the best as it is, or leads
          pub search_keeps : (able_at jobs waits y most x && ahead) && get_or ready x false ≡ false → SearchedTo jobs arrivals waits ready time t y most link than of (looked + 1) (i + 1)
          search_keeps h =
              record {
                bound = omega arith;
                score = r.score;
                few = omega (arith, r.few);
                walked = looked_at_lem link (λ s m. sym (next s m ∙ if_false (suc x) link h));
              }

          pub search_leads : (able_at jobs waits y most x && ahead) && get_or ready x false ≡ true → (m : ℕ) → m ≡ at waits x → m < 65536 → age ≤ 4294967296
              → SearchedTo jobs arrivals waits ready time t y most (suc x) age m (looked + 1) (i + 1)
          search_leads h m is_m small old =
              record {
                bound = omega arith;
                score =
                    record {
                      old = old;
                      small = small;
                      none = λ e. absurd (omega arith);
                      some = λ b e. let q : x ≡ b = omega (arith, e) in (omega arith, is-age ∙ ap (λ z. time - at jobs.arrival z + 1) q, is_m ∙ ap (at waits) q);
                    };
                few = omega (arith, r.few);
                walked = looked_at_lem (suc x) (λ s m. sym (next s m ∙ if_true (suc x) link h));
              }
