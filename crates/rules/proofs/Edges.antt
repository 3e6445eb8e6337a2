-- The rules at the edges that document 01 names, computed: where a definition is off by one, or tests the wrong way, its edge is not what the paper says.
use Prim.Native.Nat.{ℕ, suc, ◌+◌, ◌-◌}
use mathlib.Core.Path.{◌≡◌, refl}
use mathlib.Core.Bool.{true, false}
use mathlib.Core.List.{List, [], ◌∷◌, foldl}
use lib.ListN.{take}
use lib.Dec.{lit≤, le→leb}
use lib.IntN.{pos}
use native.Mathlib.Omega.{arith}
use borrow.Author.Tests.{le-leb}
use Rattle.rules.specs.declared.Feedback.{Feedback}
use Rattle.rules.specs.declared.Settings.{Settings}
use Rattle.rules.specs.declared.Sums.{Sums}
use Rattle.rules.specs.declared.Health.{Health}
use Rattle.rules.specs.declared.Health.TheVariants.{Live, Dead}
use Rattle.rules.specs.declared.Outcome.{Outcome}
use Rattle.rules.specs.declared.Outcome.TheVariants.{Success, Failure}
use Rattle.rules.specs.declared.Move.{Move}
use Rattle.rules.specs.declared.JobList.{JobList}
use Rattle.rules.specs.declared.Jobs.{Jobs}
use Rattle.rules.specs.declared.State.{State}
use Rattle.rules.specs.Sizes.{U}
use Rattle.rules.specs.State.{at, list_of, listed, queue_of, waiting_of}
use Rattle.rules.specs.Setup.{settings_in_range}
use Rattle.rules.specs.Windows.{feedback, cohort_share, is_dead_at, after_failure, stepped, woken_health}
use Rattle.rules.specs.Sound.{sums_fit}
use Rattle.rules.specs.Picking.{is_blocked, went_past}
use Rattle.rules.specs.Preemption.{has_credit, is_candidate, beats, better, best_before, not_above, search_end, looked_at, pays_for, long_enough, preempting}
use Rattle.rules.specs.Pick.{picked_jobs, nobody, preemption, pick_from, pick_with}
use Rattle.rules.specs.Calls.{took, picked}
use Rattle.rules.specs.Tally.{tallied, no_tally}
use Rattle.rules.specs.Demand3.{Ceilings}
use Rattle.rules.specs.Examples.{flat, per_window, square_root, usual, sums, given, expected, Exact}
use Rattle.rules.specs.Tallies.{row}
use Rattle.rules.proofs.Roots.{root_is}
use Rattle.rules.proofs.Preempted.{preempting_blocked}
use Rattle.rules.proofs.Opened.{ranges, sequences, setups, windows, soundness, reports, tallies, runs, shows}

-- Settings with these, everything else at its least.
abbrev settings : ℕ → ℕ → ℕ → Feedback → Feedback → ℕ → Settings
settings agents limit initial positive negative cohortlimit =
    record {
      agents = agents;
      cost = 0;
      loan = 0;
      discount = 0;
      minimum = 0;
      limit = limit;
      initial = initial;
      positive = positive;
      negative = negative;
      cohortlimit = cohortlimit;
      suspension = 1;
    }

-- The ranges that requests have moved.

abbrev ends : ℕ → ℕ → ℕ → Feedback → Feedback → Settings
ends agents limit initial positive negative = settings agents limit initial positive negative 1

-- "the range .. becomes 1-100" for positive feedback, "Negative 0 stays legal" (A4)
pub percent_edge :
    (settings_in_range (ends 1 1 1 (flat 0) (flat 0)) ≡ false)
    × (settings_in_range (ends 1 1 1 (flat 1) (flat 0)) ≡ true)
    × (settings_in_range (ends 1 1 1 (flat 100) (flat 100)) ≡ true)
    × (settings_in_range (ends 1 1 1 (flat 101) (flat 100)) ≡ false)
    × (settings_in_range (ends 1 1 1 (flat 100) (flat 101)) ≡ false)
unfolding ranges setups
percent_edge = (refl, refl, refl, refl, refl)

-- "Raise the window limit to 1,000 and agents to 1,000 .. Add the third published form" (A6)
pub wide_edge :
    (settings_in_range (ends 1_000 1_000 1_000 (square_root 1) (square_root 0)) ≡ true)
    × (settings_in_range (ends 1_001 1_000 1_000 (square_root 1) (square_root 0)) ≡ false)
    × (settings_in_range (ends 1_000 1_001 1_000 (square_root 1) (square_root 0)) ≡ false)
    × (settings_in_range (ends 1_000 999 1_000 (square_root 1) (square_root 0)) ≡ false)
    × (settings_in_range (ends 1_000 1_000 1_000 (record { percent = 1; form = 3 }) (square_root 0)) ≡ false)
    × (settings_in_range (ends 1_000 1_000 1_000 (square_root 1) (record { percent = 0; form = 3 })) ≡ false)
unfolding ranges setups
wide_edge = (refl, refl, refl, refl, refl, refl)

-- Windows: the first six rows of the table of marked examples.

pub window_rows : take 6 given ≡ take 6 expected
unfolding ranges windows shows
window_rows = refl

-- "exact up to window 20"
pub exact : Exact
unfolding ranges windows shows
exact = refl

-- "rounded up to a whole part" (A6): U/23 leaves 5, a hundredth of it 15 of 23; U/999 leaves 558; a hundredth of U/1000 is 232,792.56
pub rounded_edge :
    (feedback (per_window 100) 23 ≡ 1_012_141_566)
    × (feedback (per_window 1) 23 ≡ 10_121_416)
    × (feedback (per_window 1) 1_000 ≡ 232_793)
    × (cohort_share 23 ≡ 1_012_141_566)
    × (cohort_share 999 ≡ 23_302_559)
    × (cohort_share 1_000 ≡ 23_279_256)
unfolding ranges windows
rounded_edge = (refl, refl, refl, refl, refl, refl)

-- "R at 1 is U; at 4 it is 11,639,628,000", and "p·R/100 rounded down" (A6): 99 hundredths of 16,460,919,778 are 16,296,310,580.22
pub root_edge :
    (feedback (square_root 100) 1 ≡ U)
    × (feedback (square_root 100) 4 ≡ 11_639_628_000)
    × (feedback (square_root 99) 2 ≡ 16_296_310_580)
    × (feedback (square_root 1) 999 ≡ 7_365_230)
    × (feedback (square_root 100) 1_000 ≡ 736_154_711)
unfolding ranges windows
root_edge = (
  rw (root_is 1 U (lit≤ tt) refl) refl,
  rw (root_is 4 11_639_628_000 (lit≤ tt) refl) refl,
  rw (root_is 2 16_460_919_778 (lit≤ tt) refl) refl,
  rw (root_is 999 736_523_065 (lit≤ tt) refl) refl,
  rw (root_is 1_000 736_154_711 (lit≤ tt) refl) refl,
)

-- "dead when cohorts are at or above the limit", and sound "below" it: a part under limit times U, there, and a part over it
pub limit_edge :
    let g = usual (per_window 100) in
    let held : ℕ → Sums = λ cohorts. record { window = 1; success = 0; failure = 0; cohorts = cohorts } in
    (is_dead_at g (U - 1) ≡ false)
    × (is_dead_at g U ≡ true)
    × (is_dead_at g (U + 1) ≡ true)
    × (sums_fit g (held (U - 1)) ≡ true)
    × (sums_fit g (held U) ≡ false)
    × (sums_fit g (held (U + 1)) ≡ false)
unfolding ranges setups windows soundness
limit_edge = (refl, refl, refl, refl, refl, refl)

-- "A hospital with window 1 and cohort limit 1" is dead of its first failure, whatever its sums
pub first_failure_kills : (g : Settings) (now : ℕ) (u : Sums) → g.cohortlimit ≡ 1 → u.window ≡ 1 → after_failure g now (Live u) ≡ Dead (now + g.suspension)
unfolding ranges windows
first_failure_kills g now u one small = rw (one, small, le-leb U (u.cohorts + U) (omega arith))

-- Why the number moved (A7): 100% flat both ways, window limit 20, initial window 5, and this cohort limit.

abbrev steep : ℕ → Settings
steep cohortlimit = settings 1 20 5 (flat 100) (flat 100) cohortlimit

-- at second 300, this one busy alone
abbrev told : ℕ → Outcome → Health → Move
told cohortlimit outcome h = (stepped (steep cohortlimit) 1 300 outcome h).moved

-- "a step pushed back by a limit is unchanged": at the window limit, where 20 are busy, and at 1
pub pushed_edge :
    ((stepped (steep 1) 19 300 Success (sums 19 0 0 0)).moved ≡ Move.Raised)
    × ((stepped (steep 1) 20 300 Success (sums 20 0 0 0)).moved ≡ Move.Unchanged)
    × (told 2 Failure (sums 2 0 0 0) ≡ Move.Lowered)
    × (told 2 Failure (sums 1 0 0 0) ≡ Move.Unchanged)
unfolding ranges windows reports
pushed_edge = (refl, refl, refl, refl)

-- the window counts, not the sums; "it died in the step", or was dead; "a success found it dead", or waking had made it live
pub death_edge :
    (told 1 Success (sums 6 7 8 9) ≡ Move.Unchanged)
    × (told 1 Failure (sums 1 0 0 0) ≡ Move.Dead)
    × (told 1 Failure (Dead 301) ≡ Move.Unchanged)
    × (told 1 Success (Dead 301) ≡ Move.Revived)
    × (told 1 Success (woken_health (steep 1) 300 (Dead 301)) ≡ Move.Revived)
    × (told 1 Success (woken_health (steep 1) 300 (Dead 300)) ≡ Move.Raised)
unfolding ranges windows reports
death_edge = (refl, refl, refl, refl, refl, refl)

-- "a ≥ 1"
pub credit_edge : (has_credit (pos 0) ≡ false) × (has_credit (pos 1) ≡ true)
unfolding has_credit
credit_edge = (refl, refl)

-- "n ≥ M·c": c 5, M 3
pub length_edge : (long_enough (usual (per_window 100)) 14 ≡ false) × (long_enough (usual (per_window 100)) 15 ≡ true)
unfolding long_enough
length_edge = (refl, refl)

-- "m = 7": "not at a = 4; at a = 5"
pub price_edge : (pays_for (usual (per_window 100)) 4 7 ≡ false) × (pays_for (usual (per_window 100)) 5 7 ≡ true)
unfolding pays_for
price_edge = (refl, refl)

-- "B came at 10, m 4; C at 12, m 2": at 13 the fractions are equal, at 14 that of C is greater. B is job 1, C is job 2
pub tie_edge : (s : State) → at s.jobs.arrival 1 ≡ 10 → at s.jobs.arrival 2 ≡ 12 → waiting_of s 1 ≡ 4 → waiting_of s 2 ≡ 2
    → (beats s 13 2 1 ≡ false) × (beats s 14 2 1 ≡ true)
unfolding beats
tie_edge s b c m n = rw (b, c, m, n) (refl, refl)

-- What the search looks at (A3). Job 0 is current on transport 0, job 2 is on transport 1. Job 1 came at 10 and has 2 entries waiting, job 3, no
-- candidate, came at 14, job 4 at 17.
pub record Searched (s : State) : Type 0 where
  pub ranks : list_of s.arrivals ≡ 0 ∷ 1 ∷ 2 ∷ 3 ∷ 4 ∷ []
  pub lanes : (at s.jobs.transport 0 ≡ 0) × (at s.jobs.transport 1 ≡ 0) × (at s.jobs.transport 2 ≡ 1) × (at s.jobs.transport 3 ≡ 0) × (at s.jobs.transport 4 ≡ 0)
  pub seconds : (at s.jobs.arrival 1 ≡ 10) × (at s.jobs.arrival 3 ≡ 14) × (at s.jobs.arrival 4 ≡ 17)
  pub candidates : (is_candidate s 0 0 0 ≡ false) × (is_candidate s 0 0 1 ≡ true) × (is_candidate s 0 0 2 ≡ false) × (is_candidate s 0 0 3 ≡ false)
  pub waiting : waiting_of s 1 ≡ 2

-- "short of the first whose wait plus 1 is not above the best score before it": job 4 at 23, by 7 against 14/2, so 0, 1 and 3 are looked at; at 24 it is above, by
-- 8 against 15/2
pub search_edge : (s : State) → Searched s → (looked_at s 23 0 0 ≡ 3) × (looked_at s 24 0 0 ≡ 4)
unfolding ranges better best_before not_above search_end looked_at
search_edge s h =
    let l = h.lanes in
    let a = h.seconds in
    let c = h.candidates in (
      simp (h.ranks, l.0, l.1, l.2, l.3, l.4, c.0, c.1, c.2, c.3, a.0, a.1, a.2, h.waiting) refl,
      simp (h.ranks, l.0, l.1, l.2, l.3, l.4, c.0, c.1, c.2, c.3, a.0, a.1, a.2, h.waiting) refl,
    )

-- What a pick goes past (A13): transport 0 has the list 0 1 2 3, jobs 0 and 2 are blocked, job 1 is current. "Positions are those .. after the preempting job
-- has been moved": where job 3 preempts, the list is 0 3 1 2, and it goes past job 0 alone; from where it stood, it would go past job 2 as well.
pub past_edge : (s : State) (rest : List JobList) → s.queues ≡ listed (0 ∷ 1 ∷ 2 ∷ 3 ∷ []) ∷ rest → is_blocked s 0 ≡ true → is_blocked s 1 ≡ false → is_blocked s 2 ≡ true
    → ((pick_with s 0 1 0).found.past ≡ 0 ∷ []) × ((pick_with s 0 1 (suc 3)).found.past ≡ 0 ∷ []) × (went_past s 0 3 ≡ 0 ∷ 2 ∷ [])
unfolding ranges sequences went_past pick_from pick_with
past_edge s rest q a b c = simp (moved_list, q, preempting_blocked, a, b, c) (refl, refl, refl)
  where
    moved_list : queue_of (preempting s 0 3 1 (waiting_of s 3)) 0 ≡ 0 ∷ 3 ∷ 1 ∷ 2 ∷ []
    moved_list = unfold preempting in rw q refl

-- "destinations .. take turns after the last one picked": from place 2 of job 0's order, the next turn is from place 3 on
pub turn_edge : (g : Jobs) (x : ℕ) (rest : List ℕ) → g.turn ≡ x ∷ rest → at (picked_jobs g 0 2).turn 0 ≡ 3
turn_edge g x rest e = rw e refl

-- The tally, fed with decisions: job 1 preempts job 0 with 4 waiting, then job 3 preempts job 1 with 2, which count for job 0 too. Job 2 is on
-- transport 1. The third pick of transport 0 passes one job over and goes past it, job 0, though it preempts; the fourth two, jobs 1 and 3. So job 0 notes
-- one pick that went past it, and its own is not among them.
pub tally_rows :
    (foldl tallied no_tally
    (took 0 0 20
    ∷ took 1 0 4
    ∷ took 2 1 3
    ∷ took 3 0 2
    ∷ picked 0 0 [] nobody
    ∷ picked 1 0 [] (preemption 1 0 4)
    ∷ picked 2 0 [] nobody
    ∷ picked 3 1 (0 ∷ []) (preemption 3 1 2)
    ∷ picked 0 2 (1 ∷ 3 ∷ []) nobody
    ∷ [])
    ).rows
    ≡ row 0 0 20 20 6 0 1 4 3 1
    ∷ row 1 0 4 24 2 1 1 2 0 0
    ∷ row 2 1 3 3 0 0 0 1 0 0
    ∷ row 3 0 2 26 0 2 1 3 1 0
    ∷ []
unfolding ranges sequences tallies runs
tally_rows = refl

-- The ceilings are reached and not passed. With n 8 and N 20 they are 8/4 and 20 + 20/4 + P for c = 5, and 0 and 20 + P for c = 0. P is at most the
-- noted total.
pub ceilings_edge :
    Ceilings 5 (row 0 0 8 20 2 0 0 25 0 0)
    × (Ceilings 5 (row 0 0 8 20 3 0 0 25 0 0) → ⊥)
    × (Ceilings 5 (row 0 0 8 20 2 0 0 26 1 0) → ⊥)
    × Ceilings 5 (row 0 0 8 20 2 0 1 26 1 1)
    × (Ceilings 5 (row 0 0 8 20 2 0 1 27 1 1) → ⊥)
    × (Ceilings 5 (row 0 0 8 20 2 0 1 25 0 1) → ⊥)
    × Ceilings 0 (row 0 0 8 20 0 0 2 22 3 2)
    × (Ceilings 0 (row 0 0 8 20 1 0 2 22 3 2) → ⊥)
    × (Ceilings 0 (row 0 0 8 20 0 0 2 23 3 2) → ⊥)
ceilings_edge = (
  record {
    overtakers = λ _. lit≤ tt;
    nobody = λ e. omega (arith, e);
    lastpick = λ _. lit≤ tt;
    lastpickoff = λ e. omega (arith, e);
    past = lit≤ tt;
  },
  (λ h. le→leb 3 2 (h.overtakers (lit≤ tt))),
  (λ h. le→leb 26 25 (h.lastpick (lit≤ tt))),
  record {
    overtakers = λ _. lit≤ tt;
    nobody = λ e. omega (arith, e);
    lastpick = λ _. lit≤ tt;
    lastpickoff = λ e. omega (arith, e);
    past = lit≤ tt;
  },
  (λ h. le→leb 27 26 (h.lastpick (lit≤ tt))),
  (λ h. le→leb 1 0 h.past),
  record {
    overtakers = λ h. omega (arith, h);
    nobody = λ _. refl;
    lastpick = λ h. omega (arith, h);
    lastpickoff = λ _. lit≤ tt;
    past = lit≤ tt;
  },
  (λ h. omega (arith, h.nobody refl)),
  (λ h. le→leb 23 22 (h.lastpickoff refl)),
)
