-- Document 01, "Marked examples": W1 to W12, without W5 (A2), as one table with a single statement, `Worked`; and the windows for which feedback
-- is exact.
use Rattle.std.specs.Prelude.{ℕ, zero, suc, ◌*◌, ◌/◌, ◌≡◌, Bool, true, ◌&&◌, List, [], ◌∷◌, ◌++◌, replicate, eqb}
use Rattle.laws.specs.Range.{all_to}
use Rattle.rules.specs.declared.Feedback.{Feedback}
use Rattle.rules.specs.declared.Settings.{Settings}
use Rattle.rules.specs.declared.Setup.{Setup}
use Rattle.rules.specs.declared.Health.{Health}
use Rattle.rules.specs.declared.Health.TheVariants.{Live, Dead}
use Rattle.rules.specs.declared.State.{State}
use Rattle.rules.specs.declared.Outcome.TheVariants.{Success}
use Rattle.rules.specs.Sizes.{U, max_destinations, max_entries}
use Rattle.rules.specs.State.{at, destination_of, zero_settings}
use Rattle.rules.specs.Setup.{first_state}
use Rattle.rules.specs.Windows.{feedback, cohort_share, after_success, after_failure}
use Rattle.rules.specs.Calls.{Reply, Call, job, pick_reply, report_reply, setup_reply}
use Rattle.rules.specs.History.{state_from}

abbrev pub flat : ℕ → Feedback
flat p = record { percent = p; form = 0 }

abbrev pub per_window : ℕ → Feedback
per_window p = record { percent = p; form = 1 }

abbrev pub square_root : ℕ → Feedback
square_root p = record { percent = p; form = 2 }

-- "Defaults; .. limit 20, cohort limit 1", with the initial window and the feedback given
abbrev pub defaults : ℕ → Feedback → Settings
defaults initial f =
    record {
      agents = 100;
      cost = 5;
      loan = 3;
      discount = 50;
      minimum = 3;
      limit = 20;
      initial = initial;
      positive = f;
      negative = f;
      cohortlimit = 1;
      suspension = 300;
    }

-- "initial 5 .. unless said"
abbrev pub usual : Feedback → Settings
usual f = defaults 5 f

-- What a row of the table shows.

pub data Shown : Type 0 where
  -- a live destination: window, success, failure, cohorts
  live : ℕ → ℕ → ℕ → ℕ → Shown
  -- a live destination, where the row speaks of its window alone
  window : ℕ → Shown
  dead : Shown
  -- a pick: the number of its job, or of its destination
  picks : ℕ → Shown

unfoldable pub shown : Health → Shown
shown (Live u) = live u.window u.success u.failure u.cohorts
shown (Dead end) = dead

unfoldable pub window_shown : Health → Shown
window_shown (Live u) = window u.window
window_shown (Dead end) = dead

-- Windows.

abbrev pub sums : ℕ → ℕ → ℕ → ℕ → Health
sums w success failure cohorts = Live (record { window = w; success = success; failure = failure; cohorts = cohorts })

-- the windows after each of n failures at second 0
unfoldable pub windows_failing : Settings → ℕ → Health → List Shown
windows_failing g zero h = []
windows_failing g (suc n) h = window_shown (after_failure g 0 h) ∷ windows_failing g n (after_failure g 0 h)

-- Runs.

-- one transport with this feedback, and destinations 0 to d - 1
abbrev pub one_with : Feedback → ℕ → Setup
one_with f d =
    record {
      transports = 1;
      settings = usual f ∷ zero_settings ∷ zero_settings ∷ zero_settings ∷ [];
      destinations = d;
      home = replicate max_destinations 0;
    }

abbrev pub one_transport : ℕ → Setup
one_transport d = one_with (per_window 100) d

abbrev pub buffer : List ℕ
buffer = replicate max_entries 0

-- a job of n entries to destination 0 at a second
abbrev pub job_to0 : ℕ → ℕ → Call
job_to0 now n = job now 0 (replicate n 0) buffer

abbrev pub after : ℕ → List Call → State
after d calls = state_from (setup_reply (one_transport d)).state calls

abbrev pub picked_job : Reply → Shown
picked_job r = picks (at r.says.values 0)

abbrev pub picked_destination : Reply → Shown
picked_destination r = picks (destination_of r.state (at r.says.values 1))

-- the state after success is reported of what this pick answered
unfoldable pub succeeded : ℕ → Reply → State
succeeded now r = (report_reply r.state now (at r.says.values 1) (at r.says.values 2) Success buffer).state

-- n picks at a second, success reported after each: what is shown of each pick
unfoldable pub served : (Reply → Shown) → ℕ → ℕ → State → List Shown
served show now zero s = []
served show now (suc n) s = show (pick_reply s now) ∷ served show now n (succeeded now (pick_reply s now))

-- for W9: the first two picks, with a job of n entries and one of 2
abbrev pub first_two : ℕ → List Shown
first_two n = served picked_job 0 2 (after 1 (job_to0 0 n ∷ job_to0 0 2 ∷ []))

-- for W10: the job picked at a second, a large one having been picked from at 0
abbrev pub picked_at : ℕ → Shown
picked_at now =
    picked_job (pick_reply (state_from (succeeded 0 (pick_reply (after 1 (job_to0 0 40 ∷ [])) 0)) (job_to0 10 4 ∷ job_to0 12 2 ∷ [])) now)

-- The rows: for each situation what the rules give, W, and the paper's outcome. A, the first job taken, is job 0, B is 1 and C is 2.

abbrev pub A : Shown
A = picks 0

abbrev pub B : Shown
B = picks 1

abbrev pub C : Shown
C = picks 2

-- "first state, failure, 100% per window": "window 4, failure 18,623,404,800, cohorts 4,655,851,200"
abbrev pub W1 : List Shown
W1 = shown (after_failure (usual (per_window 100)) 0 (Live (first_state (usual (per_window 100))))) ∷ []

abbrev pub outcome1 : List Shown
outcome1 = live 4 0 18_623_404_800 4_655_851_200 ∷ []

-- "window 5, busy 1, success 4U/5, success, 100% per window": "window 6, both parts 0"
abbrev pub W2 : List Shown
W2 = shown (after_success (usual (per_window 100)) 1 (sums 5 (4 * U / 5) 7 9)) ∷ []

abbrev pub outcome2 : List Shown
outcome2 = live 6 0 0 0 ∷ []

-- "window 6, busy 1, success": "only cohorts change, to 0"
abbrev pub W3 : List Shown
W3 = shown (after_success (usual (per_window 100)) 1 (sums 6 7 8 9)) ∷ []

abbrev pub outcome3 : List Shown
outcome3 = live 6 7 8 0 ∷ []

-- "window 1, cohorts 0, failure, 100% flat": "dead" (A2)
abbrev pub W4 : List Shown
W4 = shown (after_failure (usual (flat 100)) 0 (sums 1 0 0 0)) ∷ []

abbrev pub outcome4 : List Shown
outcome4 = dead ∷ []

-- "first state, failures, 100% flat": "4, 3, 2, dead"
abbrev pub W6 : List Shown
W6 = windows_failing (usual (flat 100)) 4 (Live (first_state (usual (flat 100))))

abbrev pub outcome6 : List Shown
outcome6 = window 4 ∷ window 3 ∷ window 2 ∷ dead ∷ []

-- "window 20, busy 20, success, 100% flat": "20"
abbrev pub W7 : List Shown
W7 = window_shown (after_success (usual (flat 100)) 20 (sums 20 0 0 0)) ∷ []

abbrev pub outcome7 : List Shown
outcome7 = window 20 ∷ []

-- "A of 20, B of 2, one destination, success reported after each pick": "A B B, then A"
abbrev pub W8 : List Shown
W8 = served picked_job 0 4 (after 1 (job_to0 0 20 ∷ job_to0 0 2 ∷ []))

abbrev pub outcome8 : List Shown
outcome8 = A ∷ B ∷ B ∷ A ∷ []

-- "current n = 14; n = 15; other conditions met": "stays; preempted", each at the second pick
abbrev pub W9 : List Shown
W9 = first_two 14 ++ first_two 15

abbrev pub outcome9 : List Shown
outcome9 = (A ∷ A ∷ []) ++ (A ∷ B ∷ [])

-- "B came at 10, m 4; C at 12, m 2": "at 13 B (tie), at 14 C"
abbrev pub W10 : List Shown
W10 = picked_at 13 ∷ picked_at 14 ∷ []

abbrev pub outcome10 : List Shown
outcome10 = B ∷ C ∷ []

-- "n = 100, nothing sold, m = 7": "not at a = 4; at a = 5", the fifth pick and the sixth
abbrev pub W11 : List Shown
W11 = served picked_job 0 6 (after 1 (job_to0 0 100 ∷ job_to0 0 7 ∷ []))

abbrev pub outcome11 : List Shown
outcome11 = A ∷ A ∷ A ∷ A ∷ A ∷ B ∷ []

-- "job to destinations 0 0 1 2": "order 0 1 2 0"
abbrev pub W12 : List Shown
W12 = served picked_destination 0 4 (after 3 (job 0 0 (0 ∷ 0 ∷ 1 ∷ 2 ∷ []) buffer ∷ []))

abbrev pub outcome12 : List Shown
outcome12 = picks 0 ∷ picks 1 ∷ picks 2 ∷ picks 0 ∷ []

-- The table: what the rules give is what the paper says.

abbrev pub given : List (List Shown)
given = W1 ∷ W2 ∷ W3 ∷ W4 ∷ W6 ∷ W7 ∷ W8 ∷ W9 ∷ W10 ∷ W11 ∷ W12 ∷ []

abbrev pub expected : List (List Shown)
expected =
    outcome1 ∷ outcome2 ∷ outcome3 ∷ outcome4 ∷ outcome6 ∷ outcome7 ∷ outcome8 ∷ outcome9 ∷ outcome10 ∷ outcome11 ∷ outcome12 ∷ []

abbrev pub Worked : Type 0
Worked = given ≡ expected

-- "exact up to window 20": nothing is lost where p percent of U is divided by 100, by 100·window, or U by window

unfoldable pub exact_at : ℕ → ℕ → Bool
exact_at p w =
    eqb (feedback (flat p) w * 100) (p * U) && eqb (feedback (per_window p) w * (100 * w)) (p * U) && eqb (cohort_share w * w) U

-- every percent from 0 to 100 and every window from 1 to 20
abbrev pub Exact : Type 0
Exact = all_to (λ p. all_to (λ k. exact_at p (suc k)) 20) 101 ≡ true
