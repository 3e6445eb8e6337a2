-- A6: "Windows to 1,000, and the square-root feedback". What is claimed of roots, feedback, shares, and the windows after a report.
use Rattle.std.specs.Prelude.{ℕ, ◌+◌, ◌*◌, ◌/◌, ◌≤◌, ◌<◌, ◌≡◌, ◌≢◌, List}
use Rattle.rules.specs.declared.Feedback.{Feedback}
use Rattle.rules.specs.declared.Sums.{Sums}
use Rattle.rules.specs.declared.Health.TheVariants.{Live}
use Rattle.rules.specs.declared.State.{State}
use Rattle.rules.specs.declared.Outcome.{Outcome}
use Rattle.rules.specs.Sizes.{U}
use Rattle.rules.specs.State.{health_of, destination_of}
use Rattle.rules.specs.Windows.{root, feedback, cohort_share}
use Rattle.rules.specs.Refusals.{report_refusal}
use Rattle.rules.specs.Calls.{report_reply}
use Rattle.rules.specs.Examples.{per_window}

-- R is "the greatest whole R with R·R·N ≤ U·U", of all numbers
pub record IsRoot (N R : ℕ) : Type 0 where
  pub fits : R * R * N ≤ U * U
  pub greatest : (r : ℕ) → r * r * N ≤ U * U → r ≤ R

abbrev pub RootHolds : Type 0
RootHolds = (N : ℕ) → 1 ≤ N → IsRoot N (root N)

-- "windows to 20 give the old numbers": those of document 01, rounded down
abbrev pub OldNumbers : Type 0
OldNumbers =
    (p window : ℕ)
    → p ≤ 100
    → 1 ≤ window
    → window ≤ 20
    → (feedback (per_window p) window ≡ p * U / (100 * window)) × (cohort_share window ≡ U / window)

-- "one fact for all three forms: feedback never exceeds U"
abbrev pub NeverAboveU : Type 0
NeverAboveU = (f : Feedback) (window : ℕ) → f.percent ≤ 100 → 1 ≤ window → feedback f window ≤ U

-- "so a report moves a live window by one at most": of destination d, live before an accepted report with the sums u and after it with v
pub record Moves (reported d : ℕ) (u v : Sums) : Type 0 where
  pub up : v.window ≤ u.window + 1
  pub down : u.window ≤ v.window + 1
  -- no further move is owed: what is left of both parts is below U
  pub success : v.success < U
  pub failure : v.failure < U
  -- all but the reported one do not move at all
  pub others : d ≢ reported → v ≡ u

abbrev pub MovesByOne : Type 0
MovesByOne =
    (s : State) (now e ticket : ℕ) (outcome : Outcome) (list : List ℕ)
    → report_refusal s now e ticket list ≡ 0
    → (d : ℕ)
    → d < s.setup.destinations
    → (u v : Sums)
    → health_of s d ≡ Live u
    → health_of (report_reply s now e ticket outcome list).state d ≡ Live v
    → Moves (destination_of s e) d u v
