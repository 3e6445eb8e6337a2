-- A4: "A site set positive feedback to 0 percent and its windows never rose again." Under an accepted set-up they do: a live destination whose window is
-- below the window limit has a larger one after so many successes, a number that is known beforehand.
use Rattle.std.specs.Prelude.{ℕ, ◌+◌, ◌-◌, ◌≤◌, ◌<◌, ◌≡◌, Bool, true, false, ◌&&◌, List, [], ◌∷◌, eqb, ltb}
use Rattle.laws.specs.Bools.{one}
use Rattle.laws.specs.Fractions.{rounded_up}
use Rattle.rules.specs.declared.Settings.{Settings}
use Rattle.rules.specs.declared.Setup.{Setup}
use Rattle.rules.specs.declared.Sums.{Sums}
use Rattle.rules.specs.declared.Health.TheVariants.{Live}
use Rattle.rules.specs.declared.State.{State}
use Rattle.rules.specs.declared.Outcome.{Outcome}
use Rattle.rules.specs.declared.Outcome.TheVariants.{Success, Failure}
use Rattle.rules.specs.Sizes.{U}
use Rattle.rules.specs.State.{at, settings_in, settings_for, health_of, window_of, destination_of}
use Rattle.rules.specs.Setup.{setup_in_range}
use Rattle.rules.specs.Windows.{feedback}
use Rattle.rules.specs.Sound.{implies}
use Rattle.rules.specs.Refusals.{report_refusal}
use Rattle.rules.specs.Calls.{Call, job, pick, report, ask, board, reply_to}
use Rattle.rules.specs.History.{state_from, state_after}

-- the call is an accepted report of destination d, of an outcome that passes the test
unfoldable pub is_report : (Outcome → Bool) → State → ℕ → Call → Bool
is_report said s d (job now t dests list) = false
is_report said s d (pick now) = false
is_report said s d (report now e ticket outcome list) = said outcome && eqb (report_refusal s now e ticket list) 0 && eqb (destination_of s e) d
is_report said s d (ask j) = false
is_report said s d (board buffer) = false

abbrev pub any_outcome : Outcome → Bool
any_outcome outcome = true

unfoldable pub is_success : Outcome → Bool
is_success Success = true
is_success Failure = false

-- it is a success by which success grows: "only if window < busy + initial, busy still counting this delivery"
unfoldable pub counts : State → ℕ → Call → Bool
counts s d call = is_report is_success s d call && ltb (window_of (health_of s d)) (at s.busy.destination d + (settings_for s d).initial)

-- how many of these calls report destination d
unfoldable pub reports_in : State → ℕ → List Call → ℕ
reports_in s d [] = 0
reports_in s d (call ∷ calls) = one (is_report any_outcome s d call) + reports_in (reply_to s call).state d calls

-- each of these calls that reports destination d is a success that counts
unfoldable pub in_arow : State → ℕ → List Call → Bool
in_arow s d [] = true
in_arow s d (call ∷ calls) = implies (is_report any_outcome s d call) (counts s d call) && in_arow (reply_to s call).state d calls

-- how many successes are needed: what is missing to U, by the feedback of the window, rounded up
abbrev pub needed : Settings → Sums → ℕ
needed g u = rounded_up (U - u.success) (feedback g.positive u.window)

-- what is said of a live destination d in state s, whose settings are g
pub record Recovers (s : State) (d : ℕ) (g : Settings) (u : Sums) : Type 0 where
  -- the feedback of its window is at least 1 part
  pub part : 1 ≤ feedback g.positive u.window
  -- at most U/f, rounded up, with f that feedback
  pub few : needed g u ≤ rounded_up U (feedback g.positive u.window)
  -- with fewer its window is as it was
  pub until : (calls : List Call) → in_arow s d calls ≡ true → reports_in s d calls < needed g u → window_of (health_of (state_from s calls) d) ≡ u.window
  -- with that many its window is one larger
  pub rises : (calls : List Call) → in_arow s d calls ≡ true → reports_in s d calls ≡ needed g u → window_of (health_of (state_from s calls) d) ≡ u.window + 1

-- what is claimed, of every state that an accepted set-up leads to, and of each destination that is live there with a window below the window limit
abbrev pub RecoveryHolds : Type 0
RecoveryHolds =
    (u : Setup) (past : List Call)
    → setup_in_range u ≡ true
    → (d : ℕ)
    → d < u.destinations
    → (v : Sums)
    → health_of (state_after u past) d ≡ Live v
    → v.window < (settings_in u d).limit
    → Recovers (state_after u past) d (settings_in u d) v
