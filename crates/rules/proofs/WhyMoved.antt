-- A7: a report tells each case exactly when it is right; the five cover every accepted report, and no two hold at once.
use Prim.Native.Nat.{ℕ, zero, suc, ◌<◌}
use mathlib.Core.Path.{◌≡◌, refl, sym, ◌∙◌, ap, subst}
use mathlib.Core.Bool.{Bool, false}
use native.Mathlib.Omega.{arith}
use lib.ListN.{length}
use lib.Dec.{ltb}
use borrow.Author.Tests.{ltb-true, ltb-false}
use Rattle.laws.proofs.Bools.{if_cases}
use Rattle.laws.proofs.First.{chosen_none}
use Rattle.rules.specs.declared.Sums.{Sums}
use Rattle.rules.specs.declared.Health.{Health}
use Rattle.rules.specs.declared.Health.TheVariants.{Live, Dead}
use Rattle.rules.specs.declared.State.{State}
use Rattle.rules.specs.declared.Outcome.{Outcome}
use Rattle.rules.specs.declared.Outcome.TheVariants.{Success, Failure}
use Rattle.rules.specs.declared.Move.{Move}
use Rattle.rules.specs.Sizes.{max_entries}
use Rattle.rules.specs.State.{at, health_of, window_of, destination_of}
use Rattle.rules.specs.Windows.{window_moved, live_moved, dead_moved, moved, move_number, woken}
use Rattle.rules.specs.Reporting.{is_death, is_put_off, put_off_entries}
use Rattle.rules.specs.Calls.{report_reply}
use Rattle.rules.specs.WhyMoved.{Died, When, WhyMoved}
use Rattle.rules.proofs.ReportedFacts.{step_of, report_health, report_count, report_moved}

-- Two windows: the first is less, greater, or the same.
window_cases :
    (P : Move → Type 0) (found left : ℕ)
    → (found < left → P Move.Raised)
    → (left < found → P Move.Lowered)
    → (found ≡ left → P Move.Unchanged)
    → P (window_moved found left)
unfolding window_moved
window_cases P found left less more same =
    if_cases P (ltb found left) (λ t. less (ltb-true found left t))
    (λ f. if_cases P (ltb left found) (λ t. more (ltb-true left found t)) (λ g. same (omega (arith, ltb-false found left f, ltb-false left found g))))

-- What a step tells is right.

live_dead : (u : Sums) (end : ℕ) → Live u ≡ Dead end → ⊥
live_dead u end e = let z : ◌≡◌ {A = ℕ} 0 1 = cc in omega arith

window_right : (outcome : Outcome) (u v : Sums) → When (window_moved u.window v.window) outcome (Live u) (Live v)
unfolding window_of
window_right outcome u v =
    window_cases (λ m. When m outcome (Live u) (Live v)) u.window v.window (λ l. (u, v, refl, refl, l)) (λ l. (u, v, refl, refl, l))
    (λ e. (
      (λ w. omega (arith, ap window_of w.2, ap window_of w.3, w.4)),
      (λ w. omega (arith, ap window_of w.2, ap window_of w.3, w.4)),
      (λ w. live_dead v w.1 w.3),
      (λ w. live_dead u w.0 w.2),
    ))

right : (outcome : Outcome) (found left : Health) → When (moved outcome found left) outcome found left
unfolding moved live_moved dead_moved
right outcome (Live u) (Live v) = window_right outcome u v
right outcome (Live u) (Dead end) = (u, end, refl, refl)
right Success (Dead end) left = (end, refl, refl)
right Failure (Dead end) left = (
  (λ w. live_dead w.0 end (sym w.2)),
  (λ w. live_dead w.0 end (sym w.2)),
  (λ w. live_dead w.0 end (sym w.2)),
  (λ w. let z : ◌≡◌ {A = ℕ} 0 1 = cc in omega arith),
)

-- And nothing else is.

module _ (outcome : Outcome) (found left : Health) where
  all_else : (m : Move) → When m outcome found left → When Move.Unchanged outcome found left → m ≡ Move.Unchanged
  all_else Move.Unchanged w n = refl
  all_else Move.Raised w n = absurd (n.0 w)
  all_else Move.Lowered w n = absurd (n.1 w)
  all_else Move.Dead w n = absurd (n.2 w)
  all_else Move.Revived w n = absurd (n.3 w)

  only : (m : Move) → When m outcome found left → moved outcome found left ≡ m
  unfolding moved live_moved dead_moved
  only Move.Unchanged w = all_else (moved outcome found left) (right outcome found left) w
  only Move.Raised w =
      rw (w.2, w.3) (window_cases (λ m. m ≡ Move.Raised) w.0.window w.1.window (λ l. refl) (λ l. absurd (omega (arith, w.4))) (λ e. absurd (omega (arith, w.4))))
  only Move.Lowered w =
      rw (w.2, w.3) (window_cases (λ m. m ≡ Move.Lowered) w.0.window w.1.window (λ l. absurd (omega (arith, w.4))) (λ l. refl) (λ e. absurd (omega (arith, w.4))))
  only Move.Dead w = rw (w.2, w.3)
  only Move.Revived w = rw (w.1, w.2)

-- A case by its number.

unfoldable case_of : ℕ → Move
case_of zero = Move.Unchanged
case_of (suc zero) = Move.Raised
case_of (suc (suc zero)) = Move.Lowered
case_of (suc (suc (suc zero))) = Move.Dead
case_of (suc (suc (suc (suc k)))) = Move.Revived

case_number : (m : Move) → case_of (move_number m) ≡ m
unfolding case_of move_number
case_number Move.Unchanged = refl
case_number Move.Raised = refl
case_number Move.Lowered = refl
case_number Move.Dead = refl
case_number Move.Revived = refl

-- Nothing is put off where it did not die.

spared : (outcome : Outcome) (found left : Health) (m : Move) → When m outcome found left → (Died found left → ⊥) → is_death m ≡ false
unfolding is_death
spared outcome found left Move.Unchanged w n = refl
spared outcome found left Move.Raised w n = refl
spared outcome found left Move.Lowered w n = refl
spared outcome found left Move.Dead w n = absurd (n w)
spared outcome found left Move.Revived w n = refl

none_put_off : (s : State) (died : Bool) (d : ℕ) → died ≡ false → length (put_off_entries s died d) ≡ 0
unfolding put_off_entries is_put_off
none_put_off s died d e = rw e (ap length (chosen_none max_entries))

-- The whole report.

pub why_moved : WhyMoved
why_moved s now e ticket outcome list accept =
    record {
      tells = λ m n. subst (λ k. When k outcome found left) (sym (case_number told) ∙ ap case_of (sym says ∙ n) ∙ case_number m) is_right;
      told = λ m w. says ∙ ap move_number (only outcome found left m w);
      covered = (told, is_right);
      once = λ m k w x. sym (only outcome found left m w) ∙ only outcome found left k x;
      kept =
          λ n.
          report_count s now e ticket outcome list accept
          ∙ none_put_off (woken s now) _ (destination_of s e) (ap (λ h. is_death (moved outcome found h)) (sym health) ∙ spared outcome found left told is_right n);
    }
  where
    found : Health
    found = health_of (woken s now) (destination_of s e)

    left : Health
    left = health_of (report_reply s now e ticket outcome list).state (destination_of s e)

    told : Move
    told = moved outcome found left

    is_right : When told outcome found left
    is_right = right outcome found left

    health : left ≡ (step_of s now e outcome).health
    health = report_health s now e ticket outcome list accept

    says : at (report_reply s now e ticket outcome list).says.values 1 ≡ move_number told
    says = report_moved s now e ticket outcome list accept ∙ ap (λ h. move_number (moved outcome found h)) (sym health)
