-- The jobs that a pick goes past (A13) are those that it passes over: before the first with an eligible entry nobody has one, and a job that preempts
-- moves directly before it.
use Prim.Native.Nat.{ℕ, suc, ◌<◌}
use mathlib.Core.Bool.{false, and-true}
use mathlib.Core.Path.{◌≡◌, ◌∙◌, ap}
use mathlib.Core.List.{List}
use lib.ListN.{length}
use Rattle.laws.specs.Sequence.{keep, holds, up_to}
use Rattle.laws.proofs.Bools.{true_not_false, false_of}
use Rattle.laws.proofs.Keep.{keep_same, length_keep}
use Rattle.laws.proofs.Move.{up_to_move}
use Rattle.rules.specs.declared.State.{State}
use Rattle.rules.specs.Sizes.{max_transports}
use Rattle.rules.specs.State.{queue_of, waiting_of}
use Rattle.rules.specs.Picking.{has_waiting, passed_over, is_blocked, went_past}
use Rattle.rules.specs.Preemption.{preempting}
use Rattle.rules.specs.Pick.{pick_from, pick_with}
use Rattle.rules.proofs.Shape.{Shaped}
use Rattle.rules.proofs.Picked.{Current}
use Rattle.rules.proofs.Preemptor.{Preempts}
use Rattle.rules.proofs.Preempted.{preempting_blocked, preempting_queue_own}

-- the jobs before y with a waiting entry
abbrev pub passed_jobs : State → ℕ → ℕ → List ℕ
passed_jobs w t y = keep (has_waiting w) (up_to y (queue_of w t))

pub passed_number : (w : State) (t y : ℕ) → length (passed_jobs w t y) ≡ passed_over w t y
unfolding passed_over
passed_number w t y = length_keep (has_waiting w) (up_to y (queue_of w t))

module _ (w : State) (t y : ℕ) (cur : Current w t y) where
  -- none of them has an eligible entry
  blocked_before : keep (is_blocked w) (up_to y (queue_of w t)) ≡ passed_jobs w t y
  unfolding is_blocked
  blocked_before =
      keep_same (is_blocked w) (has_waiting w) (up_to y (queue_of w t)) λ j h. rw (cur.first j h, and-true)

  pub past_current : (pick_with w t y 0).found.past ≡ passed_jobs w t y
  unfolding pick_with pick_from went_past
  past_current = blocked_before

  -- x has one, so it stands behind y
  not_before : (now x : ℕ) → Preempts w now t y x → holds x (up_to y (queue_of w t)) ≡ false
  not_before now x p = false_of λ h. true_not_false p.eligible (cur.first x h)

  pub past_preemptor : (now x : ℕ) → Shaped w → t < max_transports → Preempts w now t y x → (pick_with w t y (suc x)).found.past ≡ passed_jobs w t y
  unfolding pick_with pick_from went_past
  past_preemptor now x shape below p =
      let moved = preempting w t x y (waiting_of w x) in
      ap (λ l. keep (is_blocked moved) (up_to x l)) (preempting_queue_own w t x y (waiting_of w x) shape below)
      ∙ ap (keep (is_blocked moved)) (up_to_move x y (queue_of w t) p.other cur.inside (not_before now x p))
      ∙ keep_same (is_blocked moved) (is_blocked w) (up_to y (queue_of w t)) (λ j h. preempting_blocked w t x y (waiting_of w x) j)
      ∙ blocked_before
