-- What a preemption changes, column by column, and what it leaves.
use Prim.Native.Nat.{ℕ, suc, ◌+◌, ◌<◌}
use mathlib.Core.Bool.{true, false}
use mathlib.Core.Path.{◌≡◌, refl, ◌∙◌, ap}
use mathlib.Core.Logic.{◌≢◌}
use native.Mathlib.Omega.{arith}
use lib.Seq.{get_or-set_same, get_or-set_other}
use Rattle.laws.specs.Sequence.{move_before}
use Rattle.laws.proofs.Sequence.{take_padded}
use Rattle.rules.specs.declared.State.{State}
use Rattle.rules.specs.Sizes.{max_transports, max_jobs}
use Rattle.rules.specs.State.{at, zero_list, list_of, listed, queue_of, is_present, has_preempted, waits_of, waiting_of, parent_of}
use Rattle.rules.specs.Picking.{has_room, has_agent, eligible, eligible_of, eligible_to, has_eligible, is_blocked, next_place, next_entry}
use Rattle.rules.specs.Preemption.{charged, preempting}
use Rattle.rules.proofs.Shape.{Shaped, sold_length, parent_length, preempted_length}

-- A preemption changes no entry: who waits, what is eligible and which is next stay.

module _ (w : State) (t x y m : ℕ) where
  pub preempting_waits : (j : ℕ) → waiting_of (preempting w t x y m) j ≡ waiting_of w j
  unfolding preempting waiting_of waits_of
  preempting_waits j = refl

  pub preempting_eligible : (j : ℕ) → has_eligible (preempting w t x y m) j ≡ has_eligible w j
  unfolding preempting has_eligible eligible_of eligible has_room has_agent
  preempting_eligible j = refl

  pub preempting_blocked : (j : ℕ) → is_blocked (preempting w t x y m) j ≡ is_blocked w j
  unfolding is_blocked
  preempting_blocked j = rw (preempting_waits j, preempting_eligible j)

  pub preempting_place : (j : ℕ) → next_place (preempting w t x y m) j ≡ next_place w j
  unfolding preempting next_place eligible_to eligible_of eligible has_room has_agent
  preempting_place j = refl

  pub preempting_entry : (j : ℕ) → next_entry (preempting w t x y m) j ≡ next_entry w j
  unfolding preempting next_entry next_place eligible_to eligible_of eligible has_room has_agent
  preempting_entry j = refl

  pub preempting_present : (j : ℕ) → is_present (preempting w t x y m) j ≡ is_present w j
  unfolding preempting
  preempting_present j = refl

  pub preempting_transport : (j : ℕ) → at (preempting w t x y m).jobs.transport j ≡ at w.jobs.transport j
  unfolding preempting
  preempting_transport j = refl

  pub preempting_overtakers : (preempting w t x y m).jobs.overtakers ≡ charged (parent_of w) y m w.jobs.overtakers
  unfolding preempting
  preempting_overtakers = refl

-- The columns that are written.

module _ (w : State) (t x y m : ℕ) (shape : Shaped w) where
  pub preempting_queue_own : t < max_transports → queue_of (preempting w t x y m) t ≡ move_before x y (queue_of w t)
  unfolding preempting
  preempting_queue_own l =
      ap list_of (get_or-set_same w.queues t (listed (move_before x y (queue_of w t))) zero_list (omega (arith, shape.queues))) ∙ take_padded max_jobs (move_before x y (queue_of w t))

  pub preempting_queue_other : (u : ℕ) → u ≢ t → queue_of (preempting w t x y m) u ≡ queue_of w u
  unfolding preempting
  preempting_queue_other u ne = ap list_of (get_or-set_other w.queues t u (listed (move_before x y (queue_of w t))) zero_list ne)

  pub preempting_sold_own : y < max_jobs → at (preempting w t x y m).jobs.sold y ≡ at w.jobs.sold y + m
  unfolding preempting
  preempting_sold_own l = get_or-set_same w.jobs.sold y _ 0 (omega (arith, sold_length shape.jobs))

  pub preempting_sold_other : (j : ℕ) → j ≢ y → at (preempting w t x y m).jobs.sold j ≡ at w.jobs.sold j
  unfolding preempting
  preempting_sold_other j ne = get_or-set_other w.jobs.sold y j _ 0 ne

  pub preempting_parent_own : x < max_jobs → parent_of (preempting w t x y m) x ≡ suc y
  unfolding preempting
  preempting_parent_own l = get_or-set_same w.jobs.parent x (suc y) 0 (omega (arith, parent_length shape.jobs))

  pub preempting_parent_other : (j : ℕ) → j ≢ x → parent_of (preempting w t x y m) j ≡ parent_of w j
  unfolding preempting
  preempting_parent_other j ne = get_or-set_other w.jobs.parent x j (suc y) 0 ne

  pub preempting_marked_own : x < max_jobs → has_preempted (preempting w t x y m) x ≡ true
  unfolding preempting
  preempting_marked_own l = get_or-set_same w.jobs.preempted x true false (omega (arith, preempted_length shape.jobs))

  pub preempting_marked_other : (j : ℕ) → j ≢ x → has_preempted (preempting w t x y m) j ≡ has_preempted w j
  unfolding preempting
  preempting_marked_other j ne = get_or-set_other w.jobs.preempted x j true false ne
