-- What the code of a preemption and of handing out leans on; the pick has found it, from soundness.
use Rattle.std.specs.Prelude.{◌≡◌, ℕ, suc, ◌+◌, ◌<◌, ◌≤◌, true, ◌≢◌, length, slice_index_or}
use Rattle.laws.specs.Sequence.{times_in}
use Rattle.charging.specs.Links.{leads_inside}
use Rattle.rules.specs.declared.State.{State}
use Rattle.rules.specs.State.{at, zero_list, queue_of, parent_of, destination_of}

pub record MayPreempt (w : State) (t x y m : ℕ) : Type 0 where
  pub lane : t < 4
  pub lists : length w.queues ≡ 4
  pub mover : x < 32
  pub payer : y < 32
  pub other : x ≢ y
  pub count : (slice_index_or w.queues t zero_list).count ≤ 32
  pub movers : times_in x (queue_of w t) ≡ 1
  pub payers : times_in y (queue_of w t) ≡ 1
  pub sold : at w.jobs.sold y + m ≤ 65535
  pub chain : leads_inside (parent_of w) 32 (suc y) ≡ true

pub record MayHandOut (w : State) (t j place e : ℕ) : Type 0 where
  pub lane : t < 4
  pub job : j < 32
  pub ordered : place < 255
  pub entry : e < 512
  pub destination : destination_of w e < 32
  pub picked : at w.jobs.picked j < 65535
  pub busy_transport : at w.busy.transport t < 65535
  pub busy_destination : at w.busy.destination (destination_of w e) < 65535
