-- The shape of a state: each column has as many places as its array.
use Prim.Native.Nat.{ℕ, ◌<◌}
use mathlib.Core.Path.{◌≡◌, ap}
use mathlib.Core.Bool.{true, false}
use mathlib.Core.List.{List, [], ◌∷◌}
use native.Mathlib.Decide.{dec_lt}
use native.Mathlib.Omega.{arith}
use lib.ListN.{length, get_or, get_or-eq_default}
use Rattle.laws.proofs.Bools.{true_not_false}
use Rattle.rules.specs.declared.Busy.{Busy}
use Rattle.rules.specs.declared.Jobs.{Jobs}
use Rattle.rules.specs.declared.Entries.{Entries}
use Rattle.rules.specs.declared.State.{State}
use Rattle.rules.specs.Sizes.{max_transports, max_destinations, max_jobs, max_entries}
use Rattle.rules.specs.State.{at, zero_list, is_present}
use Rattle.rules.specs.Setup.{no_jobs}

pub record BusyShaped (b : Busy) : Type 0 where
  pub transport : length b.transport ≡ max_transports
  pub destination : length b.destination ≡ max_destinations

-- the lengths of the jobs' columns
abbrev pub lengths_of : Jobs → List ℕ
lengths_of g =
    length g.present
    ∷ length g.transport
    ∷ length g.n
    ∷ length g.picked
    ∷ length g.dropped
    ∷ length g.sold
    ∷ length g.parent
    ∷ length g.preempted
    ∷ length g.arrival
    ∷ length g.overtakers
    ∷ length g.turn
    ∷ length g.places
    ∷ length g.order
    ∷ []

-- they are those of the empty columns
pub record JobsShaped (g : Jobs) : Type 0 where
  pub lengths : lengths_of g ≡ lengths_of no_jobs

module _ {g : Jobs} (h : JobsShaped g) where
  pub present_length : length g.present ≡ max_jobs
  present_length = ap (λ l. at l 0) h.lengths

  pub transport_length : length g.transport ≡ max_jobs
  transport_length = ap (λ l. at l 1) h.lengths

  pub n_length : length g.n ≡ max_jobs
  n_length = ap (λ l. at l 2) h.lengths

  pub picked_length : length g.picked ≡ max_jobs
  picked_length = ap (λ l. at l 3) h.lengths

  pub dropped_length : length g.dropped ≡ max_jobs
  dropped_length = ap (λ l. at l 4) h.lengths

  pub sold_length : length g.sold ≡ max_jobs
  sold_length = ap (λ l. at l 5) h.lengths

  pub parent_length : length g.parent ≡ max_jobs
  parent_length = ap (λ l. at l 6) h.lengths

  pub preempted_length : length g.preempted ≡ max_jobs
  preempted_length = ap (λ l. at l 7) h.lengths

  pub arrival_length : length g.arrival ≡ max_jobs
  arrival_length = ap (λ l. at l 8) h.lengths

  pub overtakers_length : length g.overtakers ≡ max_jobs
  overtakers_length = ap (λ l. at l 9) h.lengths

  pub turn_length : length g.turn ≡ max_jobs
  turn_length = ap (λ l. at l 10) h.lengths

  pub places_length : length g.places ≡ max_jobs
  places_length = ap (λ l. at l 11) h.lengths

  pub order_length : length g.order ≡ 1024
  order_length = ap (λ l. at l 12) h.lengths

pub record EntriesShaped (e : Entries) : Type 0 where
  pub kind : length e.kind ≡ max_entries
  pub job : length e.job ≡ max_entries
  pub destination : length e.destination ≡ max_entries
  pub ticket : length e.ticket ≡ max_entries

pub record Shaped (s : State) : Type 0 where
  pub destinations : length s.destinations ≡ max_destinations
  pub busy : BusyShaped s.busy
  pub queues : length s.queues ≡ max_transports
  pub queue : (t : ℕ) → t < max_transports → length (get_or s.queues t zero_list).jobs ≡ max_jobs
  pub arrivals : length s.arrivals.jobs ≡ max_jobs
  pub jobs : JobsShaped s.jobs
  pub entries : EntriesShaped s.entries

-- past the columns nobody is present
pub present_below : (s : State) → Shaped s → (j : ℕ) → is_present s j ≡ true → j < max_jobs
present_below s h j p = elim (dec_lt j max_jobs) [
  | yes l ↦ l
  | no l ↦ true_not_false p (get_or-eq_default s.jobs.present false (omega (arith, present_length h.jobs)))
]
