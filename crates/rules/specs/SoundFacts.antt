-- Soundness as plain facts: `Sound s` says of a state what the test `sound` computes. proofs/Soundness.antt has the law both ways.
use Rattle.std.specs.Prelude.{ℕ, suc, ◌+◌, ◌*◌, ◌≤◌, ◌<◌, ◌≡◌, ◌⊎◌, ◌≢◌, true, false, get_or}
use Rattle.laws.specs.Range.{any_to, count_to}
use Rattle.laws.specs.Chain.{ends_in}
use Rattle.laws.specs.Sequence.{holds, times_in, holds_each_once, never_falling}
use Rattle.rules.specs.declared.Settings.{Settings}
use Rattle.rules.specs.declared.Setup.{Setup}
use Rattle.rules.specs.declared.Sums.{Sums}
use Rattle.rules.specs.declared.Health.TheVariants.{Live, Dead}
use Rattle.rules.specs.declared.State.{State}
use Rattle.rules.specs.Sizes.{U, sum_limit, max_transports, max_destinations, max_jobs, max_entries, max_length}
use Rattle.rules.specs.State.{at, settings_for, transport_of, health_of, zero_settings, zero_list, list_of, queue_of, is_free, is_waiting, is_busy}
use Rattle.rules.specs.State.{job_of, destination_of, is_present, has_preempted, busy_of, used_of, waiting_of, parent_of}
use Rattle.rules.specs.Setup.{settings_in_range}
use Rattle.rules.specs.Windows.{cohort_bound}
use Rattle.rules.specs.Sound.{busy_on, busy_to, is_job_on, order_of, cost_of}

pub record InRange (u : Setup) : Type 0 where
  pub transports : (1 ≤ u.transports) × (u.transports ≤ max_transports)
  pub destinations : (1 ≤ u.destinations) × (u.destinations ≤ max_destinations)
  pub settings : (t : ℕ) → t < u.transports → settings_in_range (get_or u.settings t zero_settings) ≡ true
  pub home : (d : ℕ) → d < u.destinations → at u.home d < u.transports

-- of a used entry
pub record EntrySound (s : State) (e : ℕ) : Type 0 where
  pub kind : (is_waiting s e ≡ true) ⊎ (is_busy s e ≡ true)
  pub present : is_present s (job_of s e) ≡ true
  pub destination : destination_of s e < s.setup.destinations
  pub transport : at s.jobs.transport (job_of s e) ≡ transport_of s (destination_of s e)

pub record QueueSound (s : State) (t : ℕ) : Type 0 where
  pub count : (get_or s.queues t zero_list).count ≤ max_jobs
  pub once : holds_each_once (is_job_on s t) max_jobs (queue_of s t) ≡ true

pub record ArrivalsSound (s : State) : Type 0 where
  pub count : s.arrivals.count ≤ max_jobs
  pub once : holds_each_once (is_present s) max_jobs (list_of s.arrivals) ≡ true
  pub rising : never_falling (at s.jobs.arrival) (list_of s.arrivals) ≡ true
  pub past : (j : ℕ) → holds j (list_of s.arrivals) ≡ true → at s.jobs.arrival j ≤ s.clock

-- of a job j with the parent p
pub record ChildOf (s : State) (j p : ℕ) : Type 0 where
  pub present : is_present s p ≡ true
  pub transport : at s.jobs.transport p ≡ at s.jobs.transport j
  pub picked : 1 ≤ at s.jobs.picked p
  pub marked : has_preempted s j ≡ true

-- of a present job, but that it has a waiting or busy entry
pub record JobSound (s : State) (j : ℕ) : Type 0 where
  pub adds : waiting_of s j + at s.jobs.picked j + at s.jobs.dropped j ≡ at s.jobs.n j
  pub n : (1 ≤ at s.jobs.n j) × (at s.jobs.n j ≤ max_length)
  pub busy : count_to (busy_of s j) max_entries ≤ at s.jobs.picked j
  pub places : at s.jobs.places j ≤ max_destinations
  pub distinct : (d : ℕ) → holds d (order_of s j) ≡ true → times_in d (order_of s j) ≡ 1
  pub complete : (e : ℕ) → e < max_entries → used_of s j e ≡ true → holds (destination_of s e) (order_of s j) ≡ true
  pub sold : cost_of s j * at s.jobs.sold j ≤ at s.jobs.n j
  pub unsold : cost_of s j ≡ 0 → at s.jobs.sold j ≡ 0
  pub parent : (p : ℕ) → parent_of s j ≡ suc p → ChildOf s j p
  pub ends : ends_in (parent_of s) 32 (parent_of s j) ≡ true
  pub overtakers : at s.jobs.overtakers j ≤ sum_limit
  pub turn : at s.jobs.turn j ≤ at s.jobs.places j

pub record LiveSound (g : Settings) (u : Sums) : Type 0 where
  pub window : (1 ≤ u.window) × (u.window ≤ g.limit)
  pub success : u.success < U
  pub failure : u.failure < U
  pub cohorts : u.cohorts < cohort_bound g

pub record DestinationSound (s : State) (d : ℕ) : Type 0 where
  pub live : (u : Sums) → health_of s d ≡ Live u → LiveSound (settings_for s d) u
  pub dead : (end : ℕ) → health_of s d ≡ Dead end → (e : ℕ) → e < max_entries → is_waiting s e ≡ true → destination_of s e ≡ d → ⊥

-- of a state in which the present jobs have the entries that HasEntry says
pub record SoundWhere (s : State) (HasEntry : ℕ → Type 0) : Type 0 where
  pub setup : InRange s.setup
  pub entries : (e : ℕ) → e < max_entries → is_free s e ≡ false → EntrySound s e
  pub busy_transport : (t : ℕ) → t < s.setup.transports → at s.busy.transport t ≡ count_to (busy_on s t) max_entries
  pub busy_destination : (d : ℕ) → d < s.setup.destinations → at s.busy.destination d ≡ count_to (busy_to s d) max_entries
  pub queues : (t : ℕ) → t < s.setup.transports → QueueSound s t
  pub arrivals : ArrivalsSound s
  pub jobs : (j : ℕ) → j < max_jobs → is_present s j ≡ true → JobSound s j
  pub used : (j : ℕ) → j < max_jobs → is_present s j ≡ true → HasEntry j
  pub destinations : (d : ℕ) → d < s.setup.destinations → DestinationSound s d
  pub turn : s.turn ≤ s.setup.transports

-- "each job has a waiting or busy entry"; in the midst of a report those of one transport may not
abbrev pub Sound : State → Type 0
Sound s = SoundWhere s (λ j. any_to (used_of s j) max_entries ≡ true)

abbrev pub SoundBesides : ℕ → State → Type 0
SoundBesides t s = SoundWhere s (λ j. at s.jobs.transport j ≢ t → any_to (used_of s j) max_entries ≡ true)
