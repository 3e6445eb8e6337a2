-- What a report does to destinations, jobs, lists and parents, in the terms of the state before it.
use Prim.Native.Nat.{ℕ, ◌+◌, ◌≤◌, ◌<◌}
use mathlib.Core.Path.{◌≡◌, refl, sym, ◌∙◌, ap, fun_ext}
use mathlib.Core.Logic.{◌≢◌}
use mathlib.Core.Bool.{Bool, true, false}
use mathlib.Core.List.{List, map}
use native.Mathlib.Omega.{arith}
use lib.ListN.{length}
use Rattle.laws.specs.Sequence.{keep, times_in}
use Rattle.laws.proofs.Keep.{keep_same}
use Rattle.laws.proofs.ChosenTimes.{times_chosen}
use Rattle.laws.proofs.Table.{length_table}
use Rattle.rules.specs.declared.Health.{Health}
use Rattle.rules.specs.declared.Outcome.{Outcome}
use Rattle.rules.specs.declared.StepAnswer.{StepAnswer}
use Rattle.rules.specs.declared.State.{State}
use Rattle.rules.specs.Sizes.{max_transports, max_destinations, max_entries}
use Rattle.rules.specs.State.{at, settings_for, health_of, transport_of, queue_of, is_busy, is_present, job_of, destination_of, waits_of, waiting_of, parent_of}
use Rattle.rules.specs.SoundFacts.{Sound, SoundBesides}
use Rattle.rules.specs.Windows.{move_number, stepped, woken_at, woken}
use Rattle.rules.specs.Reporting.{reported_step, is_death, is_put_off, put_off_entries, put_off_of, settled, stays, nearest_staying, departed, reported_at, reporting}
use Rattle.rules.specs.Refusals.{report_refusal}
use Rattle.rules.specs.Calls.{report, reporting_reply, report_reply}
use Rattle.rules.proofs.Shape.{Shaped}
use Rattle.rules.proofs.EntryTests.{busy_used}
use Rattle.rules.proofs.Soundness.{sound_facts}
use Rattle.rules.proofs.Accepted.{report_accepted}
use Rattle.rules.proofs.Replies.{reply_accepted}
use Rattle.rules.proofs.Settled.{settled_waiting}
use Rattle.rules.proofs.SettledCounts.{reported_entry, reported_transport}
use Rattle.rules.proofs.KeptSettling.{shaped_settled, settled_health, settled_health_other, sound_settled}
use Rattle.rules.proofs.Departed.{stays_present, leaves_waiting, departed_present, departed_parent_stays}
use Rattle.rules.proofs.Departed.{departed_queues}
use Rattle.rules.proofs.KeptReporting.{stepped_of}

-- the destination's health after a report of entry e, and whether it died
abbrev pub health_by : State → ℕ → ℕ → Outcome → Health
health_by w now e outcome = (reported_step w now (destination_of w e) outcome).health

abbrev pub died_by : State → ℕ → ℕ → Outcome → Bool
died_by w now e outcome = is_death (reported_step w now (destination_of w e) outcome).moved

-- the state before anybody leaves
abbrev pub settled_by : State → ℕ → ℕ → Outcome → State
settled_by w now e outcome = settled w e (destination_of w e) (health_by w now e outcome) (died_by w now e outcome)

-- the state after the report
abbrev pub reported_by : State → ℕ → ℕ → Outcome → State
reported_by w now e outcome = (reporting w now e (destination_of w e) outcome).state

-- what a report leaves alone
pub record ReportLeaves (w r : State) : Type 0 where
  pub setup : r.setup ≡ w.setup
  pub clock : r.clock ≡ w.clock
  pub ticket : r.ticket ≡ w.ticket
  pub turn : r.turn ≡ w.turn
  pub transport : r.jobs.transport ≡ w.jobs.transport
  pub n : r.jobs.n ≡ w.jobs.n
  pub picked : r.jobs.picked ≡ w.jobs.picked
  pub sold : r.jobs.sold ≡ w.jobs.sold
  pub preempted : r.jobs.preempted ≡ w.jobs.preempted
  pub arrival : r.jobs.arrival ≡ w.jobs.arrival
  pub overtakers : r.jobs.overtakers ≡ w.jobs.overtakers
  pub job_turn : r.jobs.turn ≡ w.jobs.turn
  pub places : r.jobs.places ≡ w.jobs.places
  pub order : r.jobs.order ≡ w.jobs.order
  pub job : r.entries.job ≡ w.entries.job
  pub destination : r.entries.destination ≡ w.entries.destination
  pub entry_ticket : r.entries.ticket ≡ w.entries.ticket

pub report_leaves : (w : State) (now e : ℕ) (outcome : Outcome) → ReportLeaves w (reported_by w now e outcome)
unfolding reporting reported_at departed settled
report_leaves w now e outcome =
    record {
      setup = refl;
      clock = refl;
      ticket = refl;
      turn = refl;
      transport = refl;
      n = refl;
      picked = refl;
      sold = refl;
      preempted = refl;
      arrival = refl;
      overtakers = refl;
      job_turn = refl;
      places = refl;
      order = refl;
      job = refl;
      destination = refl;
      entry_ticket = refl;
    }

reported_waiting_settled : (w : State) (now e : ℕ) (outcome : Outcome) (j : ℕ) → waiting_of (reported_by w now e outcome) j ≡ waiting_of (settled_by w now e outcome) j
unfolding reporting reported_at departed waiting_of waits_of
reported_waiting_settled w now e outcome j = refl

-- Destinations, in any state whatever.

module _ (w : State) (now e : ℕ) (outcome : Outcome) where
  reported_health : destination_of w e < length w.destinations → health_of (reported_by w now e outcome) (destination_of w e) ≡ health_by w now e outcome
  unfolding reporting reported_at departed
  reported_health = settled_health w e (health_by w now e outcome) (died_by w now e outcome)

  reported_health_other : (d : ℕ) → d ≢ destination_of w e → health_of (reported_by w now e outcome) d ≡ health_of w d
  unfolding reporting reported_at departed
  reported_health_other = settled_health_other w e (health_by w now e outcome) (died_by w now e outcome)

-- After an accepted report, in the terms of the state before it: the reported one has taken its step after waking, the others have woken.

abbrev pub step_of : State → ℕ → ℕ → Outcome → StepAnswer
step_of s now e outcome =
    let d = destination_of s e in
    stepped (settings_for s d) (at s.busy.destination d) now outcome (health_of (woken s now) d)

module _ (s : State) (now e ticket : ℕ) (outcome : Outcome) (list : List ℕ) (accept : report_refusal s now e ticket list ≡ 0) where
  reported_inside : destination_of s e < s.setup.destinations
  reported_inside =
      let p = report_accepted s now e ticket list accept in
      ((sound_facts s p.whole).entries e p.entry (busy_used s e p.busy)).destination

  given : report_reply s now e ticket outcome list ≡ reporting_reply (reporting (woken s now) now e (destination_of s e) outcome) list
  given = sym (reply_accepted s (report now e ticket outcome list) _ accept refl)

  given_back : (report_reply s now e ticket outcome list).state ≡ reported_by (woken s now) now e outcome
  unfolding reporting_reply woken
  given_back = ap (λ x. x.state) given

  pub report_health : health_of (report_reply s now e ticket outcome list).state (destination_of s e) ≡ (step_of s now e outcome).health
  unfolding woken
  report_health =
      ap (λ x. health_of x (destination_of s e)) given_back
      ∙ reported_health (woken s now) now e outcome
      (rw (length_table (woken_at s.destinations s.setup now) max_destinations)
      (omega (arith, reported_inside, (sound_facts s (report_accepted s now e ticket list accept).whole).setup.destinations.1)))

  -- its first value is how many were put off, its second tells why the number moved
  pub report_count : at (report_reply s now e ticket outcome list).says.values 0
      ≡ length (put_off_entries (woken s now) (is_death (step_of s now e outcome).moved) (destination_of s e))
  unfolding reporting_reply reporting reported_at woken
  report_count = ap (λ x. at x.says.values 0) given

  pub report_moved : at (report_reply s now e ticket outcome list).says.values 1 ≡ move_number (step_of s now e outcome).moved
  unfolding reporting_reply reporting reported_at woken
  report_moved = ap (λ x. at x.says.values 1) given

  pub report_health_other : (d : ℕ) → d ≢ destination_of s e → health_of (report_reply s now e ticket outcome list).state d ≡ health_of (woken s now) d
  unfolding woken
  report_health_other d ne = ap (λ x. health_of x d) given_back ∙ reported_health_other (woken s now) now e outcome d ne

module _ (w : State) (now e : ℕ) (outcome : Outcome) (shaped : Shaped w) (sound : Sound w) (inside : e < max_entries) (busy : is_busy w e ≡ true) where
  besides : SoundBesides (transport_of w (destination_of w e)) (settled_by w now e outcome)
  besides =
      sound_settled w e (health_by w now e outcome) (died_by w now e outcome) shaped sound inside busy
      (stepped_of w now (destination_of w e) sound (reported_entry w e (health_by w now e outcome) (died_by w now e outcome) shaped sound inside busy).destination outcome)

  settled_shape : Shaped (settled_by w now e outcome)
  settled_shape = shaped_settled w e (health_by w now e outcome) (died_by w now e outcome) shaped sound inside busy

  -- Waiting entries.

  -- what waited is put off or waits still
  pub reported_waiting : (j : ℕ) → waiting_of w j ≡ put_off_of w (died_by w now e outcome) (destination_of w e) j + waiting_of (reported_by w now e outcome) j
  reported_waiting j =
      settled_waiting w e (health_by w now e outcome) (died_by w now e outcome) shaped sound inside busy j
      ∙ ap (λ k. put_off_of w (died_by w now e outcome) (destination_of w e) j + k) (sym (reported_waiting_settled w now e outcome j))

  pub reported_waiting_le : (j : ℕ) → waiting_of (reported_by w now e outcome) j ≤ waiting_of w j
  reported_waiting_le j = omega (arith, reported_waiting j)

  -- Who stays.

  pub reported_present : (j : ℕ) → is_present (reported_by w now e outcome) j ≡ stays (settled_by w now e outcome) j
  unfolding reporting reported_at
  reported_present j = departed_present (settled_by w now e outcome) (transport_of w (destination_of w e)) settled_shape j

  settled_present : (j : ℕ) → is_present (settled_by w now e outcome) j ≡ is_present w j
  unfolding settled
  settled_present j = refl

  pub reported_was_present : (j : ℕ) → is_present (reported_by w now e outcome) j ≡ true → is_present w j ≡ true
  reported_was_present j h = sym (settled_present j) ∙ stays_present (settled_by w now e outcome) j (sym (reported_present j) ∙ h)

  -- a job that leaves has nothing waiting
  pub left_waiting : (j : ℕ) → is_present w j ≡ true → is_present (reported_by w now e outcome) j ≡ false → waiting_of (reported_by w now e outcome) j ≡ 0
  left_waiting j p f =
      reported_waiting_settled w now e outcome j ∙ leaves_waiting (settled_by w now e outcome) j (settled_present j ∙ p) (sym (reported_present j) ∙ f)

  -- Lists.

  settled_queues : (u : ℕ) → queue_of (settled_by w now e outcome) u ≡ queue_of w u
  unfolding settled
  settled_queues u = refl

  settled_transports : (settled_by w now e outcome).setup.transports ≡ w.setup.transports
  unfolding settled
  settled_transports = refl

  below_four : transport_of w (destination_of w e) < max_transports
  below_four =
      let l = reported_transport w e (health_by w now e outcome) (died_by w now e outcome) shaped sound inside busy in
      let b = sound.setup.transports.1 in
      omega arith

  pub reported_queue : (u : ℕ) → u < w.setup.transports → queue_of (reported_by w now e outcome) u ≡ keep (is_present (reported_by w now e outcome)) (queue_of w u)
  unfolding reporting reported_at
  reported_queue u l =
      departed_queues (settled_by w now e outcome) (transport_of w (destination_of w e)) settled_shape below_four besides.used u (besides.queues u (rw settled_transports l))
      ∙ keep_same (stays (settled_by w now e outcome)) (is_present (reported_by w now e outcome)) (queue_of (settled_by w now e outcome) u) (λ x h. sym (reported_present x))
      ∙ ap (keep (is_present (reported_by w now e outcome))) (settled_queues u)

  -- Parents.

  pub stays_are_present : stays (settled_by w now e outcome) ≡ is_present (reported_by w now e outcome)
  stays_are_present = fun_ext λ j. sym (reported_present j)

  -- a job that stays goes to the nearest ancestor that stays
  pub reported_parent : (j : ℕ) → is_present (reported_by w now e outcome) j ≡ true → parent_of (reported_by w now e outcome) j ≡ nearest_staying (settled_by w now e outcome) j
  unfolding reporting reported_at
  reported_parent j h = departed_parent_stays (settled_by w now e outcome) (transport_of w (destination_of w e)) settled_shape j (sym (reported_present j) ∙ h)

-- the put-off list, and how many of its entries are a job's
pub reported_putoff : (w : State) (now e : ℕ) (outcome : Outcome) → (reporting w now e (destination_of w e) outcome).putoff ≡ put_off_entries w (died_by w now e outcome) (destination_of w e)
unfolding reporting reported_at
reported_putoff w now e outcome = refl

pub putoff_times : (w : State) (died : Bool) (d j : ℕ) → times_in j (map (job_of w) (put_off_entries w died d)) ≡ put_off_of w died d j
unfolding put_off_entries put_off_of
putoff_times w died d j = times_chosen (job_of w) (is_put_off w died d) j max_entries
