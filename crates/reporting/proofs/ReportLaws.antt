-- What the code of a report asks of a sound state, and that what it builds is the rules' reply.
use Prim.Native.Nat.{ℕ, ◌≤◌, ◌<◌}
use mathlib.Core.Path.{◌≡◌, refl, sym, ◌∙◌, ap, subst, fun_ext}
use mathlib.Core.Bool.{Bool, true, false}
use mathlib.Core.List.{List, [], ◌∷◌}
use native.Mathlib.Omega.{arith}
use native.Mathlib.Decide.{dec_lt}
use lib.ListN.{length, get_or, set, get_or-eq_default}
use borrow.Author.Tests.{eq-eqb}
use Rattle.laws.specs.Range.{table_to}
use Rattle.laws.specs.Sequence.{keep}
use Rattle.laws.proofs.Bools.{and_both, and_left}
use Rattle.laws.proofs.Count.{count_pos_of, count_le_bound}
use Rattle.laws.proofs.Table.{length_table, get_or_table, table_set}
use Rattle.rules.specs.declared.Settings.{Settings}
use Rattle.rules.specs.declared.Sums.{Sums}
use Rattle.rules.specs.declared.Health.{Health}
use Rattle.rules.specs.declared.Health.TheVariants.{Live, Dead}
use Rattle.rules.specs.declared.Destination.{Destination}
use Rattle.rules.specs.declared.JobList.{JobList}
use Rattle.rules.specs.declared.Outcome.{Outcome}
use Rattle.rules.specs.declared.StepAnswer.{StepAnswer}
use Rattle.rules.specs.declared.State.{State}
use Rattle.rules.specs.Sizes.{max_transports, max_destinations, max_jobs, max_entries}
use Rattle.rules.specs.State.{at, settings_for, transport_of, health_of, zero_destination, zero_list, list_of, listed, queue_of, job_of, destination_of, is_present, used_of}
use Rattle.rules.specs.Setup.{settings_in_range}
use Rattle.rules.specs.Sound.{busy_on, busy_to}
use Rattle.rules.specs.Changed.{with_parts, on_present, on_dropped, on_parent, with_kinds}
use Rattle.rules.specs.SoundFacts.{LiveSound, EntrySound, Sound}
use Rattle.rules.specs.Windows.{move_number, stepped, woken}
use Rattle.rules.specs.Reporting.{one_less_busy, reported_step, is_death, is_put_off, put_off_entries, put_off_of, kind_after}
use Rattle.rules.specs.Reporting.{settled, stays, parent_after, departed, reported_at, reporting}
use Rattle.rules.specs.Calls.{Reply, granted, written, reporting_reply}
use Rattle.std.specs.Bool.{then_some}
use Rattle.laws.specs.Bools.{when◌then◌else◌}
use Rattle.laws.specs.Chain.{first_along}
use Rattle.rules.proofs.Shape.{Shaped, present_length, dropped_length, present_below}
use Rattle.rules.proofs.RangeFacts.{sums_fit_of}
use Rattle.rules.proofs.Soundness.{sound_facts}
use Rattle.rules.proofs.EntryTests.{busy_used, waiting_used}
use Rattle.rules.proofs.KeptWaking.{kept_woken}
use Rattle.rules.proofs.Departed.{absent_leaves}
use Rattle.window.specs.Fits.{health_fits}
use Rattle.charging.specs.Links.{leads_inside}
use Rattle.charging.proofs.Leads.{leads_present}
use Rattle.rules.proofs.KeptPreempting.{parent_present}
use Rattle.settling.specs.Settling.{CanPutOff, PutOff}
use Rattle.reporting.proofs.Off.{Off, off_of}
use Rattle.leaving.specs.Leaving.{stays_at, adopted_at}
use Rattle.rules.proofs.Accepted.{ReportAccepted}
use Rattle.reporting.proofs.Stayers.{destination_below}

fits_of : (g : Settings) (h : Health) → ((u : Sums) → h ≡ Live u → LiveSound g u) → health_fits g h ≡ true
unfolding health_fits
fits_of g (Live u) k = sums_fit_of g u (k u refl)
fits_of g (Dead end) k = refl

-- What the code asks.

module _ (s : State) (clock e ticket : ℕ) (list : List ℕ) (shape : Shaped s) (can : ReportAccepted s clock e ticket list) where
  facts : Sound s
  facts = sound_facts s can.whole

  its : EntrySound s e
  its = facts.entries e can.entry (busy_used s e can.busy)

  home : transport_of s (destination_of s e) < s.setup.transports
  home = facts.setup.home (destination_of s e) its.destination

  transport_below : transport_of s (destination_of s e) < max_transports
  transport_below = omega (arith, home, facts.setup.transports)

  busy_transport_lem : 1 ≤ at s.busy.transport (transport_of s (destination_of s e))
  unfolding busy_on
  busy_transport_lem =
      let t = transport_of s (destination_of s e) in
      rw (facts.busy_transport t home) (count_pos_of (busy_on s t) max_entries e can.entry (and_both can.busy (eq-eqb t t refl)))

  busy_destination_lem : 1 ≤ at s.busy.destination (destination_of s e)
  unfolding busy_to
  busy_destination_lem =
      rw (facts.busy_destination (destination_of s e) its.destination)
      (count_pos_of (busy_to s (destination_of s e)) max_entries e can.entry (and_both can.busy (eq-eqb (destination_of s e) (destination_of s e) refl)))

  busy_few_lem : at s.busy.destination (destination_of s e) ≤ 512
  busy_few_lem = rw (facts.busy_destination (destination_of s e) its.destination) (count_le_bound (busy_to s (destination_of s e)) max_entries)

  pub step_asks : {ds : List Destination} → ds ≡ (woken s clock).destinations
      → (settings_in_range (settings_for s (destination_of s e)) ≡ true) × (health_fits (settings_for s (destination_of s e)) (get_or ds (destination_of s e) zero_destination).health ≡ true)
      × (at s.busy.destination (destination_of s e) ≤ 512) × (clock ≤ 4294967295)
  unfolding woken
  step_asks was =
      let d = destination_of s e in
      let live = ((kept_woken s clock shape facts can.clock.later).1.destinations d its.destination).live in
      (facts.setup.settings (transport_of s d) home, rw was (fits_of (settings_for s d) (health_of (woken s clock) d) live), busy_few_lem, can.clock.early)

  pub put_off_asks : CanPutOff s.entries.kind s.entries.job s.jobs.dropped list
  put_off_asks = record {
    entries = shape.entries.kind;
    jobs = dropped_length shape.jobs;
    places = can.lent;
    theirs = λ i k w. present_below s shape (job_of s i) (waiting i k w).present;
    few = λ i k w.
        let p = (waiting i k w).present in
        let j = facts.jobs (job_of s i) (present_below s shape (job_of s i) p) p in
        omega (arith, j.adds, j.n);
  }
    where
      waiting : (i : ℕ) → i < max_entries → at s.entries.kind i ≡ 1 → EntrySound s i
      waiting i k w = facts.entries i k (waiting_used s i (eq-eqb (at s.entries.kind i) 1 w))

  job_below : job_of s e < max_jobs
  job_below = present_below s shape (job_of s e) its.present

  pub adopt_asks : (kind : List ℕ) {stay : List Bool} → stay ≡ table_to (stays_at kind s.entries.job s.jobs.present 512) 32
      → (j : ℕ) → j < 32 → get_or stay j false ≡ true → leads_inside (at s.jobs.parent) 32 (at s.jobs.parent j) ≡ true
  adopt_asks kind was j l h =
      let p : is_present s j ≡ true = and_left _ _ (sym (ap (λ t. get_or t j false) was ∙ get_or_table (stays_at kind s.entries.job s.jobs.present 512) 32 j false l) ∙ h) in
      leads_present s shape facts 32 (at s.jobs.parent j) (λ x q. parent_present s shape facts j x p q)

  queue_few : (get_or s.queues (transport_of s (destination_of s e)) zero_list).count ≤ 32
  queue_few = (facts.queues (transport_of s (destination_of s e)) home).count

  arrivals_few : s.arrivals.count ≤ 32
  arrivals_few = facts.arrivals.count

-- all of that, by name
pub record ReportAsks (s : State) (e : ℕ) : Type 0 where
  pub whole : Sound s
  pub destination : destination_of s e < max_destinations
  pub transport : transport_of s (destination_of s e) < max_transports
  pub busy_transport : 1 ≤ at s.busy.transport (transport_of s (destination_of s e))
  pub busy_destination : 1 ≤ at s.busy.destination (destination_of s e)
  pub few : at s.busy.destination (destination_of s e) ≤ 512
  pub job : job_of s e < max_jobs
  pub queue : (get_or s.queues (transport_of s (destination_of s e)) zero_list).count ≤ 32
  pub arrivals : s.arrivals.count ≤ 32

pub report_asks : (s : State) (clock e ticket : ℕ) (list : List ℕ) → Shaped s → ReportAccepted s clock e ticket list → ReportAsks s e
report_asks s clock e ticket list shape can = record {
  whole = facts s clock e ticket list shape can;
  destination = destination_below s clock e ticket list can;
  transport = transport_below s clock e ticket list shape can;
  busy_transport = busy_transport_lem s clock e ticket list shape can;
  busy_destination = busy_destination_lem s clock e ticket list shape can;
  few = busy_few_lem s clock e ticket list shape can;
  job = job_below s clock e ticket list shape can;
  queue = queue_few s clock e ticket list shape can;
  arrivals = arrivals_few s clock e ticket list shape can;
}

-- What it builds.

module _ (s : State) (clock e : ℕ) (outcome : Outcome) (shape : Shaped s) where
  abbrev step' : StepAnswer
  step' = reported_step (woken s clock) clock (destination_of s e) outcome

  abbrev died' : Bool
  died' = is_death step'.moved

  abbrev Left : State
  Left = settled (woken s clock) e (destination_of s e) step'.health died'

  -- the step of the destination from a health
  abbrev from_health : Health → StepAnswer
  from_health = stepped (settings_for s (destination_of s e)) (at s.busy.destination (destination_of s e)) clock outcome

  -- a table of who stays says so of every number
  reads : (λ j. get_or (table_to (stays Left) 32) j false) ≡ stays Left
  unfolding settled woken
  reads = fun_ext λ j. elim (dec_lt j 32) [
    | yes p ↦ get_or_table (stays Left) 32 j false p
    | no p ↦
        get_or-eq_default (table_to (stays Left) 32) false {n = j} (omega (arith, length_table (stays Left) 32))
        ∙ sym (absent_leaves Left j (get_or-eq_default s.jobs.present false {n = j} (omega (arith, present_length shape.jobs))))
  ]

  module _ {list : List ℕ} {ds : List Destination} {step : StepAnswer} {died : Bool} {kind freed dropped written' : List ℕ} {n : ℕ} {stay : List Bool}
      {adopted : List ℕ} {queue arrivals : JobList}
      (woke : ds ≡ (woken s clock).destinations)
      (answered : step ≡ from_health (get_or ds (destination_of s e) zero_destination).health)
      (dying : died ≡ is_death step.moved)
      (put : PutOff (then_some died (destination_of s e)) s.entries.kind s.entries.job s.entries.destination s.jobs.dropped list kind dropped written' n)
      (free : freed ≡ set kind e 0)
      (stayed : stay ≡ table_to (stays_at freed s.entries.job s.jobs.present 512) 32)
      (linked : adopted ≡ table_to (adopted_at stay s.jobs.parent) 32)
      (queued : queue ≡ listed (keep (λ j. get_or stay j false) (queue_of s (transport_of s (destination_of s e)))))
      (arrived : arrivals ≡ listed (keep (λ j. get_or stay j false) (list_of s.arrivals))) where
    step_is : step ≡ step'
    unfolding woken
    step_is = answered ∙ ap (λ l. from_health (get_or l (destination_of s e) zero_destination).health) woke

    died_is : died ≡ died'
    died_is = dying ∙ ap (λ x. is_death x.moved) step_is

    was : Off died' (destination_of s e) s.entries.kind s.entries.job s.entries.destination s.jobs.dropped list kind dropped written' n
    was =
        let own = off_of died (destination_of s e) s.entries.kind s.entries.job s.entries.destination s.jobs.dropped list kind dropped written' n put in
        subst (λ b. Off b (destination_of s e) s.entries.kind s.entries.job s.entries.destination s.jobs.dropped list kind dropped written' n) died_is own

    kind_is : freed ≡ Left.entries.kind
    unfolding settled kind_after is_put_off woken
    kind_is = free ∙ ap (λ l. set l e 0) was.kinds ∙ table_set _ max_entries e 0

    dropped_is : dropped ≡ Left.jobs.dropped
    unfolding settled put_off_of is_put_off woken
    dropped_is = was.counts

    stay_is : stay ≡ table_to (stays Left) 32
    unfolding stays used_of settled woken
    stay_is = stayed ∙ ap (λ l. table_to (stays_at l s.entries.job s.jobs.present 512) 32) kind_is

    stay_reads : (λ j. get_or stay j false) ≡ stays Left
    stay_reads = ap (λ (l : List Bool). λ (j : ℕ). get_or l j false) stay_is ∙ reads

    adopted_is : adopted ≡ table_to (parent_after Left) 32
    unfolding parent_after settled woken
    adopted_is = linked ∙ ap (λ (p : ℕ → Bool). table_to (λ j. when p j then first_along p (at s.jobs.parent) max_jobs (at s.jobs.parent j) else at s.jobs.parent j) 32) stay_reads

    queue_is : queue ≡ listed (keep (stays Left) (queue_of s (transport_of s (destination_of s e))))
    queue_is = queued ∙ ap (λ (p : ℕ → Bool). listed (keep p (queue_of s (transport_of s (destination_of s e))))) stay_reads

    arrivals_is : arrivals ≡ listed (keep (stays Left) (list_of s.arrivals))
    arrivals_is = arrived ∙ ap (λ (p : ℕ → Bool). listed (keep p (list_of s.arrivals))) stay_reads

    list_is : written' ≡ written (put_off_entries (woken s clock) died' (destination_of s e)) list
    unfolding put_off_entries is_put_off woken
    list_is = was.listed

    number_is : n ≡ length (put_off_entries (woken s clock) died' (destination_of s e))
    unfolding put_off_entries is_put_off woken
    number_is = was.number

    pub report_is : ◌≡◌ {A = Reply} (record {
      says = granted (n ∷ move_number step.moved ∷ []);
      state =
          with_parts s clock s.ticket s.turn (set ds (destination_of s e) (record { health = step.health }))
          (one_less_busy s.busy (transport_of s (destination_of s e)) (destination_of s e)) (set s.queues (transport_of s (destination_of s e)) queue) arrivals
          (on_present (λ l. stay) (on_parent (λ l. adopted) (on_dropped (λ l. dropped) s.jobs)))
          (with_kinds s.entries freed s.entries.ticket);
      buffer = written';
    }) (reporting_reply (reporting (woken s clock) clock e (destination_of s e) outcome) list)
    unfolding reporting_reply reporting reported_at departed settled woken
    report_is = rw (number_is, list_is, woke, step_is, queue_is, arrivals_is, dropped_is, stay_is, adopted_is, kind_is) refl
