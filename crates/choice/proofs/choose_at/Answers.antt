-- `choice::choose` meets its contract: the leaf functions read what the rules read (eligibility/proofs/Pairs.antt, proofs/Readings.antt), and proofs/Chosen.antt puts it together. Assumes nothing.
use Rattle.std.proofs.Common.{ℕ, ◌≡◌, ◌*◌, ◌≤◌, ◌<◌, refl, sym, ◌∙◌, ap, true, get_or, ltb-true, arith}
use mathlib.Core.Path.{subst}
use native.Mathlib.Nat.{lt_of_lt_of_le}
use Rattle.laws.specs.Range.{any_to, first_to}
use Rattle.laws.proofs.First.{first_any}
use Rattle.rules.specs.SoundFacts.{Sound}
use Rattle.rules.specs.State.{at, zero_settings, settings_of, is_present, order_at}
use Rattle.rules.specs.Picking.{eligible_to, has_eligible, next_place}
use Rattle.rules.specs.Preemption.{preemptor_of}
use Rattle.rules.specs.Setup.{settings_in_range}
use Rattle.rules.proofs.Shape.{Shaped}
use Rattle.rules.proofs.RangeFacts.{slots_range}
use Rattle.eligibility.specs.Eligibility.{ready_in, Reads, waits_for, open_place}
use Rattle.eligibility.proofs.Lefts.{left_is, fits_left}
use Rattle.eligibility.proofs.Pairs.{pairs_read, place_open, first_read}
use Rattle.eligibility.proofs.FirstBelow.{below_is, below_found}
use Rattle.searching.proofs.Arrivals.{arrived_read}
use Rattle.preemption.specs.Preempting.{preemptor_at}
use Rattle.choice.specs.Choosing.{picked_from}
use Rattle.choice.proofs.Readings.{TurnRead, adds_read, turn_read, not_found, next_open, place_found, placed_read, entry_read}
use Rattle.choice.proofs.Chosen.{sold_read, job_read, nothing_chosen, all_chosen}
use Rattle.choice.proofs.choose_at.Goals as goal
use Rattle.choice.proofs.choose_at.Goals.{After-left_waiting-waits, After-picked_from-job, After-first_waiting, After-from, In_ok-transport, In_ok-place, Start}

-- The state is sound, and one that came in has its shape.
right : (c : After-left_waiting-waits) → Sound c.args.w.now
right c = c.requires.given.0

shape : (c : Start) → Shaped c.args.w.now
shape c = c.requires.shape

formed : (c : After-left_waiting-waits) → Shaped c.args.w.now
formed c = shape (goal.at.After-left_waiting-waits c).Start

tables : (c : After-left_waiting-waits) → Reads c.args.w.now c.left_waiting-waits.result (ready_in c.args.pairs.now c.open_table-room.result)
tables c =
    pairs_read c.args.w.now (formed c) (right c) c.open_table-room.result c.open_table-room.ensures c.args.pairs.now c.requires.given.3 c.left_waiting-waits.result
    (left_is c.args.w.now.jobs c.args.w.now.entries.kind c.args.w.now.entries.job (adds_read c.args.w.now (formed c) (right c)) c.left_waiting-waits.result c.left_waiting-waits.ensures.jobs c.left_waiting-waits.ensures.others)

turned : (c : In_ok-transport) → TurnRead c.args.w.now c.in_ok-transport.field-0.transport c.in_ok-transport.field-0.job c.in_ok-transport.field-0.passed
turned c =
    let w = (goal.at.In_ok-transport c).After-left_waiting-waits in
    turn_read c.args.w.now (formed w) (right w) c.left_waiting-waits.result (ready_in c.args.pairs.now c.open_table-room.result) (tables w)
    c.in_ok-transport.field-0.transport c.in_ok-transport.field-0.job c.in_ok-transport.field-0.passed c.in_ok-transport.ensures

-- the settings of the transport, as the code reads them
settings-at : (c : After-from) → settings_of c.args.w.now c.in_ok-transport.field-0.transport ≡ get_or c.args.w.now.setup.settings c.from.result zero_settings
settings-at c = ap (λ x. get_or c.args.w.now.setup.settings x zero_settings) (sym c.from.ensures)

preempted : (c : After-picked_from-job)
    → c.find_preemptor-preemptor.result ≡ preemptor_at c.args.w.now (preemptor_of c.args.w.now c.args.now c.in_ok-transport.field-0.transport c.in_ok-transport.field-0.job)
preempted c =
    let here = goal.at.After-picked_from-job c in
    c.find_preemptor-preemptor.ensures.preempts c.args.w.now refl refl (settings-at here.After-from) (tables here.After-left_waiting-waits)

job-found : (c : After-picked_from-job) → (c.picked_from-job.result < 32) × (is_present c.args.w.now c.picked_from-job.result ≡ true) × (has_eligible c.args.w.now c.picked_from-job.result ≡ true)
job-found c =
    let here = goal.at.After-picked_from-job c in
    let w = here.After-left_waiting-waits in
    let r = turned here.In_ok-transport in
    job_read c.args.w.now (formed w) (right w) c.args.now c.in_ok-transport.field-0.transport c.in_ok-transport.field-0.job _ c.picked_from-job.result r.transport.below r.is refl
    (c.picked_from-job.ensures ∙ ap (picked_from c.in_ok-transport.field-0.job) (preempted c))

-- an entry of the job waits at each place of its order that is open
asked : (c : After-picked_from-job) (k : ℕ) → open_place c.args.w.now.jobs.order c.args.pairs.now c.open_table-room.result c.picked_from-job.result k
    ≡ any_to (eligible_to c.args.w.now c.picked_from-job.result (order_at c.args.w.now c.picked_from-job.result k)) 512
asked c k =
    let w = (goal.at.After-picked_from-job c).After-left_waiting-waits in
    place_open c.args.w.now (formed w) (right w) c.open_table-room.result c.open_table-room.ensures c.args.pairs.now c.requires.given.3 c.picked_from-job.result k (job-found c).0

-- the place and the destination that the turn is at
place_at : (c : In_ok-place)
    → (c.in_ok-place.field-0.place ≡ next_place c.args.w.now c.picked_from-job.result) × (c.in_ok-place.field-0.destination ≡ order_at c.args.w.now c.picked_from-job.result (next_place c.args.w.now c.picked_from-job.result))
place_at c =
    let here = goal.at.In_ok-place c in
    let w = here.After-left_waiting-waits in
    let j = job-found here.After-picked_from-job in
    placed_read c.args.w.now (formed w) (right w) c.picked_from-job.result j.0 j.1 j.2 c.args.pairs.now c.open_table-room.result (asked here.After-picked_from-job)
    c.in_ok-place.field-0.place c.in_ok-place.field-0.destination c.in_ok-place.ensures

-- an entry waits for that destination: the first that waits is the first that is eligible
some_entry : (c : In_ok-place) → any_to (eligible_to c.args.w.now c.picked_from-job.result c.in_ok-place.field-0.destination) 512 ≡ true
some_entry c =
    let here = goal.at.In_ok-place c in
    let w = here.After-left_waiting-waits in
    let j = job-found here.After-picked_from-job in
    subst (λ d. any_to (eligible_to c.args.w.now c.picked_from-job.result d) 512 ≡ true) (sym (place_at c).1) (next_open c.args.w.now (formed w) (right w) c.picked_from-job.result j.0 j.1 j.2)

first_is : (c : In_ok-place)
    → first_to (waits_for c.args.w.now.entries.kind c.args.w.now.entries.job c.args.w.now.entries.destination c.picked_from-job.result c.in_ok-place.field-0.destination) 512
    ≡ first_to (eligible_to c.args.w.now c.picked_from-job.result c.in_ok-place.field-0.destination) 512
first_is c =
    let w = (goal.at.In_ok-place c).After-left_waiting-waits in
    first_read c.args.w.now (formed w) (right w) c.open_table-room.result c.open_table-room.ensures c.args.pairs.now c.requires.given.3 c.picked_from-job.result c.in_ok-place.field-0.destination (some_entry c)

pub open_table-room-requires : goal.open_table-room-requires
open_table-room-requires c = c.requires.given.0.setup

pub left_waiting-waits-requires : goal.left_waiting-waits-requires
left_waiting-waits-requires c =
    fits_left c.args.w.now.jobs c.args.w.now.entries.kind c.args.w.now.entries.job (adds_read c.args.w.now (shape (goal.at.left_waiting-waits-requires c).Start) c.requires.given.0)

pub next_transport-requires : goal.next_transport-requires
next_transport-requires c =
    let w = (goal.at.next_transport-requires c).After-left_waiting-waits in
    let h = right w in (
      h.setup.transports.0,
      h.setup.transports.1,
      h.turn,
      (formed w).queues,
      λ k l. ((h.queues k l).count, (formed w).queue k (lt_of_lt_of_le l h.setup.transports.1)),
    )

pub returns-in_err-transport : goal.returns-in_err-transport
returns-in_err-transport c =
    let w = (goal.at.returns-in_err-transport c).After-left_waiting-waits in
    c.from_residual.ensures
    ∙ nothing_chosen c.args.w.now c.args.now
    (not_found c.args.w.now (formed w) (right w) c.left_waiting-waits.result (ready_in c.args.pairs.now c.open_table-room.result) (tables w) c.in_err-transport.ensures)

pub bounds-w-from : goal.bounds-w-from
bounds-w-from c =
    let here = goal.at.bounds-w-from c in
    let below = (turned here.In_ok-transport).transport.below in
    omega (arith, c.from.ensures, below, (right here.After-left_waiting-waits).setup.transports.1)

pub find_preemptor-preemptor-requires : goal.find_preemptor-preemptor-requires
find_preemptor-preemptor-requires c =
    let here = goal.at.find_preemptor-preemptor-requires c in
    let w = here.After-left_waiting-waits in
    let h = right w in
    let r = turned here.In_ok-transport in
    let e = settings-at here.After-from in
    let g = slots_range (get_or c.args.w.now.setup.settings c.from.result zero_settings)
    (subst (λ x. settings_in_range x ≡ true) e (h.setup.settings c.in_ok-transport.field-0.transport r.transport.below)) in
    record {
      list = (c.requires.given.2, h.arrivals.count, (formed w).arrivals, arrived_read c.args.w.now (formed w) h c.args.now c.requires.given.1);
      slots = (
        r.is.below,
        g.dear,
        g.minimum,
        g.loan,
        g.discount,
        subst (λ x. x.cost * at c.args.w.now.jobs.sold c.in_ok-transport.field-0.job ≤ 256) e (sold_read c.args.w.now (formed w) h c.in_ok-transport.field-0.transport c.in_ok-transport.field-0.job r.is),
      );
    }

pub next_place-requires : goal.next_place-requires
next_place-requires c =
    let here = goal.at.next_place-requires c in
    let j = job-found here.After-picked_from-job in
    let s = (right here.After-left_waiting-waits).jobs c.picked_from-job.result j.0 j.1 in
    (j.0, s.places, s.turn)

pub returns-in_err-place : goal.returns-in_err-place
returns-in_err-place c =
    let here = goal.at.returns-in_err-place c in
    let w = here.After-left_waiting-waits in
    let j = job-found here.After-picked_from-job in
    let found = place_found c.args.w.now (formed w) (right w) c.picked_from-job.result j.0 j.1 j.2 c.args.pairs.now c.open_table-room.result (asked here.After-picked_from-job) in
    absurd (omega (arith, found, c.in_err-place.ensures))

pub returns-in_err-entry : goal.returns-in_err-entry
returns-in_err-entry c =
    let here = (goal.at.returns-in_err-entry c).In_ok-place in
    let p = eligible_to c.args.w.now c.picked_from-job.result c.in_ok-place.field-0.destination in
    let found = ltb-true _ _ (first_any p 512 ∙ some_entry here) in
    absurd (below_found _ 512 (sym c.in_err-entry.was ∙ c.first_waiting.ensures) (rw (first_is here) found))

pub returns : goal.returns
returns c =
    let here = goal.at.returns c in
    let w = here.After-left_waiting-waits in
    let r = turned here.In_ok-transport in
    let j = job-found here.After-picked_from-job in
    let place = place_at here.In_ok-place in
    let entry = entry_read c.args.w.now (formed w) (right w) c.picked_from-job.result j.0 j.1 j.2 c.in_ok-place.field-0.destination c.in_ok-entry.entry place.1
    (below_is _ 512 _ (sym c.in_ok-entry.was ∙ c.first_waiting.ensures) ∙ first_is here.In_ok-place) in
    all_chosen c.args.w.now c.args.now
    (record {
      transport = c.in_ok-transport.field-0.transport;
      current = c.in_ok-transport.field-0.job;
      passed = c.in_ok-transport.field-0.passed;
      preemptor = c.find_preemptor-preemptor.result;
      job = c.picked_from-job.result;
      place = c.in_ok-place.field-0.place;
      entry = c.in_ok-entry.entry;
    })
    r.finds r.on r.current r.ahead (preempted here.After-picked_from-job) c.picked_from-job.ensures place.0 entry
