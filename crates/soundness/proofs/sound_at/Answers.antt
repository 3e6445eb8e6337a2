-- `soundness::sound_at` meets its contract: each false answer contradicts a fact of a sound state; where all parts are right, the last part
-- decides. The table is that of the pass over the entries.
use native.Mathlib.Omega.{arith}
use mathlib.Core.Path.{◌≡◌, refl, sym, ap, ◌∙◌}
use Prim.Native.Nat.{◌≤◌}
use mathlib.Core.Bool.{true, false, not}
use lib.ListN.{length, get_or-replicate}
use lib.Dec.{eqb}
use Rattle.std.specs.Option.{is_some}
use Rattle.laws.specs.Range.{all_to}
use Rattle.laws.proofs.Bools.{true_not_false, false_of}
use Rattle.listing.proofs.ListLaws.{listed_below}
use Rattle.rules.specs.State.{at}
use Rattle.rules.specs.Setup.{setup_in_range}
use Rattle.rules.specs.Sound.{sound}
use Rattle.counting.proofs.EntryLaws.{counts_within}
use Rattle.rules.proofs.Shape.{Shaped}
use Rattle.rules.proofs.RangeFacts.{home_below}
use Rattle.clauses.proofs.Ranges.{transports_few, destinations_few}
use Rattle.soundness.proofs.Counted.{few, sum_small}
use Rattle.soundness.proofs.Agreeing.{differ_is}
use Rattle.soundness.proofs.PartsOfSound.{empty, answers_no, part_range, part_turn, part_orders, part_entries, part_on, part_to, part_jobs, part_queues, part_arrivals, part_rising}
use Rattle.soundness.proofs.SoundOfParts.{whole}
use Rattle.soundness.proofs.sound_at.Goals as goal
use Rattle.soundness.proofs.sound_at.Goals.{After-destinations_right, After-ne, After-ne-2, In-Some, Else-not-in_range, Else-not-mark_orders, Start}

ordered : (c : Else-not-mark_orders) → c.mark_orders.result ≡ true
ordered c = c.if-not-mark_orders.false

in_range : (c : Else-not-in_range) → setup_in_range c.args.s.now.setup ≡ true
in_range c = sym c.in_range.ensures ∙ c.if-not-in_range.false

ranged : (c : In-Some) → setup_in_range c.args.s.now.setup ≡ true
ranged c = in_range (goal.at.In-Some c).Else-not-in_range

-- a state that came in has its shape
shape : (c : Start) → Shaped c.args.s.now
shape c = c.requires.shape

-- the turn names a transport that is there
turn-there : (c : Else-not-mark_orders) → c.args.s.now.turn ≤ c.args.s.now.setup.transports
turn-there c =
    omega (arith, c.if-transports-from.false, c.from.ensures)

pub returns-then-not-in_range : goal.returns-then-not-in_range
returns-then-not-in_range c =
    let r = answers_no c.args.s.now (part_range c.args.s.now) c.in_range.ensures c.if-not-in_range.true (refl, c.requires.pairs) in
    record { answer = r.0; pairs = r.1 }

pub returns-then-transports-from : goal.returns-then-transports-from
returns-then-transports-from c = record {
  answer = sym (false_of λ h. (let t = part_turn c.args.s.now h in omega (arith, c.if-transports-from.true, c.from.ensures, t)));
  pairs = empty refl c.requires.pairs;
}

pub mark_orders-requires : goal.mark_orders-requires
mark_orders-requires c = record {
  by_index = λ k l. get_or-replicate 8192 k false false l;
}

pub returns-then-not-mark_orders : goal.returns-then-not-mark_orders
returns-then-not-mark_orders c =
    let r = answers_no c.args.s.now (part_orders c.args.s.now) c.mark_orders.ensures.right c.if-not-mark_orders.true (refl, c.requires.pairs) in
    record { answer = r.0; pairs = r.1 }

pub count_entries-requires : goal.count_entries-requires
count_entries-requires c =
    let u = in_range (goal.at.count_entries-requires c).Else-not-in_range in
    record { destinations_bound = destinations_few _ u; by_index = home_below _ u; pairs_value = c.requires.pairs }

pub returns-in_default : goal.returns-in_default
returns-in_default c =
    let at = goal.at.returns-in_default c in
    let none : is_some c.count_entries.result ≡ false = rw c.in_default.is refl in
    let r = answers_no c.args.s.now (part_entries c.args.s.now (shape at.Start) _ (c.mark_orders.ensures.marks (ordered at.Else-not-mark_orders))) c.count_entries.ensures.counts.right none
    (refl, c.count_entries.ensures.pairs.none none) in
    record { answer = r.0; pairs = r.1 }

-- the stored counts are compared in the places that are there

on_few : (c : In-Some) → (c.args.s.now.setup.transports ≤ length c.args.s.now.busy.transport) × (c.args.s.now.setup.transports ≤ length c.in-Some.counted.on)
on_few c = few (transports_few _ (ranged c)) (shape (goal.at.In-Some c).Start).busy.transport c.in-Some.ensures.counts.tables.on.size

to_few : (c : In-Some) → (c.args.s.now.setup.destinations ≤ length c.args.s.now.busy.destination) × (c.args.s.now.setup.destinations ≤ length c.in-Some.counted.to)
to_few c = few (destinations_few _ (ranged c)) (shape (goal.at.In-Some c).Start).busy.destination c.in-Some.ensures.counts.tables.to.size

on_agrees : (c : After-ne) → not c.ne.result ≡ all_to (λ t. eqb (at c.args.s.now.busy.transport t) (at c.in-Some.counted.on t)) c.args.s.now.setup.transports
on_agrees c = let l = on_few (goal.at.After-ne c).In-Some in differ_is _ _ _ l.0 l.1 c.ne.ensures

to_agrees : (c : After-ne-2) → not c.ne-2.result ≡ all_to (λ d. eqb (at c.args.s.now.busy.destination d) (at c.in-Some.counted.to d)) c.args.s.now.setup.destinations
to_agrees c = let l = to_few (goal.at.After-ne-2 c).In-Some in differ_is _ _ _ l.0 l.1 c.ne-2.ensures

pub shared_ref_as_front-ne : goal.shared_ref_as_front-ne
shared_ref_as_front-ne c = transports_few _ (ranged (goal.at.shared_ref_as_front-ne c).In-Some)

pub returns-then-ne : goal.returns-then-ne
returns-then-ne c =
    let r = answers_no c.args.s.now (part_on c.args.s.now _ c.in-Some.counted c.in-Some.ensures.counts.tables) (on_agrees (goal.at.returns-then-ne c).After-ne) (ap not c.if-ne.true) c.unsound.ensures in
    record { answer = r.0; pairs = r.1 }

pub shared_ref_as_front-ne-3 : goal.shared_ref_as_front-ne-3
shared_ref_as_front-ne-3 c = destinations_few _ (ranged (goal.at.shared_ref_as_front-ne-3 c).In-Some)

pub returns-then-ne-2 : goal.returns-then-ne-2
returns-then-ne-2 c =
    let r = answers_no c.args.s.now (part_to c.args.s.now _ c.in-Some.counted c.in-Some.ensures.counts.tables) (to_agrees (goal.at.returns-then-ne-2 c).After-ne-2) (ap not c.if-ne-2.true) c.unsound-then-ne-2.ensures in
    record { answer = r.0; pairs = r.1 }

pub jobs_right-requires : goal.jobs_right-requires
jobs_right-requires c = λ j l.
    sum_small (counts_within _ _ _ _ _ _ c.in-Some.ensures.counts.tables.waiting j l)
    (counts_within _ _ _ _ _ _ c.in-Some.ensures.counts.tables.busy j l)

pub returns-then-not-jobs_right : goal.returns-then-not-jobs_right
returns-then-not-jobs_right c =
    let r = answers_no c.args.s.now (part_jobs c.args.s.now _ c.in-Some.counted c.in-Some.ensures.counts.tables)
    c.jobs_right.ensures c.if-not-jobs_right.true c.unsound-then-not-jobs_right.ensures in
    record { answer = r.0; pairs = r.1 }

pub queues_right-requires : goal.queues_right-requires
queues_right-requires c = transports_few _ (ranged (goal.at.queues_right-requires c).In-Some)

pub returns-then-not-queues_right : goal.returns-then-not-queues_right
returns-then-not-queues_right c =
    let r = answers_no c.args.s.now (part_queues c.args.s.now) c.queues_right.ensures c.if-not-queues_right.true c.unsound-then-not-queues_right.ensures in
    record { answer = r.0; pairs = r.1 }

pub returns-then-not-each_once : goal.returns-then-not-each_once
returns-then-not-each_once c =
    let r = answers_no c.args.s.now (part_arrivals c.args.s.now) c.each_once.ensures c.if-not-each_once.true c.unsound-then-not-each_once.ensures in
    record { answer = r.0; pairs = r.1 }

pub seconds_rise-requires : goal.seconds_rise-requires
seconds_rise-requires c =
    let r = listed_below _ _ _ (sym c.each_once.ensures ∙ c.if-not-each_once.false) in
    record { count_bound = r.0; by_index = r.1 }

pub returns-then-not-seconds_rise : goal.returns-then-not-seconds_rise
returns-then-not-seconds_rise c =
    let r = answers_no c.args.s.now (part_rising c.args.s.now) c.seconds_rise.ensures c.if-not-seconds_rise.true c.unsound-then-not-seconds_rise.ensures in
    record { answer = r.0; pairs = r.1 }

pub destinations_right-requires : goal.destinations_right-requires
destinations_right-requires c = ranged (goal.at.destinations_right-requires c).In-Some

decided : (c : After-destinations_right) → c.destinations_right.result ≡ sound c.args.s.now
decided c =
    whole c.args.s.now _ (c.mark_orders.ensures.marks (ordered (goal.at.After-destinations_right c).Else-not-mark_orders))
    c.in-Some.counted c.in-Some.ensures.counts.tables
    (ranged (goal.at.After-destinations_right c).In-Some)
    (turn-there (goal.at.After-destinations_right c).Else-not-mark_orders)
    (sym c.mark_orders.ensures.right ∙ ordered (goal.at.After-destinations_right c).Else-not-mark_orders)
    (sym c.in-Some.ensures.counts.right)
    (sym (on_agrees (goal.at.After-destinations_right c).After-ne) ∙ ap not c.if-ne.false)
    (sym (to_agrees (goal.at.After-destinations_right c).After-ne-2) ∙ ap not c.if-ne-2.false)
    (sym c.jobs_right.ensures ∙ c.if-not-jobs_right.false)
    (sym c.queues_right.ensures ∙ c.if-not-queues_right.false)
    (sym c.each_once.ensures ∙ c.if-not-each_once.false)
    (sym c.seconds_rise.ensures ∙ c.if-not-seconds_rise.false)
    _ c.destinations_right.ensures

pub returns-then-not-destinations_right : goal.returns-then-not-destinations_right
returns-then-not-destinations_right c = record {
  answer = c.unsound-then-not-destinations_right.ensures.0 ∙ sym c.if-not-destinations_right.true ∙ decided (goal.at.returns-then-not-destinations_right c).After-destinations_right;
  pairs = empty c.unsound-then-not-destinations_right.ensures.0 c.unsound-then-not-destinations_right.ensures.1;
}

pub returns : goal.returns
returns c =
    record {
      answer = sym c.if-not-destinations_right.false ∙ decided (goal.at.returns c).After-destinations_right;
      pairs = record { counted = λ _. c.in-Some.ensures.pairs.counted refl; none = λ f. true_not_false refl f };
    }
