-- A state, its jobs and its entries with some of their parts changed, and all others as they were. Here alone, and where they are empty (Setup.antt), all
-- parts are written out: a new column of the jobs is a line of `with_columns`.
use Rattle.std.specs.Prelude.{ℕ, Bool, List, set}
use Rattle.rules.specs.declared.Destination.{Destination}
use Rattle.rules.specs.declared.Busy.{Busy}
use Rattle.rules.specs.declared.JobList.{JobList}
use Rattle.rules.specs.declared.Jobs.{Jobs}
use Rattle.rules.specs.declared.Entries.{Entries}
use Rattle.rules.specs.declared.State.{State}
use Rattle.rules.specs.State.{list_of, listed, queue_of}

-- The state.

abbrev pub with_parts : State → ℕ → ℕ → ℕ → List Destination → Busy → List JobList → JobList → Jobs → Entries → State
with_parts s clock ticket turn destinations busy queues arrivals jobs entries =
    record {
      setup = s.setup;
      clock = clock;
      ticket = ticket;
      turn = turn;
      destinations = destinations;
      busy = busy;
      queues = queues;
      arrivals = arrivals;
      jobs = jobs;
      entries = entries;
    }

abbrev pub at_clock : ℕ → State → State
at_clock now s = with_parts s now s.ticket s.turn s.destinations s.busy s.queues s.arrivals s.jobs s.entries

-- the next ticket, and the transport whose turn is next
abbrev pub at_turn : ℕ → ℕ → State → State
at_turn ticket turn s = with_parts s s.clock ticket turn s.destinations s.busy s.queues s.arrivals s.jobs s.entries

abbrev pub on_destinations : (List Destination → List Destination) → State → State
on_destinations f s = with_parts s s.clock s.ticket s.turn (f s.destinations) s.busy s.queues s.arrivals s.jobs s.entries

abbrev pub on_busy : (Busy → Busy) → State → State
on_busy f s = with_parts s s.clock s.ticket s.turn s.destinations (f s.busy) s.queues s.arrivals s.jobs s.entries

-- the list of a transport
abbrev pub on_queue : ℕ → (List ℕ → List ℕ) → State → State
on_queue t f s =
    with_parts s s.clock s.ticket s.turn s.destinations s.busy (set s.queues t (listed (f (queue_of s t)))) s.arrivals s.jobs s.entries

abbrev pub on_arrivals : (List ℕ → List ℕ) → State → State
on_arrivals f s = with_parts s s.clock s.ticket s.turn s.destinations s.busy s.queues (listed (f (list_of s.arrivals))) s.jobs s.entries

abbrev pub on_jobs : (Jobs → Jobs) → State → State
on_jobs f s = with_parts s s.clock s.ticket s.turn s.destinations s.busy s.queues s.arrivals (f s.jobs) s.entries

abbrev pub on_entries : (Entries → Entries) → State → State
on_entries f s = with_parts s s.clock s.ticket s.turn s.destinations s.busy s.queues s.arrivals s.jobs (f s.entries)

-- The jobs: the columns that change after a job is taken.

abbrev pub with_columns : Jobs → List Bool → List ℕ → List ℕ → List ℕ → List ℕ → List Bool → List ℕ → List ℕ → Jobs
with_columns g present picked dropped sold parent preempted overtakers turn =
    record {
      present = present;
      transport = g.transport;
      n = g.n;
      picked = picked;
      dropped = dropped;
      sold = sold;
      parent = parent;
      preempted = preempted;
      arrival = g.arrival;
      overtakers = overtakers;
      turn = turn;
      places = g.places;
      order = g.order;
    }

abbrev pub on_present : (List Bool → List Bool) → Jobs → Jobs
on_present f g = with_columns g (f g.present) g.picked g.dropped g.sold g.parent g.preempted g.overtakers g.turn

abbrev pub on_picked : (List ℕ → List ℕ) → Jobs → Jobs
on_picked f g = with_columns g g.present (f g.picked) g.dropped g.sold g.parent g.preempted g.overtakers g.turn

abbrev pub on_dropped : (List ℕ → List ℕ) → Jobs → Jobs
on_dropped f g = with_columns g g.present g.picked (f g.dropped) g.sold g.parent g.preempted g.overtakers g.turn

abbrev pub on_sold : (List ℕ → List ℕ) → Jobs → Jobs
on_sold f g = with_columns g g.present g.picked g.dropped (f g.sold) g.parent g.preempted g.overtakers g.turn

abbrev pub on_parent : (List ℕ → List ℕ) → Jobs → Jobs
on_parent f g = with_columns g g.present g.picked g.dropped g.sold (f g.parent) g.preempted g.overtakers g.turn

abbrev pub on_preempted : (List Bool → List Bool) → Jobs → Jobs
on_preempted f g = with_columns g g.present g.picked g.dropped g.sold g.parent (f g.preempted) g.overtakers g.turn

abbrev pub on_overtakers : (List ℕ → List ℕ) → Jobs → Jobs
on_overtakers f g = with_columns g g.present g.picked g.dropped g.sold g.parent g.preempted (f g.overtakers) g.turn

abbrev pub on_turn : (List ℕ → List ℕ) → Jobs → Jobs
on_turn f g = with_columns g g.present g.picked g.dropped g.sold g.parent g.preempted g.overtakers (f g.turn)

-- The entries.

abbrev pub with_kinds : Entries → List ℕ → List ℕ → Entries
with_kinds e kind ticket = record { kind = kind; job = e.job; destination = e.destination; ticket = ticket }
