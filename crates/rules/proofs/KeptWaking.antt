-- Waking keeps shape and soundness.
use Prim.Native.Nat.{ℕ, ◌≤◌, ◌<◌}
use mathlib.Core.Bool.{Bool, true, false}
use mathlib.Core.Path.{◌≡◌, refl, sym, ◌∙◌, ap}
use native.Mathlib.Nat.{le_trans}
use native.Mathlib.Omega.{arith}
use lib.ListN.{get_or}
use lib.Dec.{leb}
use borrow.Author.Tests.{lt-ltb}
use Rattle.laws.specs.Bools.{when◌then◌else◌}
use Rattle.laws.proofs.Bools.{if_true}
use Rattle.laws.proofs.Table.{length_table, get_or_table}
use Rattle.rules.specs.declared.Settings.{Settings}
use Rattle.rules.specs.declared.Sums.{Sums}
use Rattle.rules.specs.declared.Health.{Health}
use Rattle.rules.specs.declared.Health.TheVariants.{Live, Dead}
use Rattle.rules.specs.declared.State.{State}
use Rattle.rules.specs.Sizes.{max_destinations}
use Rattle.rules.specs.State.{transport_of, settings_for, health_of, zero_destination, waits_of, busy_of, used_of, waiting_of}
use Rattle.rules.specs.Setup.{settings_in_range, first_state}
use Rattle.rules.specs.Windows.{woken_health, woken_at, woken}
use Rattle.rules.specs.Sound.{busy_on, busy_to, is_job_on, order_of}
use Rattle.rules.specs.SoundFacts.{LiveSound, DestinationSound, Sound}
use Rattle.rules.proofs.Shape.{Shaped}
use Rattle.rules.proofs.WindowLaws.{live_first}

pub woken_health_lem : (s : State) (now d : ℕ) → d < s.setup.destinations → d < max_destinations → health_of (woken s now) d ≡ woken_health (settings_for s d) now (health_of s d)
unfolding woken woken_at
woken_health_lem s now d l m =
    ap (λ x. x.health) (get_or_table (woken_at s.destinations s.setup now) max_destinations d zero_destination m
    ∙ if_true (record { health = woken_health (settings_for s d) now (health_of s d) }) (get_or s.destinations d zero_destination) (lt-ltb d s.setup.destinations l))

-- a live destination stays as it is
pub woken_still : (s : State) (now d : ℕ) (u : Sums) → Sound s → d < s.setup.destinations → health_of s d ≡ Live u → health_of (woken s now) d ≡ Live u
unfolding woken_health
woken_still s now d u sound inside live =
    woken_health_lem s now d inside (omega (arith, sound.setup.destinations.1)) ∙ ap (woken_health (settings_for s d) now) live

-- a dead one may wake
woken_live : (g : Settings) (now : ℕ) (h : Health) → settings_in_range g ≡ true → ((u : Sums) → h ≡ Live u → LiveSound g u) → (u : Sums) → woken_health g now h ≡ Live u → LiveSound g u
unfolding woken_health when◌then◌else◌
woken_live g now (Live v) r k u e = k u e
woken_live g now (Dead end) r k u e = go (leb end now) e
  where
    same : (v : Sums) → v ≡ u → LiveSound g v → LiveSound g u
    same v e l = rw e at l

    go : (b : Bool) → (when b then Live (first_state g) else Dead end) ≡ Live u → LiveSound g u
    go true q = same (first_state g) (cc) (live_first g r)
    go false q = absurd (let z : ◌≡◌ {A = ℕ} 0 1 = cc in omega arith)

woken_dead : (g : Settings) (now : ℕ) (h : Health) (end : ℕ) → woken_health g now h ≡ Dead end → h ≡ Dead end
unfolding woken_health when◌then◌else◌
woken_dead g now (Live v) end e = e
woken_dead g now (Dead x) end e = go (leb x now) e
  where
    go : (b : Bool) → (when b then Live (first_state g) else Dead x) ≡ Dead end → Dead x ≡ Dead end
    go true q = absurd (let z : ◌≡◌ {A = ℕ} 0 1 = cc in omega arith)
    go false q = q

kept_destination : (s : State) (now : ℕ) → Sound s → (d : ℕ) → d < s.setup.destinations → DestinationSound (woken s now) d
unfolding woken
kept_destination s now h d l =
    let k = h.destinations d l in
    let m : d < max_destinations = omega (arith, h.setup.destinations.1) in
    let e = woken_health_lem s now d l m in
    record {
      live = λ u q. woken_live (settings_for s d) now (health_of s d) (h.setup.settings (transport_of s d) (h.setup.home d l)) k.live u (sym e ∙ q);
      dead = λ end q. k.dead end (woken_dead (settings_for s d) now (health_of s d) end (sym e ∙ q));
    }

pub kept_woken : (s : State) (now : ℕ) → Shaped s → Sound s → s.clock ≤ now → Shaped (woken s now) × Sound (woken s now)
unfolding woken busy_on busy_to is_job_on order_of waits_of busy_of used_of waiting_of
kept_woken s now shape h late = (
  record {
    destinations = length_table (woken_at s.destinations s.setup now) max_destinations;
    busy = shape.busy;
    queues = shape.queues;
    queue = shape.queue;
    arrivals = shape.arrivals;
    jobs = shape.jobs;
    entries = shape.entries;
  },
  record {
    setup = h.setup;
    entries = λ e l f. let k = h.entries e l f in record { kind = k.kind; present = k.present; destination = k.destination; transport = k.transport };
    busy_transport = h.busy_transport;
    busy_destination = h.busy_destination;
    queues = λ t l. let k = h.queues t l in record { count = k.count; once = k.once };
    arrivals = (let k = h.arrivals in record { count = k.count; once = k.once; rising = k.rising; past = λ j q. le_trans (k.past j q) late });
    jobs = λ j l p. let k = h.jobs j l p in record {
      adds = k.adds;
      n = k.n;
      busy = k.busy;
      places = k.places;
      distinct = k.distinct;
      complete = k.complete;
      sold = k.sold;
      unsold = k.unsold;
      parent = λ q e. let c = k.parent q e in record { present = c.present; transport = c.transport; picked = c.picked; marked = c.marked };
      ends = k.ends;
      overtakers = k.overtakers;
      turn = k.turn;
    };
    used = h.used;
    destinations = kept_destination s now h;
    turn = h.turn;
  },
)

-- what waking leaves as it is
module _ (s : State) (now : ℕ) where
  pub woken_waits : (j : ℕ) → waiting_of (woken s now) j ≡ waiting_of s j
  unfolding woken waiting_of waits_of
  woken_waits j = refl

  pub woken_setup : (woken s now).setup ≡ s.setup
  unfolding woken
  woken_setup = refl
