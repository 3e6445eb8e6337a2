-- What an accepted call has passed: each test of its refusals, as a fact.
use Prim.Native.Nat.{ℕ, suc, ◌≤◌, ◌<◌}
use mathlib.Core.Path.{◌≡◌, refl}
use mathlib.Core.Bool.{Bool, true, false, not}
use mathlib.Core.List.{List}
use native.Mathlib.Omega.{arith}
use lib.ListN.{length}
use lib.Dec.{eqb, ltb}
use borrow.Author.Tests.{ltb-true, ltb-false, eqb-true, not-false}
use Rattle.laws.specs.Bools.{when◌then◌else◌}
use Rattle.laws.specs.Sequence.{every_in}
use Rattle.laws.proofs.Bools.{or_left_false, or_right_false}
use Rattle.laws.proofs.Joined.{and_3}
use Rattle.rules.specs.declared.State.{State}
use Rattle.rules.specs.Sizes.{last_second, max_entries, max_length}
use Rattle.rules.specs.State.{at, is_busy}
use Rattle.rules.specs.Setup.{within}
use Rattle.rules.specs.Sound.{sound}
use Rattle.rules.specs.Windows.{woken}
use Rattle.rules.specs.Taking.{n_of}
use Rattle.rules.specs.Refusals.{bad_clock, is_destination_on, lacks_number, lacks_places, is_busy_with, job_refusal, pick_refusal, report_refusal}
use Rattle.rules.proofs.RangeFacts.{within_facts}
use Rattle.rules.proofs.Taken.{Passed}

-- a test that refuses with k has not held, where the refusal is 0
refuses_not : (b : Bool) (k m : ℕ) → (when b then suc k else m) ≡ 0 → b ≡ false
unfolding when◌then◌else◌
refuses_not true k m h = absurd (omega arith)
refuses_not false k m h = refl

refuses_next : (b : Bool) (k m : ℕ) → (when b then suc k else m) ≡ 0 → m ≡ 0
unfolding when◌then◌else◌
refuses_next true k m h = absurd (omega arith)
refuses_next false k m h = h

-- the clock is good
pub record GoodClock (s : State) (now : ℕ) : Type 0 where
  pub later : s.clock ≤ now
  pub early : now ≤ last_second

good_clock : (s : State) (now : ℕ) → bad_clock s now ≡ false → GoodClock s now
unfolding bad_clock
good_clock s now h =
    record {
      later = ltb-false now s.clock (or_left_false (ltb now s.clock) (ltb last_second now) h);
      early = ltb-false last_second now (or_right_false (ltb now s.clock) (ltb last_second now) h);
    }

pub record JobAccepted (s : State) (now t : ℕ) (dests list : List ℕ) : Type 0 where
  pub whole : sound s ≡ true
  pub clock : GoodClock s now
  pub transport : t < s.setup.transports
  pub some : 1 ≤ length dests
  pub few : length dests ≤ max_length
  pub theirs : every_in (is_destination_on s t) dests ≡ true
  pub number : lacks_number (woken s now) dests ≡ false
  pub places : lacks_places (woken s now) dests ≡ false
  pub lent : length dests ≤ length list

pub job_accepted : (s : State) (now t : ℕ) (dests list : List ℕ) → job_refusal s now t dests list ≡ 0 → JobAccepted s now t dests list
unfolding job_refusal
job_accepted s now t dests list h =
    let h3 = refuses_next (not (sound s)) 0 _ h in
    let h4 = refuses_next (bad_clock s now) 2 _ h3 in
    let h5 = refuses_next (not (ltb t s.setup.transports)) 3 _ h4 in
    let h6 = refuses_next (not (within 1 max_length (length dests))) 4 _ h5 in
    let h7 = refuses_next (not (every_in (is_destination_on s t) dests)) 5 _ h6 in
    let h8 = refuses_next (lacks_number (woken s now) dests) 6 _ h7 in
    let h10 = refuses_next (lacks_places (woken s now) dests) 7 _ h8 in
    let r = within_facts {low = 1} {high = max_length} {x = length dests} (not-false (within 1 max_length (length dests)) (refuses_not (not (within 1 max_length (length dests))) 4 _ h5)) in
    record {
      whole = not-false (sound s) (refuses_not (not (sound s)) 0 _ h);
      clock = good_clock s now (refuses_not (bad_clock s now) 2 _ h3);
      transport =
          ltb-true t s.setup.transports (not-false (ltb t s.setup.transports) (refuses_not (not (ltb t s.setup.transports)) 3 _ h4));
      some = r.0;
      few = r.1;
      theirs = not-false (every_in (is_destination_on s t) dests) (refuses_not (not (every_in (is_destination_on s t) dests)) 5 _ h6);
      number = refuses_not (lacks_number (woken s now) dests) 6 _ h7;
      places = refuses_not (lacks_places (woken s now) dests) 7 _ h8;
      lent = ltb-false (length list) (length dests) (refuses_not (ltb (length list) (length dests)) 9 _ h10);
    }

-- the destinations are the transport's after waking too
woken_theirs : (s : State) (now t : ℕ) (dests : List ℕ) → every_in (is_destination_on s t) dests ≡ true → every_in (is_destination_on (woken s now) t) dests ≡ true
unfolding is_destination_on woken
woken_theirs s now t dests h = h

woken_transports : (s : State) (now : ℕ) → (woken s now).setup.transports ≡ s.setup.transports
unfolding woken
woken_transports s now = refl

-- an accepted job with an entry that must wait is one that can be taken
pub passed_of : (s : State) (now t : ℕ) (dests list : List ℕ) → JobAccepted s now t dests list → 1 ≤ n_of (woken s now) dests → Passed (woken s now) t dests
passed_of s now t dests list a some =
    record {
      transport = rw (woken_transports s now) a.transport;
      few = a.few;
      theirs = woken_theirs s now t dests a.theirs;
      some = some;
      number = a.number;
      places = a.places;
    }

pub record PickAccepted (s : State) (now : ℕ) : Type 0 where
  pub whole : sound s ≡ true
  pub clock : GoodClock s now

pub pick_accepted : (s : State) (now : ℕ) → pick_refusal s now ≡ 0 → PickAccepted s now
unfolding pick_refusal
pick_accepted s now h =
    record {
      whole = not-false (sound s) (refuses_not (not (sound s)) 0 _ h);
      clock = good_clock s now (refuses_not (bad_clock s now) 2 _ (refuses_next (not (sound s)) 0 _ h));
    }

pub record ReportAccepted (s : State) (now e ticket : ℕ) (list : List ℕ) : Type 0 where
  pub whole : sound s ≡ true
  pub clock : GoodClock s now
  pub entry : e < max_entries
  pub busy : is_busy s e ≡ true
  pub issued : at s.entries.ticket e ≡ ticket
  pub lent : max_entries ≤ length list

pub report_accepted : (s : State) (now e ticket : ℕ) (list : List ℕ) → report_refusal s now e ticket list ≡ 0 → ReportAccepted s now e ticket list
unfolding report_refusal is_busy_with
report_accepted s now e ticket list h =
    let h3 = refuses_next (not (sound s)) 0 _ h in
    let h9 = refuses_next (bad_clock s now) 2 _ h3 in
    let h10 = refuses_next (not (is_busy_with s e ticket)) 8 _ h9 in
    let r =
    and_3 (ltb e max_entries) (is_busy s e) (eqb (at s.entries.ticket e) ticket)
    (not-false (is_busy_with s e ticket) (refuses_not (not (is_busy_with s e ticket)) 8 _ h9)) in
    record {
      whole = not-false (sound s) (refuses_not (not (sound s)) 0 _ h);
      clock = good_clock s now (refuses_not (bad_clock s now) 2 _ h3);
      entry = ltb-true e max_entries r.0;
      busy = r.1;
      issued = eqb-true (at s.entries.ticket e) ticket r.2;
      lent = ltb-false (length list) max_entries (refuses_not (ltb (length list) max_entries) 9 _ h10);
    }
