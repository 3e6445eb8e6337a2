-- The reply to a job, from what each function left of the state.
use Prim.Native.Nat.{ℕ, ◌≤◌, ◌<◌}
use mathlib.Core.Bool.{Bool, false, not}
use mathlib.Core.Path.{◌≡◌, refl, sym, ap, ◌∙◌}
use mathlib.Core.Logic.{◌≢◌}
use mathlib.Core.List.{List, [], ◌∷◌, ◌++◌}
use native.Mathlib.Omega.{arith}
use native.Mathlib.Nat.{pos_of_ne-zero}
use lib.ListN.{length, get_or, set, take, replicate}
use Rattle.std.proofs.Math.Seq.{take-append_seam}
use Rattle.std.proofs.lemmas.List.{length-take-le, get_or-take, get_or-replicate}
use lib.Dec.{eqb}
use borrow.Author.Tests.{eq-eqb, ne_eqb}
use Rattle.laws.specs.Bools.{when◌then◌else◌}
use Rattle.std.proofs.Common.{Some}
use Rattle.laws.specs.Range.{count_to, chosen_to, first_below, table_to}
use Rattle.laws.specs.Sequence.{padded}
use Rattle.laws.proofs.Bools.{and_left_false}
use Rattle.laws.proofs.Places.{get_d_default}
use Rattle.laws.proofs.Count.{count_lt_bound}
use Rattle.laws.proofs.First.{chosen_below, first_below_some}
use Rattle.laws.proofs.Once.{EachOnce, once_length}
use Rattle.rules.specs.declared.Destination.{Destination}
use Rattle.rules.specs.declared.JobList.{JobList}
use Rattle.rules.specs.declared.Jobs.{Jobs}
use Rattle.rules.specs.declared.State.{State}
use Rattle.rules.specs.State.{at, zero_list, list_of, listed, queue_of, is_present}
use Rattle.rules.specs.Sound.{is_job_on}
use Rattle.rules.specs.Windows.{woken}
use Rattle.rules.specs.Changed.{with_parts}
use Rattle.rules.specs.Taking.{put_off_positions, kept_of, n_of, new_number, free_places, filled, new_jobs, taken}
use Rattle.rules.specs.Refusals.{is_destination_on}
use Rattle.rules.specs.Calls.{Reply, granted, written, taking_reply}
use Rattle.rules.proofs.Soundness.{sound_facts}
use Rattle.rules.proofs.Taken.{Fits, Passed, fits_of, new_below, new_absent, new_room}
use Rattle.rules.proofs.Accepted.{JobAccepted, passed_of}
use Rattle.rules.proofs.KeptWaking.{woken_setup}
use Rattle.admission.specs.Admission.{dead_on, on_transport, free_in}
use Rattle.newjob.specs.NewJob.{Parted}
use Rattle.newjob.specs.declared.Parts.{Parts}
use Rattle.admission.proofs.Refusing.{Small, small_of, kept_by_is, put_off_by_is}
use Rattle.newjob.proofs.Filling.{filled_same}
use Rattle.rules.proofs.ListFacts.{arrivals_once, queue_once}

-- The two replies.

module _ (w : State) (now t : ℕ) (dests list : List ℕ) (st : State) (putoff : ℕ) (after : List ℕ)
    (counted : putoff ≡ length (put_off_positions w dests)) (wrote : after ≡ written (put_off_positions w dests) list) where
  pub replies_none :
      st ≡ w → n_of w dests ≡ 0 → ◌≡◌ {A = Reply} (record { says = granted (putoff ∷ []); state = st; buffer = after }) (taking_reply w now t dests list)
  unfolding taking_reply when◌then◌else◌
  replies_none same h = rw (same, counted, wrote, eq-eqb (n_of w dests) 0 h)

  pub replies_some :
      (j : ℕ)
      → j ≡ new_number w
      → st ≡ taken w (new_number w) t now (kept_of w dests)
      → n_of w dests ≢ 0
      → ◌≡◌ {A = Reply} (record { says = granted (j ∷ putoff ∷ []); state = st; buffer = after }) (taking_reply w now t dests list)
  unfolding taking_reply when◌then◌else◌
  replies_some j e same h = rw (same, e, counted, wrote, ne_eqb (n_of w dests) 0 h)

-- The state after taking.

module _
    (s : State)
    (now t j : ℕ)
    (kept : List ℕ)
    (ds : List Destination)
    (row : Jobs)
    (kind job destination : List ℕ)
    (queue arrivals : JobList) where
  pub taken_is :
      ds ≡ (woken s now).destinations
      → row ≡ new_jobs s.jobs j t now kept
      → kind ≡ filled (free_places (woken s now)) (λ i. 1) (length kept) s.entries.kind
      → job ≡ filled (free_places (woken s now)) (λ i. j) (length kept) s.entries.job
      → destination ≡ filled (free_places (woken s now)) (at kept) (length kept) s.entries.destination
      → queue ≡ listed (queue_of s t ++ (j ∷ []))
      → arrivals ≡ listed (list_of s.arrivals ++ (j ∷ []))
      → with_parts s now s.ticket s.turn ds s.busy (set s.queues t queue) arrivals row
      (record { kind = kind; job = job; destination = destination; ticket = s.entries.ticket })
      ≡ taken (woken s now) j t now kept
  unfolding woken taken
  taken_is e1 e2 e3 e4 e5 e6 e7 = rw (e1, e2, e3, e4, e5, e6, e7)

-- What the tests leave.

module _ (s : State) (now t : ℕ) (dests list : List ℕ) (a : JobAccepted s now t dests list) where
  pub accepted_small : Small dests
  unfolding is_destination_on on_transport
  accepted_small = small_of s.setup.home s.setup.destinations t dests (sound_facts s a.whole).setup.destinations.1 a.theirs

  pub accepted_transport : t < 4
  accepted_transport = omega (arith, a.transport, (sound_facts s a.whole).setup.transports.1)

-- what waking and parting leave, of the state after waking
pub record Facts (s : State) (now t : ℕ) (dests list after : List ℕ) (r : Parts) : Type 0 where
  pub accepted : JobAccepted s now t dests list
  pub kept : r.kept ≡ padded 256 (kept_of (woken s now) dests)
  pub n : r.n ≡ length (kept_of (woken s now) dests)
  pub putoff : r.putoff ≡ length (put_off_positions (woken s now) dests)
  pub wrote : after ≡ written (put_off_positions (woken s now) dests) list

pub facts_of :
    (s : State) (now t : ℕ) (dests list after : List ℕ) (r : Parts) (dead : List Bool)
    → JobAccepted s now t dests list
    → dead ≡ table_to (dead_on (woken s now).destinations) 32
    → Parted dead dests list after r
    → Facts s now t dests list after r
facts_of s now t dests list after r dead a table p =
    let small = accepted_small s now t dests list a in
    let kept = kept_by_is (woken s now) dead table dests small in
    let off = put_off_by_is (woken s now) dead table dests small in
    record {
      accepted = a;
      kept = p.kept ∙ ap (padded 256) kept;
      n = p.n ∙ ap length kept;
      putoff = p.putoff ∙ ap length off;
      wrote = p.list ∙ ap (λ vs. written vs list) off;
    }

-- the lowest free number, as the code finds it
pub number_is : (s : State) (now j : ℕ) → Some j ≡ first_below (λ i. not (get_or s.jobs.present i false)) 32 → j ≡ new_number (woken s now)
unfolding new_number woken
number_is s now j h =
    let p : ℕ → Bool = λ i. not (get_or s.jobs.present i false) in
    (first_below_some p 32 j (sym h)).0

-- a list without all 32 jobs has room for one more
room_in : (p : ℕ → Bool) (j : ℕ) (l : List ℕ) → EachOnce p 32 l → j < 32 → p j ≡ false → length l < 32
room_in p j l once h f = omega (arith, once_length p 32 l once, count_lt_bound p 32 j h f)

module _ {s : State} {now t : ℕ} {dests list after : List ℕ} {r : Parts} (f : Facts s now t dests list after r) where
  pub waits_none : r.n ≡ 0 → n_of (woken s now) dests ≡ 0
  unfolding n_of
  waits_none h = sym f.n ∙ h

  module _ (some : r.n ≢ 0) where
    pub waits_some : n_of (woken s now) dests ≢ 0
    unfolding n_of
    waits_some h = some (f.n ∙ h)

    passed : Passed (woken s now) t dests
    passed = passed_of s now t dests list f.accepted (pos_of_ne-zero waits_some)

    fits : Fits (woken s now) (new_number (woken s now)) t (kept_of (woken s now) dests)
    fits = fits_of (woken s now) t dests passed

    pub number_small : (j : ℕ) → j ≡ new_number (woken s now) → j < 32
    number_small j e = rw e (new_below (woken s now) t dests passed)

    pub waits_few : r.n ≤ 256
    waits_few = omega (arith, f.n, fits.few)

    kept_below : (i : ℕ) → i < length (kept_of (woken s now) dests) → at (kept_of (woken s now) dests) i < 32
    kept_below i h =
        let d = fits.destination i h in
        omega (arith, ap (λ u. u.destinations) (woken_setup s now), (sound_facts s f.accepted.whole).setup.destinations.1)

    -- the kept are the front of their array
    pub kept_front : take r.n r.kept ≡ kept_of (woken s now) dests
    unfolding padded
    kept_front = rw (f.n, f.kept) (take-append_seam (kept_of (woken s now) dests) _)

    pub kept_few : length (take r.n r.kept) ≤ 256
    kept_few = rw (kept_front, ← f.n) waits_few

    pub kept_small : (i : ℕ) → i < length (take r.n r.kept) → at (take r.n r.kept) i < 32
    kept_small = rw kept_front kept_below

    pub places_enough : r.n ≤ count_to (free_in s.entries.kind) 512
    unfolding free_in woken n_of
    places_enough = omega (arith, f.n, new_room (woken s now) t dests passed)

    module _ (places : List ℕ) (long : length places ≡ 256) (agree : (i : ℕ) → i < r.n → at places i ≡ at (chosen_to (free_in s.entries.kind) 512) i) where
      front_long : length (take r.n places) ≡ r.n
      front_long = length-take-le r.n places (omega (arith, long, waits_few))

      front_agrees : (i : ℕ) → i < r.n → at (take r.n places) i ≡ at (chosen_to (free_in s.entries.kind) 512) i
      front_agrees i h = get_or-take r.n places i 0 h ∙ agree i h

      pub places_small : (i : ℕ) → i < length (take r.n places) → at (take r.n places) i < 512
      places_small i h =
          let l : i < r.n = rw (← front_long) h in
          rw (front_agrees i l) (chosen_below (free_in s.entries.kind) 0 512 i (omega (arith, places_enough)))

      -- a column filled at these places is the rules'
      pub column_is :
          (values : List ℕ) (k : ℕ → ℕ) (column filled' : List ℕ)
          → ((i : ℕ) → i < r.n → at values i ≡ k i)
          → filled' ≡ filled (take r.n places) (at values) (length (take r.n places)) column
          → filled' ≡ filled (free_places (woken s now)) k (length (kept_of (woken s now) dests)) column
      unfolding free_places free_in woken
      column_is values k column filled' same e =
          e ∙ ap (λ n. filled (take r.n places) (at values) n column) front_long
          ∙ filled_same (take r.n places) (free_places (woken s now)) (at values) k column r.n front_agrees same
          ∙ ap (λ n. filled (free_places (woken s now)) k n column) f.n

      -- one value at all of them
      pub column_same :
          (v : ℕ) (column filled' : List ℕ)
          → filled' ≡ filled (take r.n places) (at (take r.n (replicate 256 v))) (length (take r.n places)) column
          → filled' ≡ filled (free_places (woken s now)) (λ i. v) (length (kept_of (woken s now) dests)) column
      column_same v column filled' =
          column_is (take r.n (replicate 256 v)) (λ i. v) column filled'
          (λ i h. get_or-take r.n (replicate 256 v) i 0 h ∙ get_or-replicate 256 i v 0 (omega (arith, waits_few, h)))

    absent : is_present s (new_number (woken s now)) ≡ false
    unfolding woken
    absent = new_absent (woken s now) t dests passed

    pub arrivals_room : (s.arrivals.count ≤ 32) × (length (list_of s.arrivals) < 32)
    arrivals_room =
        let h = sound_facts s f.accepted.whole in
        let j = new_number (woken s now) in
        (h.arrivals.count, room_in (is_present s) j (list_of s.arrivals) (arrivals_once s h) (number_small j refl) absent)

    -- whatever stands for what lies past the end
    module _ (z : JobList) (long : length s.queues ≡ 4) where
      same_queue : get_or s.queues t z ≡ get_or s.queues t zero_list
      same_queue = get_d_default s.queues t z zero_list (rw long (accepted_transport s now t dests list f.accepted))

      pub queue_room : ((get_or s.queues t z).count ≤ 32) × (length (list_of (get_or s.queues t z)) < 32)
      unfolding is_job_on
      queue_room =
          let h = sound_facts s f.accepted.whole in
          let l = f.accepted.transport in
          let j = new_number (woken s now) in
          let other = and_left_false (eqb (at s.jobs.transport j) t) absent in
          rw same_queue ((h.queues t l).count, room_in (is_job_on s t) j (queue_of s t) (queue_once s t h l) (number_small j refl) other)

      pub queue_is : (j : ℕ) (q : JobList) → q ≡ listed (list_of (get_or s.queues t z) ++ (j ∷ [])) → q ≡ listed (queue_of s t ++ (j ∷ []))
      queue_is j q e = e ∙ ap (λ v. listed (list_of v ++ (j ∷ []))) same_queue
