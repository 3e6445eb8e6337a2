-- A sound state's lists: each transport's holds its present jobs once each, and so do the arrivals.
use Prim.Native.Nat.{ℕ, ◌≤◌, ◌<◌}
use mathlib.Core.Path.{◌≡◌}
use mathlib.Core.Bool.{Bool, true}
use mathlib.Core.List.{List}
use lib.ListN.{length}
use lib.Dec.{eqb}
use borrow.Author.Tests.{eqb-true, eq-eqb}
use Rattle.laws.specs.Sequence.{holds}
use Rattle.laws.proofs.Bools.{and_both, and_left, and_right}
use Rattle.laws.proofs.Count.{count_le_bound}
use Rattle.laws.proofs.Once.{EachOnce, once_facts, once_holds, once_length}
use Rattle.laws.proofs.Sequence.{take_padded}
use Rattle.rules.specs.declared.State.{State}
use Rattle.rules.specs.Sizes.{max_jobs}
use Rattle.rules.specs.State.{at, list_of, listed, queue_of, is_present}
use Rattle.rules.specs.Sound.{is_job_on}
use Rattle.rules.specs.SoundFacts.{Sound}
use Rattle.rules.proofs.Shape.{Shaped, present_below}

-- the list that is written is the one that is read
pub list_of_listed : (l : List ℕ) → list_of (listed l) ≡ l
list_of_listed l = take_padded max_jobs l

-- a list of jobs, once each, has at most 32
pub once_few : {p : ℕ → Bool} {l : List ℕ} → EachOnce p max_jobs l → length l ≤ max_jobs
once_few {p} {l} r = rw (once_length p max_jobs l r) (count_le_bound p max_jobs)

pub arrivals_once : (s : State) → Sound s → EachOnce (is_present s) max_jobs (list_of s.arrivals)
arrivals_once s r = once_facts (is_present s) max_jobs (list_of s.arrivals) r.arrivals.once

pub queue_once : (w : State) (t : ℕ) → Sound w → t < w.setup.transports → EachOnce (is_job_on w t) max_jobs (queue_of w t)
queue_once w t h l = once_facts (is_job_on w t) max_jobs (queue_of w t) (h.queues t l).once

pub queue_holds : (w : State) (t j : ℕ) → Shaped w → Sound w → t < w.setup.transports → is_present w j ≡ true → at w.jobs.transport j ≡ t → holds j (queue_of w t) ≡ true
unfolding is_job_on
queue_holds w t j shape h l p e = once_holds (queue_once w t h l) j (present_below w shape j p) (and_both p (eq-eqb (at w.jobs.transport j) t e))

pub queue_job : (w : State) (t j : ℕ) → Sound w → t < w.setup.transports → holds j (queue_of w t) ≡ true → (j < max_jobs) × (is_present w j ≡ true) × (at w.jobs.transport j ≡ t)
unfolding is_job_on
queue_job w t j h l k =
    let o = queue_once w t h l in
    let b = o.passes j k in
    (o.below j k, and_left (is_present w j) (eqb (at w.jobs.transport j) t) b, eqb-true (at w.jobs.transport j) t (and_right (is_present w j) (eqb (at w.jobs.transport j) t) b))
