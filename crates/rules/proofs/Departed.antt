-- The state after the jobs without an entry have left: who stays, the lists, the parents.
use Prim.Native.Nat.{ℕ, ◌<◌}
use mathlib.Core.Path.{◌≡◌, sym, ◌∙◌, ap, subst}
use mathlib.Core.Logic.{◌≢◌}
use mathlib.Core.Bool.{true, false, ◌&&◌}
use native.Mathlib.Omega.{arith}
use native.Mathlib.Decide.{ℕ_discrete, dec_lt}
use lib.ListN.{get_or, get_or-eq_default}
use lib.Seq.{get_or-set_same, get_or-set_other}
use lib.Dec.{eqb}
use borrow.Author.Tests.{eqb-true}
use Rattle.laws.specs.Range.{any_to, table_to}
use Rattle.laws.specs.Sequence.{keep}
use Rattle.laws.proofs.Bools.{true_not_false, false_of, bool_same, and_both, and_left, and_right, and_left_false, if_true}
use Rattle.laws.proofs.All.{any_of}
use Rattle.laws.proofs.Count.{count_none}
use Rattle.laws.proofs.Keep.{keep_all}
use Rattle.laws.proofs.Sequence.{every_from}
use Rattle.laws.proofs.Once.{EachOnce, once_facts, once_keep, once_same}
use Rattle.laws.proofs.Table.{get_or_table, length_table}
use Rattle.rules.specs.declared.State.{State}
use Rattle.rules.specs.Sizes.{max_transports, max_jobs, max_entries}
use Rattle.rules.specs.State.{at, zero_list, list_of, listed, queue_of, is_present, used_of, waits_of, waiting_of, parent_of}
use Rattle.rules.specs.Sound.{is_job_on}
use Rattle.rules.specs.SoundFacts.{QueueSound, ArrivalsSound}
use Rattle.rules.specs.Reporting.{stays, nearest_staying, parent_after, departed}
use Rattle.rules.proofs.Shape.{Shaped, present_below}
use Rattle.rules.proofs.EntryTests.{waits_used}
use Rattle.rules.proofs.ListFacts.{list_of_listed}

-- Who stays.

module _ (s : State) (j : ℕ) where
  pub stays_present : stays s j ≡ true → is_present s j ≡ true
  unfolding stays
  stays_present h = and_left (is_present s j) (any_to (used_of s j) max_entries) h

  pub stays_used : stays s j ≡ true → any_to (used_of s j) max_entries ≡ true
  unfolding stays
  stays_used h = and_right (is_present s j) (any_to (used_of s j) max_entries) h

  pub stays_of : is_present s j ≡ true → any_to (used_of s j) max_entries ≡ true → stays s j ≡ true
  unfolding stays
  stays_of p u = and_both p u

  pub absent_leaves : is_present s j ≡ false → stays s j ≡ false
  unfolding stays
  absent_leaves f = and_left_false (any_to (used_of s j) max_entries) f

  -- a job that leaves has nothing waiting
  pub leaves_waiting : is_present s j ≡ true → stays s j ≡ false → waiting_of s j ≡ 0
  unfolding waiting_of
  leaves_waiting p f =
      count_none (waits_of s j) max_entries λ e l.
      false_of λ h. true_not_false (stays_of p (any_of (used_of s j) max_entries e l (waits_used s j e h))) f

module _ (s : State) (t : ℕ) (shaped : Shaped s) where
  pub departed_present : (j : ℕ) → is_present (departed s t) j ≡ stays s j
  unfolding departed
  departed_present j = elim (dec_lt j 32) [
    | yes l ↦ get_or_table (stays s) max_jobs j false l
    | no l ↦
        get_or-eq_default (table_to (stays s) max_jobs) false (rw length_table (omega arith))
        ∙ sym (absent_leaves s j (false_of λ p. let b = present_below s shaped j p in absurd (omega arith)))
  ]

  pub departed_parent : (j : ℕ) → j < max_jobs → parent_of (departed s t) j ≡ parent_after s j
  unfolding departed
  departed_parent j l = get_or_table (parent_after s) max_jobs j 0 l

  pub departed_parent_stays : (j : ℕ) → stays s j ≡ true → parent_of (departed s t) j ≡ nearest_staying s j
  unfolding parent_after
  departed_parent_stays j h =
      departed_parent j (present_below s shaped j (stays_present s j h))
      ∙ if_true (nearest_staying s j) (parent_of s j) h

  pub departed_arrivals : list_of (departed s t).arrivals ≡ keep (stays s) (list_of s.arrivals)
  unfolding departed
  departed_arrivals = list_of_listed (keep (stays s) (list_of s.arrivals))

  pub departed_arrivals_once : ArrivalsSound s → EachOnce (is_present (departed s t)) max_jobs (keep (stays s) (list_of s.arrivals))
  departed_arrivals_once a =
      once_same (is_present (departed s t)) (once_keep (stays s) (once_facts (is_present s) max_jobs (list_of s.arrivals) a.once))
      λ x l. bool_same (λ h. departed_present x ∙ and_right (is_present s x) (stays s x) h)
      (λ h. let k = sym (departed_present x) ∙ h in and_both (stays_present s x k) k)

  pub departed_on : (u j : ℕ) → is_job_on (departed s t) u j ≡ is_job_on s u j && stays s j
  unfolding is_job_on departed
  departed_on u j =
      let q = eqb (at s.jobs.transport j) u in
      bool_same
      (λ h.
      let k = sym (departed_present j) ∙ and_left (is_present (departed s t) j) q h in
      and_both (and_both (stays_present s j k) (and_right (is_present (departed s t) j) q h)) k)
      (λ h.
      and_both (departed_present j ∙ and_right (is_present s j && q) (stays s j) h)
      (and_right (is_present s j) q (and_left (is_present s j && q) (stays s j) h)))

  module _ (inside : t < max_transports) where
    pub departed_queue_list : get_or (departed s t).queues t zero_list ≡ listed (keep (stays s) (queue_of s t))
    unfolding departed
    departed_queue_list = get_or-set_same s.queues t (listed (keep (stays s) (queue_of s t))) zero_list (rw shaped.queues inside)

    pub departed_queue : queue_of (departed s t) t ≡ keep (stays s) (queue_of s t)
    departed_queue = ap list_of departed_queue_list ∙ list_of_listed (keep (stays s) (queue_of s t))

    pub departed_queue_list_other : (u : ℕ) → u ≢ t → get_or (departed s t).queues u zero_list ≡ get_or s.queues u zero_list
    unfolding departed
    departed_queue_list_other u ne = get_or-set_other s.queues t u (listed (keep (stays s) (queue_of s t))) zero_list ne

    pub departed_queue_other : (u : ℕ) → u ≢ t → queue_of (departed s t) u ≡ queue_of s u
    departed_queue_other u ne = ap list_of (departed_queue_list_other u ne)

    pub departed_queue_once : QueueSound s t → EachOnce (is_job_on (departed s t) t) max_jobs (keep (stays s) (queue_of s t))
    departed_queue_once q =
        once_same (is_job_on (departed s t) t) (once_keep (stays s) (once_facts (is_job_on s t) max_jobs (queue_of s t) q.once)) λ x l. sym (departed_on t x)

    -- the other transports' jobs all stay
    module _ (others : (j : ℕ) → j < max_jobs → is_present s j ≡ true → at s.jobs.transport j ≢ t → any_to (used_of s j) max_entries ≡ true) where
      pub other_stays : (u : ℕ) → u ≢ t → (j : ℕ) → j < max_jobs → is_job_on s u j ≡ true → stays s j ≡ true
      unfolding is_job_on
      other_stays u ne j l h =
          let p = and_left (is_present s j) (eqb (at s.jobs.transport j) u) h in
          let q = eqb-true (at s.jobs.transport j) u (and_right (is_present s j) (eqb (at s.jobs.transport j) u) h) in
          stays_of s j p (others j l p λ z. ne (sym q ∙ z))

      pub departed_queue_once_other : (u : ℕ) → u ≢ t → QueueSound s u → EachOnce (is_job_on (departed s t) u) max_jobs (queue_of s u)
      departed_queue_once_other u ne q =
          once_same (is_job_on (departed s t) u) (once_facts (is_job_on s u) max_jobs (queue_of s u) q.once) λ x l.
          bool_same (λ h. departed_on u x ∙ and_both h (other_stays u ne x l h))
          (λ h. and_left (is_job_on s u x) (stays s x) (sym (departed_on u x) ∙ h))

      -- every list loses just those that leave
      pub departed_queues : (u : ℕ) → QueueSound s u → queue_of (departed s t) u ≡ keep (stays s) (queue_of s u)
      departed_queues u q = elim (ℕ_discrete u t) [
        | yes e ↦ subst (λ x. queue_of (departed s t) x ≡ keep (stays s) (queue_of s x)) (sym e) departed_queue
        | no ne ↦
            let o = once_facts (is_job_on s u) max_jobs (queue_of s u) q.once in
            departed_queue_other u ne
            ∙ sym (keep_all (stays s) (queue_of s u) (every_from (stays s) (queue_of s u) λ x h. other_stays u ne x (o.below x h) (o.passes x h)))
      ]
