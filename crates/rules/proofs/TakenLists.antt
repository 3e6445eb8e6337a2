-- The lists after a job is taken: the new one stands at the end of its transport's list and of the arrivals.
use Prim.Native.Nat.{ℕ, ◌≤◌, ◌<◌}
use mathlib.Core.Path.{◌≡◌, refl, sym, ◌∙◌, ap}
use mathlib.Core.Logic.{◌≢◌, ⊎_elim}
use mathlib.Core.Bool.{true, false}
use mathlib.Core.List.{List, [], ◌∷◌, ◌++◌}
use native.Mathlib.Omega.{arith}
use native.Mathlib.Decide.{ℕ_discrete}
use lib.ListN.{get_or}
use lib.Seq.{get_or-set_same, get_or-set_other}
use lib.Dec.{eqb}
use borrow.Author.Tests.{eq-eqb, ne_eqb}
use Rattle.laws.specs.Sequence.{holds, never_falling}
use Rattle.laws.proofs.Bools.{true_not_false, and_both, and_left_false, and_right_false}
use Rattle.laws.proofs.Sequence.{holds_append_cases, holds_cases}
use Rattle.laws.proofs.Once.{EachOnce, once_append, once_same}
use Rattle.laws.proofs.Falling.{falling_same, falling_last}
use Rattle.rules.specs.declared.State.{State}
use Rattle.rules.specs.Sizes.{max_jobs, max_transports}
use Rattle.rules.specs.State.{at, zero_list, list_of, listed, queue_of, is_present}
use Rattle.rules.specs.Sound.{is_job_on}
use Rattle.rules.specs.SoundFacts.{Sound}
use Rattle.rules.specs.Taking.{taken}
use Rattle.rules.proofs.Shape.{Shaped}
use Rattle.rules.proofs.Taken.{Fits, present_other, taken_others, taken_new}
use Rattle.rules.proofs.ListFacts.{list_of_listed, queue_once, arrivals_once}

module _ (w : State) (j t now : ℕ) (kept : List ℕ) (shaped : Shaped w) (sound : Sound w) (fits : Fits w j t kept) where
  below_four : t < max_transports
  below_four = let l = fits.transport in let b = sound.setup.transports.1 in omega arith

  -- The lists.

  pub taken_queue_list : get_or (taken w j t now kept).queues t zero_list ≡ listed (queue_of w t ++ (j ∷ []))
  unfolding taken
  taken_queue_list = get_or-set_same w.queues t (listed (queue_of w t ++ (j ∷ []))) zero_list (rw shaped.queues below_four)

  pub taken_queue : queue_of (taken w j t now kept) t ≡ queue_of w t ++ (j ∷ [])
  taken_queue = ap list_of taken_queue_list ∙ list_of_listed (queue_of w t ++ (j ∷ []))

  pub taken_queue_list_other : (u : ℕ) → u ≢ t → get_or (taken w j t now kept).queues u zero_list ≡ get_or w.queues u zero_list
  unfolding taken
  taken_queue_list_other u ne = get_or-set_other w.queues t u (listed (queue_of w t ++ (j ∷ []))) zero_list ne

  pub taken_queue_other : (u : ℕ) → u ≢ t → queue_of (taken w j t now kept) u ≡ queue_of w u
  taken_queue_other u ne = ap list_of (taken_queue_list_other u ne)

  pub taken_arrivals : list_of (taken w j t now kept).arrivals ≡ list_of w.arrivals ++ (j ∷ [])
  unfolding taken
  taken_arrivals = list_of_listed (list_of w.arrivals ++ (j ∷ []))

  -- Who is present, and where.

  pub taken_on_other : (u k : ℕ) → k ≢ j → is_job_on (taken w j t now kept) u k ≡ is_job_on w u k
  unfolding is_job_on
  taken_on_other u k ne = let r = taken_others w j t now kept shaped sound fits k ne in rw (r.present, r.transport)

  pub taken_on_new : is_job_on (taken w j t now kept) t j ≡ true
  unfolding is_job_on
  taken_on_new =
      let r = taken_new w j t now kept shaped sound fits in
      and_both r.present (eq-eqb (at (taken w j t now kept).jobs.transport j) t r.transport)

  pub taken_off_new : (u : ℕ) → u ≢ t → is_job_on (taken w j t now kept) u j ≡ false
  unfolding is_job_on
  taken_off_new u ne =
      let r = taken_new w j t now kept shaped sound fits in
      and_right_false (is_present (taken w j t now kept) j) (ne_eqb (at (taken w j t now kept).jobs.transport j) u (λ e. ne (sym e ∙ r.transport)))

  pub absent_on : (u : ℕ) → is_job_on w u j ≡ false
  unfolding is_job_on
  absent_on u = and_left_false (eqb (at w.jobs.transport j) u) fits.absent

  pub taken_queue_once : EachOnce (is_job_on (taken w j t now kept) t) max_jobs (queue_of w t ++ (j ∷ []))
  taken_queue_once =
      once_append (is_job_on (taken w j t now kept) t) j (queue_once w t sound fits.transport) fits.number (absent_on t) taken_on_new
      λ z l ne. sym (taken_on_other t z ne)

  pub taken_queue_once_other : (u : ℕ) → u ≢ t → u < w.setup.transports → EachOnce (is_job_on (taken w j t now kept) u) max_jobs (queue_of w u)
  taken_queue_once_other u ne l =
      once_same (is_job_on (taken w j t now kept) u) (queue_once w u sound l) λ z k. elim (ℕ_discrete z j) [
        | yes e ↦ rw e (absent_on u ∙ sym (taken_off_new u ne))
        | no nz ↦ sym (taken_on_other u z nz)
      ]

  pub taken_arrivals_once : EachOnce (is_present (taken w j t now kept)) max_jobs (list_of w.arrivals ++ (j ∷ []))
  taken_arrivals_once =
      once_append (is_present (taken w j t now kept)) j (arrivals_once w sound) fits.number fits.absent (taken_new w j t now kept shaped sound fits).present
      λ z l ne. sym (taken_others w j t now kept shaped sound fits z ne).present

  -- a job of the old list is another one
  pub listed_other : (k : ℕ) → holds k (list_of w.arrivals) ≡ true → k ≢ j
  listed_other k h = present_other w j t kept fits k ((arrivals_once w sound).passes k h)

  pub taken_arrival_old : (k : ℕ) → holds k (list_of w.arrivals) ≡ true → at (taken w j t now kept).jobs.arrival k ≡ at w.jobs.arrival k
  taken_arrival_old k h = (taken_others w j t now kept shaped sound fits k (listed_other k h)).arrival

  pub taken_rising : w.clock ≡ now → never_falling (at (taken w j t now kept).jobs.arrival) (list_of w.arrivals ++ (j ∷ [])) ≡ true
  taken_rising clock =
      falling_last (at (taken w j t now kept).jobs.arrival) (list_of w.arrivals) j
      (falling_same (at w.jobs.arrival) (at (taken w j t now kept).jobs.arrival) (list_of w.arrivals) (λ x h. sym (taken_arrival_old x h)) sound.arrivals.rising)
      λ x h. rw (taken_arrival_old x h, (taken_new w j t now kept shaped sound fits).arrival, ← clock) (sound.arrivals.past x h)

  pub taken_past : w.clock ≡ now → (k : ℕ) → holds k (list_of w.arrivals ++ (j ∷ [])) ≡ true → at (taken w j t now kept).jobs.arrival k ≤ w.clock
  unfolding holds
  taken_past clock k h =
      ⊎_elim (λ o. rw (taken_arrival_old k o) (sound.arrivals.past k o))
      (λ o.
      ⊎_elim (λ e. let q = ap (at (taken w j t now kept).jobs.arrival) e ∙ (taken_new w j t now kept shaped sound fits).arrival in omega arith) (λ f. true_not_false f refl) (holds_cases k j [] o))
      (holds_append_cases k (list_of w.arrivals) (j ∷ []) h)
