-- The front of a list, found place by place; turns that go round.
use Prim.Native.Nat.{ℕ, ◌+◌, ◌%◌, ◌<◌}
use mathlib.Core.Bool.{Bool, true, false}
use mathlib.Core.Path.{◌≡◌, sym, ◌∙◌, ap}
use mathlib.Core.List.{List}
use native.Mathlib.Decide.{dec_lt}
use native.Mathlib.Omega.{arith}
use lib.Dec.{ltb}
use lib.ListN.{length, get_or}
use Rattle.laws.specs.Range.{count_to}
use Rattle.laws.specs.Sequence.{count_in}
use Rattle.laws.proofs.Bools.{true_not_false}
use Rattle.laws.proofs.First.{first_unique, first_none}
use Rattle.laws.proofs.Index.{first_of_at, first_of_none_at, count_in_take}
use Rattle.laws.proofs.FirstOf.{up_to_at}
use Rattle.rules.specs.State.{at}
use Rattle.rules.specs.Picking.{steps_to}
use Rattle.eligibility.specs.Eligibility.{ready_in}
use Rattle.eligibility.proofs.Pairs.{ready_past}
use Rattle.turns.specs.Turns.{front_of, ahead_of}

module _ (ready : List Bool) (waits jobs : List ℕ) where
  -- ready at place i, and at none before

  module _ (i : ℕ) (l : i < length jobs) (hit : get_or ready (at jobs i) false ≡ true) (miss : (k : ℕ) → k < i → get_or ready (at jobs k) false ≡ false) where
    pub front_found : at jobs i ≡ front_of ready jobs
    unfolding front_of
    front_found = sym (first_of_at (λ j. get_or ready j false) jobs 0 32 i l hit miss)

    pub front_ahead : count_to (λ k. ltb 0 (at waits (at jobs k))) i ≡ ahead_of waits jobs (at jobs i)
    unfolding ahead_of
    front_ahead =
        sym (count_in_take (λ j. ltb 0 (at waits j)) jobs 0 i (omega arith))
        ∙ ap (count_in (λ j. ltb 0 (at waits j))) (sym (up_to_at jobs i 0 l (λ k b e. true_not_false hit (ap (λ j. get_or ready j false) (sym e) ∙ miss k b))))

  pub front_none : ((k : ℕ) → k < length jobs → get_or ready (at jobs k) false ≡ false) → front_of ready jobs ≡ 32
  unfolding front_of
  front_none miss = first_of_none_at (λ j. get_or ready j false) jobs 0 32 miss

-- who is ready is one of the 32
pub ready_below : (pairs : List ℕ) (room : List Bool) (j : ℕ) → get_or (ready_in pairs room) j false ≡ true → j < 32
ready_below pairs room j t = elim (dec_lt j 32) [ yes l ↦ l | no l ↦ true_not_false t (ready_past pairs room j (omega arith)) ]

-- a turn stops at step i
pub steps_at : (p : ℕ → Bool) (n start i : ℕ) → i < n → p ((start + i) % n) ≡ true → ((k : ℕ) → k < i → p ((start + k) % n) ≡ false) → steps_to p n start ≡ i
unfolding steps_to
steps_at p n start i l hit miss = first_unique (λ k. p ((start + k) % n)) n i l hit miss

-- a turn stops nowhere
pub steps_none : (p : ℕ → Bool) (n start : ℕ) → ((k : ℕ) → k < n → p ((start + k) % n) ≡ false) → steps_to p n start ≡ n
unfolding steps_to
steps_none p n start miss = first_none (λ k. p ((start + k) % n)) n miss
