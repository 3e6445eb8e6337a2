-- Chains that lead to job numbers: one step of them, and that those of a sound state do.
use Prim.Native.Nat.{ℕ, zero, suc, ◌+◌, ◌-◌, ◌≤◌, ◌<◌, min}
use mathlib.Core.Path.{◌≡◌, refl, sym, subst}
use mathlib.Core.Bool.{true}
use mathlib.Core.List.{List}
use native.Mathlib.Nat.{suc_inj}
use native.Mathlib.Omega.{arith}
use lib.ListN.{set}
use lib.Dec.{ltb}
use borrow.Author.Tests.{ltb-true, lt-ltb}
use Rattle.laws.specs.Chain.{along_chain}
use Rattle.laws.proofs.Chain.{along_zero}
use Rattle.laws.proofs.Bools.{and_left, and_right, and_both}
use Rattle.laws.proofs.Walk.{along_step}
use Rattle.rules.specs.declared.State.{State}
use Rattle.rules.specs.Sizes.{sum_limit, max_jobs}
use Rattle.rules.specs.State.{at, is_present, parent_of}
use Rattle.rules.specs.SoundFacts.{Sound}
use Rattle.rules.specs.Preemption.{added_to}
use Rattle.rules.proofs.Shape.{Shaped, present_below}
use Rattle.rules.proofs.KeptPreempting.{parent_present}
use Rattle.charging.specs.Links.{leads_inside}

-- The first element of a chain that leads somewhere, and the rest.

pub leads_below : (next : ℕ → ℕ) (n link : ℕ) → 1 ≤ n → 1 ≤ link → leads_inside next n link ≡ true → link - 1 < max_jobs
unfolding leads_inside
leads_below next zero link a b h = absurd (omega arith)
leads_below next (suc n) zero a b h = absurd (omega arith)
leads_below next (suc n) (suc x) a b h = omega (arith, ltb-true x max_jobs (and_left (ltb x max_jobs) (leads_inside next n (next x)) h))

pub leads_next : (next : ℕ → ℕ) (n link : ℕ) → 1 ≤ n → 1 ≤ link → leads_inside next n link ≡ true → leads_inside next (n - 1) (next (link - 1)) ≡ true
unfolding leads_inside
leads_next next zero link a b h = absurd (omega arith)
leads_next next (suc n) zero a b h = absurd (omega arith)
leads_next next (suc n) (suc x) a b h =
    let e : suc n - 1 ≡ n = omega arith in
    let f : suc x - 1 ≡ x = omega arith in
    rw (e, f) (and_right (ltb x max_jobs) (leads_inside next n (next x)) h)

-- no depth is left; the chain has ended; one more job is charged
pub walk_none : (next : ℕ → ℕ) (m depth link : ℕ) (sums : List ℕ) → depth ≡ 0 → sums ≡ along_chain next (added_to m) depth link sums
unfolding along_chain
walk_none next m depth link sums e = rw e refl

pub walk_end : (next : ℕ → ℕ) (m depth link : ℕ) (sums : List ℕ) → link ≡ 0 → sums ≡ along_chain next (added_to m) depth link sums
walk_end next m depth link sums e = rw e (sym (along_zero next (added_to m) depth sums))

pub walk_more : (parent sums : List ℕ) (m depth link v : ℕ) → 1 ≤ depth → 1 ≤ link → v ≡ min (at sums (link - 1) + m) sum_limit
    → along_chain (at parent) (added_to m) (depth - 1) (at parent (link - 1)) (set sums (link - 1) v) ≡ along_chain (at parent) (added_to m) depth link sums
unfolding added_to
walk_more parent sums m depth link v p q e = rw e (sym (along_step (at parent) (added_to m) depth link sums p q))

-- Of a sound state.

pub leads_present : (w : State) → Shaped w → Sound w → (n link : ℕ) → ((x : ℕ) → link ≡ suc x → is_present w x ≡ true) → leads_inside (parent_of w) n link ≡ true
unfolding leads_inside
leads_present w shape h zero link p = refl
leads_present w shape h (suc n) zero p = refl
leads_present w shape h (suc n) (suc x) p =
    and_both (lt-ltb x max_jobs (present_below w shape x (p x refl))) (leads_present w shape h n (parent_of w x) (λ y e. parent_present w shape h x y (p x refl) e))

pub leads_inside_lem : (w : State) → Shaped w → Sound w → (n y : ℕ) → is_present w y ≡ true → leads_inside (parent_of w) n (suc y) ≡ true
leads_inside_lem w shape h n y p = leads_present w shape h n (suc y) (λ x e. subst (λ z. is_present w z ≡ true) (suc_inj e) p)
