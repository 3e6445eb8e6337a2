-- What waits of a job, by its own counts.
use Prim.Native.Nat.{ℕ, ◌+◌, ◌≤◌, ◌<◌}
use mathlib.Core.Bool.{true, false}
use mathlib.Core.Path.{◌≡◌, sym, ◌∙◌}
use mathlib.Core.List.{List}
use native.Mathlib.Omega.{arith}
use native.Mathlib.Decide.{dec_lt}
use lib.ListN.{get_or}
use Rattle.laws.specs.Range.{count_to}
use Rattle.laws.specs.Bools.{when◌then◌else◌}
use Rattle.laws.proofs.Bools.{case_bool}
use Rattle.rules.specs.declared.Jobs.{Jobs}
use Rattle.rules.specs.State.{at}
use Rattle.eligibility.specs.Eligibility.{waits_in, left_in, Adds}

pub left_is : (g : Jobs) (kind job : List ℕ) → Adds g kind job → (waits : List ℕ) → ((j : ℕ) → j < 32 → at waits j ≡ left_in g.present g.n g.picked g.dropped j)
    → ((j : ℕ) → 32 ≤ j → j < 256 → at waits j ≡ 0)
    → (j : ℕ) → j < 256 → at waits j ≡ count_to (waits_in kind job j) 512
unfolding left_in when◌then◌else◌
left_is g kind job adds waits own others j l =
    elim (dec_lt j 32) [
      | yes p ↦
          case_bool (get_or g.present j false)
          (λ t. own j p ∙ rw t (omega (arith, adds.present j p t)))
          (λ f. own j p ∙ rw f (sym (adds.absent j p f)))
      | no p ↦ others j (omega arith) l ∙ sym (adds.others j (omega arith))
    ]

pub fits_left : (g : Jobs) (kind job : List ℕ) → Adds g kind job → (j : ℕ) → j < 32 → get_or g.present j false ≡ true → at g.picked j + at g.dropped j ≤ at g.n j
fits_left g kind job adds j l p = omega (arith, adds.present j l p)
