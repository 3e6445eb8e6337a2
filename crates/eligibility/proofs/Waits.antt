-- Whether an entry of a job waits for a destination, by what is read of it.
use Prim.Native.Nat.{ℕ}
use mathlib.Core.Bool.{true, false, ◌&&◌}
use mathlib.Core.Path.{◌≡◌}
use mathlib.Core.List.{List}
use lib.Dec.{eqb}
use borrow.Author.Tests.{eq-eqb, ne_eqb}
use Rattle.laws.proofs.Bools.{and_both, and_left_false, and_right_false}
use Rattle.rules.specs.State.{at}
use Rattle.eligibility.specs.Eligibility.{waits_for}

module _ (kind job destination : List ℕ) (j d e : ℕ) where
  pub waits : at kind e ≡ 1 → at job e ≡ j → at destination e ≡ d → waits_for kind job destination j d e ≡ true
  unfolding waits_for
  waits k o t = and_both (and_both (eq-eqb (at kind e) 1 k) (eq-eqb (at job e) j o)) (eq-eqb (at destination e) d t)

  pub no_wait_kind : (at kind e ≡ 1 → ⊥) → waits_for kind job destination j d e ≡ false
  unfolding waits_for
  no_wait_kind n = and_left_false (eqb (at destination e) d) (and_left_false (eqb (at job e) j) (ne_eqb (at kind e) 1 n))

  pub no_wait_job : (at job e ≡ j → ⊥) → waits_for kind job destination j d e ≡ false
  unfolding waits_for
  no_wait_job n = and_left_false (eqb (at destination e) d) (and_right_false (eqb (at kind e) 1) (ne_eqb (at job e) j n))

  pub no_wait_destination : (at destination e ≡ d → ⊥) → waits_for kind job destination j d e ≡ false
  unfolding waits_for
  no_wait_destination n = and_right_false (eqb (at kind e) 1 && eqb (at job e) j) (ne_eqb (at destination e) d n)
