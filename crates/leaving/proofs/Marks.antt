-- Who stays: jobs that lost no entry stay as they were, the others are looked at.
use Prim.Native.Nat.{ℕ, ◌+◌, ◌<◌}
use mathlib.Core.Path.{◌≡◌, refl, sym, ◌∙◌, ap}
use mathlib.Core.Bool.{Bool, true, false}
use mathlib.Core.List.{List, ◌++◌}
use native.Mathlib.Numerals.{add-one}
use lib.ListN.{length, get_or, set, drop}
use lib.Dec.{eqb}
use borrow.Author.Tests.{ne_eqb}
use Rattle.laws.specs.Range.{any_to, table_to}
use Rattle.laws.proofs.Bools.{and_both, and_left_false, case_bool}
use Rattle.laws.proofs.Table.{table_is, table_write}
use Rattle.laws.proofs.Fill.{table_keep}
use Rattle.leaving.specs.Leaving.{used_at, stays_at, OthersStay}

module _ (kind job : List ℕ) (present : List Bool) (these : ℕ → Bool) (others : OthersStay these kind job present) where
  stay_other : (j : ℕ) → j < 32 → these j ≡ false → stays_at kind job present 512 j ≡ get_or present j false
  stay_other j l f =
      case_bool (get_or present j false) (λ t. and_both t (others j l f t) ∙ sym t) (λ n. and_left_false (any_to (used_at kind job j) 512) n ∙ sym n)

  pub stay_kept : (j : ℕ) → j < 32 → j < length present → these j ≡ false
      → table_to (stays_at kind job present 512) j ++ drop j present ≡ table_to (stays_at kind job present 512) (j + 1) ++ drop (j + 1) present
  stay_kept j l h f = rw add-one (table_keep (stays_at kind job present 512) false present j h (stay_other j l f))

-- where all but one lost nothing, that one is looked at
pub stay_one : (kind job : List ℕ) (present : List Bool) (of : ℕ) {v : Bool} → length present ≡ 32 → OthersStay (λ j. eqb j of) kind job present
    → v ≡ stays_at kind job present 512 of → set present of v ≡ table_to (stays_at kind job present 512) 32
stay_one kind job present of {v} len others is =
    ap (λ l. set l of v) (sym (table_is (λ j. get_or present j false) false present 32 len (λ j l. refl)))
    ∙ table_write (λ j. get_or present j false) (stays_at kind job present 512) 32 of v is
    (λ j l ne. sym (stay_other kind job present (λ j. eqb j of) others j l (ne_eqb j of ne)))

-- a job stays that is present and has an entry, and none that is absent
pub stays_both : (kind job : List ℕ) (present : List Bool) (j : ℕ) {v : Bool} → get_or present j false ≡ true → v ≡ any_to (used_at kind job j) 512
    → v ≡ stays_at kind job present 512 j
stays_both kind job present j p is = rw p is

pub stays_absent : (kind job : List ℕ) (present : List Bool) (j : ℕ) → get_or present j false ≡ false → false ≡ stays_at kind job present 512 j
stays_absent kind job present j p = sym (and_left_false (any_to (used_at kind job j) 512) p)
