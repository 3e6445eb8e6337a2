-- The rule of A6's table, proved once for all its entries: a test that is computed, and a law that turns it into the rule at each N.
use Prim.Native.Nat.{ℕ, ◌+◌, ◌-◌, ◌≤◌, ◌<◌}
use mathlib.Core.Path.{◌≡◌, refl, sym, ◌∙◌, ap}
use mathlib.Core.Bool.{Bool, true}
use mathlib.Core.List.{List}
use native.Mathlib.Omega.{arith}
use lib.ListN.{get_or}
use Rattle.laws.specs.Range.{all_to}
use Rattle.laws.proofs.All.{all_at}
use Rattle.rules.specs.Sizes.{max_window}
use Rattle.rules.specs.Windows.{root}
use Rattle.rules.proofs.Roots.{is_root, root_is}
use Rattle.roots.specs.declared.TheConstants.{UP_TO_29, FROM_30}

-- of a part of the table that begins with the root of `first`: every entry R of the first n has R·R·N ≤ U-as-U, and R + 1 has not
abbrev pub all_roots : ℕ → ℕ → List ℕ → Bool
all_roots first n table = all_to (λ k. is_root (first + k) (get_or table k 0)) n

pub root_at : (first n : ℕ) (table : List ℕ) → all_roots first n table ≡ true → (N : ℕ) → 1 ≤ first → first ≤ N → N < first + n → get_or table (N - first) 0 ≡ root N
root_at first n table test N one from most =
    let k = N - first in
    let e : first + k ≡ N = omega arith in
    sym (root_is (first + k) (get_or table k 0) (omega arith) (all_at (λ k. is_root (first + k) (get_or table k 0)) n test k (omega arith))) ∙ ap root e

-- each part of the table passes the test

pub root_up_to : (N : ℕ) → 1 ≤ N → N < 30 → get_or UP_TO_29 (N - 1) 0 ≡ root N
unfolding all_to
root_up_to N from most = root_at 1 29 UP_TO_29 refl N (omega arith) from most

pub root_from : (N : ℕ) → 30 ≤ N → N ≤ max_window → get_or FROM_30 (N - 30) 0 ≡ root N
unfolding all_to
root_from N from most = root_at 30 971 FROM_30 refl N (omega arith) from (omega arith)
