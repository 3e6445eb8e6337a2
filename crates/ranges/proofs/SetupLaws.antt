-- The test of a set-up, as the code goes about it.
use Prim.Native.Nat.{ℕ, zero, suc, ◌≤◌}
use mathlib.Core.Bool.{Bool, true, false, ◌&&◌, ◌||◌}
use mathlib.Core.List.{List}
use mathlib.Core.Path.{◌≡◌, refl, sym, ap, ◌∙◌}
use native.Mathlib.Omega.{arith}
use lib.ListN.{length, get_or, take}
use lib.Dec.{eqb}
use native.Mathlib.Numerals.{unary_clauses}
use Rattle.std.specs.List.{list_all}
use Rattle.std.proofs.lemmas.List.Folds.{list_all_more}
use Rattle.laws.specs.Range.{all_to}
use Rattle.laws.proofs.Bools.{and_left, and_right}
use Rattle.rules.specs.declared.Settings.{Settings}
use Rattle.rules.specs.declared.Setup.{Setup}
use Rattle.rules.specs.Sizes.{max_agents, max_window}
use Rattle.rules.specs.Setup.{within, feedback_in_range, slots_in_range, windows_in_range}
use Rattle.rules.proofs.RangeFacts.{within_facts}

-- the tests of one transport, joined
module _ (g : Settings) {a b c d e : Bool} where
  pub slots_joined : a ≡ within 1 max_agents g.agents → b ≡ within 2 100 g.cost → c ≡ within 0 100 g.loan → d ≡ within 0 100 g.discount
      → e ≡ within 0 100 g.minimum → a && (eqb g.cost 0 || b) && c && d && e ≡ slots_in_range g
  unfolding slots_in_range
  slots_joined ea eb ec ed ee = rw (ea, eb, ec, ed, ee) refl

  pub windows_joined : {f : Bool} → a ≡ within 1 max_window g.limit → b ≡ within 1 g.limit g.initial → c ≡ feedback_in_range 1 g.positive
      → d ≡ feedback_in_range 0 g.negative → e ≡ within 1 100 g.cohortlimit → f ≡ within 1 86_400 g.suspension
      → a && b && c && d && e && f ≡ windows_in_range g
  unfolding windows_in_range
  windows_joined ea eb ec ed ee ef = rw (ea, eb, ec, ed, ee, ef) refl

-- two tests, of which the second is made where the first passes
pub tested_on : {a b x y v : Bool} → a ≡ x → a ≡ true → b ≡ y → v ≡ b → v ≡ x && y
tested_on e t f g = rw (← e, t, ← f, g)

pub stopped : {a x v : Bool} (y : Bool) → a ≡ x → a ≡ false → v ≡ a → v ≡ x && y
stopped y e f g = rw (← e, g, f)

-- what is tested of the first n places
module _ {A : Type 0} (p : A → Bool) (l : List A) (d : A) where
  pub all_front : (n : ℕ) → n ≤ length l → list_all p (take n l) ≡ all_to (λ i. p (get_or l i d)) n
  unfolding all_to
  all_front zero h = refl
  all_front (suc n) h =
      let more = simp unary_clauses at (list_all_more p l n d (omega arith)) in
      more ∙ ap (λ b. b && p (get_or l n d)) (all_front n (omega arith))

module _ (u : Setup) {a : Bool} (sizes : a ≡ within 1 4 u.transports && within 1 32 u.destinations) (pass : a ≡ true) where
  pub transports_fit : u.transports ≤ 4
  transports_fit = (within_facts (and_left (within 1 4 u.transports) (within 1 32 u.destinations) (sym sizes ∙ pass))).1

  pub destinations_fit : u.destinations ≤ 32
  destinations_fit = (within_facts (and_right (within 1 4 u.transports) (within 1 32 u.destinations) (sym sizes ∙ pass))).1
