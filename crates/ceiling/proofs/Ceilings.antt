-- What the invariant says of each row: a ceiling on its overtakers, a ceiling on its transport's picks at its last pick, and that its chain of names ends.
use Prim.Native.Nat.{ℕ, suc, ◌+◌, ◌-◌, ◌/◌, ◌≤◌, ◌<◌}
use mathlib.Core.Path.{◌≡◌}
use mathlib.Core.Bool.{true}
use native.Mathlib.Nat.{mul-le-mul_right}
use native.Mathlib.Omega.{arith}
use Rattle.laws.specs.Chain.{ends_in}
use Rattle.laws.proofs.Chain.{link_cases, ends_zero}
use Rattle.ceiling.specs.Columns.{Columns}
use Rattle.ceiling.proofs.Overtaken.{over_paid, over_none}
use Rattle.ceiling.proofs.DoubleCount.{div_ceiling}
use Rattle.ceiling.proofs.Invariant.{Inv}
use Rattle.ceiling.proofs.Chains.{chain_ends, depth_below}

module _ {cost : ℕ → ℕ} {g : Columns} {Ahead : ℕ → ℕ → Type 0} (i : Inv cost g Ahead) (j : ℕ) (l : j < g.rows) where
  pub over_ceiling : 2 ≤ cost (g.transport j) → g.over j ≤ g.n j / (cost (g.transport j) - 1)
  over_ceiling d = div_ceiling (cost (g.transport j)) (g.over j) (g.n j) d (over_paid i.forest i.overtaken j l)

  pub over_within : 2 ≤ cost (g.transport j) → g.over j ≤ g.n j
  over_within d = omega (arith, over_paid i.forest i.overtaken j l, mul-le-mul_right (g.over j) d)

  pub over_ceiling_free : cost (g.transport j) ≡ 0 → g.over j ≡ 0
  over_ceiling_free z = over_none i.forest i.overtaken j l z

  pub pick_ceiling : 2 ≤ cost (g.transport j) → g.last_pick j ≤ g.upto j + g.upto j / (cost (g.transport j) - 1) + g.last_blocked j
  pick_ceiling d = (i.noted.ceiling j l).dear d

  pub pick_ceiling_free : cost (g.transport j) ≡ 0 → g.last_pick j ≤ g.upto j + g.last_blocked j
  pick_ceiling_free z = (i.noted.ceiling j l).free z

  -- the picks that went past it are no more than the jobs passed over
  pub blocked_few : g.last_blocked j ≤ g.last_total j
  blocked_few = i.noted.bounded j l

  pub chains_end : ends_in g.names g.rows (suc j) ≡ true
  chains_end = chain_ends i.forest g.rows j l (depth_below i.forest j l)

  -- and from the row that it names
  pub names_end : ends_in g.names g.rows (g.names j) ≡ true
  names_end =
      link_cases (λ k. ends_in g.names g.rows k ≡ true) (g.names j) (ends_zero g.names g.rows)
      (λ z e. let h = (i.forest.named j z l e).inside in chain_ends i.forest g.rows z h (depth_below i.forest z h))
