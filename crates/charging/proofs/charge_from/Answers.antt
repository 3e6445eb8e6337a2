-- The chain from the job itself, at the full depth. Assumes nothing.
use native.Mathlib.Omega.{arith}
use native.Mathlib.Numerals.{add-one}
use Prim.Native.Nat.{suc}
use mathlib.Core.Path.{◌∙◌, refl}
use Rattle.rules.specs.Preemption.{charged}
use Rattle.charging.proofs.Leads.{leads_below}
use Rattle.charging.proofs.charge_from.Goals as goal

pub overflow_add-y : goal.overflow_add-y
overflow_add-y c = let h = leads_below _ 32 (suc c.args.y) (omega arith) (omega arith) c.requires in omega arith

pub charge-requires : goal.charge-requires
charge-requires c = rw add-one c.requires

pub returns : goal.returns
unfolding charged
returns c = c.charge.ensures ∙ rw add-one refl
