use mathlib.Core.Path.{◌≡◌, sym, ◌∙◌}
use mathlib.Core.Bool.{true, false}
use Rattle.rules.specs.Setup.{setup_in_range}
use Rattle.startup.proofs.SetupReplies.{setup_refused, setup_accepted}
use Rattle.startup.proofs.set_up.Goals as goal
use Rattle.startup.proofs.set_up.Goals.{Else-not-in_range, Then-not-in_range}

outside : (c : Then-not-in_range) → setup_in_range c.args.u ≡ false
outside c = sym c.in_range.ensures ∙ c.if-not-in_range.true

inside : (c : Else-not-in_range) → setup_in_range c.args.u ≡ true
inside c = sym c.in_range.ensures ∙ c.if-not-in_range.false

pub returns-then-not-in_range : goal.returns-then-not-in_range
returns-then-not-in_range c = (setup_refused c.args.u c.zero.result (outside (goal.at.returns-then-not-in_range c).Then-not-in_range) c.zero.ensures, sym (outside (goal.at.returns-then-not-in_range c).Then-not-in_range))

pub fresh-requires : goal.fresh-requires
fresh-requires c = inside (goal.at.fresh-requires c).Else-not-in_range

pub returns : goal.returns
returns c = (setup_accepted c.args.u c.fresh.result (inside (goal.at.returns c).Else-not-in_range) c.fresh.ensures, sym (inside (goal.at.returns c).Else-not-in_range))
