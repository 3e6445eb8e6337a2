-- The sizes first, so that the parts stay within their columns. Assumes nothing.
use Rattle.std.proofs.Common.{◌≡◌, ◌&&◌, length, get_or, ltb, refl, sym, ◌∙◌, rules}
use Rattle.laws.specs.Range.{all_to}
use Rattle.laws.proofs.Bools.{and_left}
use Rattle.rules.specs.State.{zero_settings}
use Rattle.rules.specs.Setup.{within, settings_in_range, setup_in_range}
use Rattle.ranges.proofs.SetupLaws.{tested_on, stopped, all_front, transports_fit, destinations_fit}
use Rattle.ranges.proofs.in_range.Goals as goal
use Rattle.ranges.proofs.in_range.Goals.{then-within, else-within, then-within-2, else-within-2, Joined-within, Joined-within-2}

sizes : (c : Joined-within) → c.if-within.value ≡ within 1 4 c.args.u.transports && within 1 32 c.args.u.destinations
sizes c =
    elim c.if-within.branch [
      | then-within w ↦ tested_on c.within.ensures w.if-within.true w.within-then-within.ensures w.value-is
      | else-within w ↦ stopped _ c.within.ensures w.if-within.false w.value-is
    ]

pub shared_ref_as_front-all_settings_in_range : goal.shared_ref_as_front-all_settings_in_range
shared_ref_as_front-all_settings_in_range c = transports_fit c.args.u (sizes (goal.at.shared_ref_as_front-all_settings_in_range c).Joined-within) c.if-within-2.true

tested : (c : Joined-within-2) → c.if-within.value ≡ within 1 4 c.args.u.transports && within 1 32 c.args.u.destinations
    → c.if-within-2.value ≡ within 1 4 c.args.u.transports && within 1 32 c.args.u.destinations && all_to (λ t. settings_in_range (get_or c.args.u.settings t zero_settings)) c.args.u.transports
tested c e =
    elim c.if-within-2.branch [
      | then-within-2 w ↦
          let fits = transports_fit c.args.u e w.if-within-2.true in
          let n : length c.args.u.settings ≡ 4 = search rules in
          tested_on e w.if-within-2.true (w.all_settings_in_range.ensures ∙ all_front settings_in_range c.args.u.settings zero_settings c.args.u.transports (rw n fits)) w.value-is
      | else-within-2 w ↦ stopped _ e w.if-within-2.false w.value-is
    ]

pub shared_ref_as_front-all_homes_there : goal.shared_ref_as_front-all_homes_there
shared_ref_as_front-all_homes_there c =
    let at = goal.at.shared_ref_as_front-all_homes_there c in
    destinations_fit c.args.u refl (and_left _ _ (sym (tested at.Joined-within-2 (sizes at.Joined-within)) ∙ c.if-all_settings_in_range.true))

pub returns-then-all_settings_in_range : goal.returns-then-all_settings_in_range
unfolding setup_in_range
returns-then-all_settings_in_range c =
    let at = goal.at.returns-then-all_settings_in_range c in
    let u = c.args.u in
    let t = tested at.Joined-within-2 (sizes at.Joined-within) in
    let fits = destinations_fit u refl (and_left _ _ (sym t ∙ c.if-all_settings_in_range.true)) in
    let n : length u.home ≡ 32 = search rules in
    tested_on t c.if-all_settings_in_range.true (c.all_homes_there.ensures ∙ all_front (λ t. ltb t u.transports) u.home 0 u.destinations (rw n fits)) refl

pub returns-else-all_settings_in_range : goal.returns-else-all_settings_in_range
unfolding setup_in_range
returns-else-all_settings_in_range c =
    let at = goal.at.returns-else-all_settings_in_range c in
    stopped _ (tested at.Joined-within-2 (sizes at.Joined-within)) c.if-all_settings_in_range.false refl
