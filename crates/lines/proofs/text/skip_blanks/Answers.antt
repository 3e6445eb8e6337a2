-- The library's `position` in the rest. Assumes nothing.
use Rattle.std.proofs.Common.{◌≡◌, ◌-◌, not, ◌∙◌, sym, eqb, length, take, drop, rules, tests, arith}
use Rattle.std.specs.List.{position}
use Rattle.std.proofs.lemmas.Iterator.{YieldsList-from_slice}
use Rattle.std.proofs.lemmas.Iterator.Search.{position_from_yields_List}
use Rattle.lines.proofs.FirstLaws.{first_some, first_none, part_length, part_at}
use Rattle.lines.proofs.text.skip_blanks.Goals as goal
use Rattle.lines.proofs.text.skip_blanks.Goals.{After-position}

at-position : (c : After-position) → c.position.result ≡ position (λ x. not (eqb x 32)) (take (length c.args.s.now - c.args.from) (drop c.args.from c.args.s.now))
at-position c =
    position_from_yields_List (λ x. not (eqb x 32)) _ _ c.position.result c.position.ensures.ran (YieldsList-from_slice (take (length c.args.s.now - c.args.from) (drop c.args.from c.args.s.now)) cc)
    (λ x b q k. search (rules, tests))

pub returns-in-Some : goal.returns-in-Some
returns-in-Some c =
    let a = c.args in
    first_some (λ x. not (eqb x 32)) a.s.now _ _ _ c.requires (part_length a.s.now a.from (length a.s.now) (omega arith)) (part_at a.s.now a.from (length a.s.now))
    (sym c.in-Some.is ∙ at-position (goal.at.returns-in-Some c).After-position)

pub returns-in-None : goal.returns-in-None
returns-in-None c =
    let a = c.args in
    first_none (λ x. not (eqb x 32)) a.s.now _ _ _ c.requires (part_length a.s.now a.from (length a.s.now) (omega arith)) (part_at a.s.now a.from (length a.s.now))
    (sym c.in-None.is ∙ at-position (goal.at.returns-in-None c).After-position)
