-- The library's `position` in the part. Assumes nothing.
use Rattle.std.proofs.Common.{◌≡◌, ◌-◌, ◌∙◌, sym, eqb, take, drop, rules, tests}
use Rattle.std.specs.List.{position}
use Rattle.std.proofs.lemmas.Iterator.{YieldsList-from_slice}
use Rattle.std.proofs.lemmas.Iterator.Search.{position_from_yields_List}
use Rattle.lines.proofs.FirstLaws.{first_some, first_none, part_length, part_at}
use Rattle.lines.proofs.text.find.Goals as goal
use Rattle.lines.proofs.text.find.Goals.{After-position}

at-position : (c : After-position) → let a = c.args in c.position.result ≡ position (λ x. eqb x a.b) (take (a.to - a.from) (drop a.from a.s.now))
at-position c =
    let a = c.args in
    position_from_yields_List (λ x. eqb x a.b) _ _ c.position.result c.position.ensures.ran (YieldsList-from_slice (take (a.to - a.from) (drop a.from a.s.now)) cc)
    (λ x b q k. search (rules, tests))

pub returns-in-Some : goal.returns-in-Some
returns-in-Some c =
    let a = c.args in
    first_some (λ x. eqb x a.b) a.s.now _ _ _ c.requires.0 (part_length a.s.now a.from a.to c.requires.1) (part_at a.s.now a.from a.to)
    (sym c.in-Some.is ∙ at-position (goal.at.returns-in-Some c).After-position)

pub returns-in-None : goal.returns-in-None
returns-in-None c =
    let a = c.args in
    first_none (λ x. eqb x a.b) a.s.now _ _ _ c.requires.0 (part_length a.s.now a.from a.to c.requires.1) (part_at a.s.now a.from a.to)
    (sym c.in-None.is ∙ at-position (goal.at.returns-in-None c).After-position)
