-- The record is the one that the numbers say. Assumes nothing.
use Rattle.std.proofs.Common.{arith}
use Rattle.std.proofs.lemmas.Result.{err_from_is_err_and}
use Rattle.record.proofs.LineLaws.{pick_none, pick_said}
use Rattle.record.proofs.DoneLaws.{none_done, says_done, says_refused}
use Rattle.record.proofs.write_pick.Goals as goal

pub returns-in_default : goal.returns-in_default
returns-in_default c = none_done (pick_none _ (λ q. omega (arith, q, c.in_default.len_below)))

pub returns-in_default-2 : goal.returns-in_default-2
returns-in_default-2 c = none_done (pick_none _ (λ q. omega (arith, q, c.in_default.len_at_least)))

pub returns-in_err-write_pick : goal.returns-in_err-write_pick
returns-in_err-write_pick c =
    let p = err_from_is_err_and c.from_residual.result c.from_residual.ensures.1 in
    rw p.1 (says_refused _ _ (pick_said _ (omega (arith, c.in-len1.len_at_least, c.in-len1.len_below))) c.requires c.write_pick.ensures.bytes c.in_err-write_pick.ensures.answer p.2)

pub returns : goal.returns
returns c = says_done _ _ (pick_said _ (omega (arith, c.in-len1.len_at_least, c.in-len1.len_below))) c.requires c.write_pick.ensures.bytes c.in_ok-write_pick.ensures.answer
