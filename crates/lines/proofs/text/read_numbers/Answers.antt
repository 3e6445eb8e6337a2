use Rattle.std.proofs.Common.{sym, arith}
use Rattle.lines.proofs.ReadingLaws.{reading_start, reading_end, reading_not, reading_more}
use Rattle.lines.proofs.text.read_numbers.Goals as goal

pub loop-at-init : goal.loop-at-init
loop-at-init c = reading_start _ _ _ _ c.skip_blanks-at.ensures

pub returns-in_err-out : goal.returns-in_err-out
returns-in_err-out c =
    let r = reading_not _ _ _ _ _ _ c.loop-at.invariant c.loop-at-test.true c.requires.1 _ c.find-end.ensures (sym c.in_err-out.ensures) in
    rw c.from_residual.ensures r

pub loop-at-preserved : goal.loop-at-preserved
loop-at-preserved c =
    reading_more _ _ _ _ _ _ c.loop-at.invariant c.loop-at-test.true c.requires.1 _ c.find-end.ensures _
    (sym c.in_ok-out.ensures) _ c.skip_blanks-at-in-loop-at.ensures

pub returns : goal.returns
returns c = reading_end _ _ _ _ _ _ c.loop-at.invariant (omega arith)
