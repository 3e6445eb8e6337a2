use Rattle.std.proofs.Common.{refl, sym, ap, rules, arith}
use Rattle.lines.specs.Texts.{numbers}
use Rattle.rules.specs.Board.{numbered}
use Rattle.lines.proofs.PutLaws.{put_no_number, put_next_number, put_case, put_as, put_more, take_most}
use Rattle.lines.proofs.answer.put_list.Goals as goal

pub loop-x-init : goal.loop-x-init
loop-x-init c = (refl, put_no_number c.args.list.now _ _)

pub loop-x-preserved : goal.loop-x-preserved
loop-x-preserved c = (
  search rules,
  put_next_number _ _ _
      c.loop-x.x-index c.loop-x.invariant.1 (omega arith)
      (put_case numbered (sym c.from-in-loop-x.ensures) c.put_number-p-in-loop-x.ensures),
)

pub returns : goal.returns
returns c = put_more (put_case numbered (sym c.from.ensures) c.put_number-p.ensures) (put_as (ap numbers (take_most c.args.n c.args.list.now (omega (arith, c.min.ensures, c.from-2.ensures)) c.loop-x-test.false)) c.loop-x.invariant.1)
