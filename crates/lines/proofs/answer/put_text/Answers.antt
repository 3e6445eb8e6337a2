use Rattle.std.proofs.Common.{refl, ap, map, rules, arith}
use Rattle.lines.specs.Texts.{shown_byte}
use Rattle.lines.proofs.PutLaws.{put_no_shown, put_next_shown, put_as, take_most}
use Rattle.lines.proofs.answer.put_text.Goals as goal

pub loop-b-init : goal.loop-b-init
loop-b-init c = (refl, put_no_shown c.args.written.now _ _)

pub loop-b-preserved : goal.loop-b-preserved
loop-b-preserved c = (
  search rules,
  put_next_shown _ _ _ c.loop-b.b-index c.loop-b.invariant.1 (omega arith) c.shown.ensures c.put_byte-p.ensures,
)

pub returns : goal.returns
returns c = put_as (ap (map shown_byte) (take_most c.args.n c.args.written.now c.at_most.ensures c.loop-b-test.false)) c.loop-b.invariant.1
