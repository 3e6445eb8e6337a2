use Rattle.std.proofs.Common.{◌*◌, arith}
use Rattle.std.proofs.lemmas.Slice.{put_mid-paste}
use Rattle.newjob.proofs.set_order.Goals as goal

pub returns : goal.returns
returns c = put_mid-paste (32 * c.args.j) _ _ _ c.args.order.now 32 c.copy_from_slice.ensures.after (omega arith) (omega arith)
