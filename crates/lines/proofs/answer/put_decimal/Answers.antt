-- A number's decimals stand at the front of the digits, which have room for 20. Assumes nothing.
use native.Mathlib.Omega.{arith}
use mathlib.Core.Path.{sym}
use Rattle.writing.proofs.Decimals as decimals
use Rattle.lines.proofs.PutLaws.{put_as, wrote_front}
use Rattle.lines.proofs.answer.put_decimal.Goals as goal

pub put_number-k-requires : goal.put_number-k-requires
put_number-k-requires c = omega (arith, decimals.decimal_length c.args.x)

pub returns : goal.returns
returns c = put_as (sym (wrote_front c.put_number-k.ensures)) c.put.ensures
