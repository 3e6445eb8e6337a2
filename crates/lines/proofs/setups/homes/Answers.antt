use Rattle.std.proofs.Common.{refl, replicate, length-set, arith}
use Rattle.laws.proofs.Fill.{fill_none, fill_more}
use Rattle.lines.proofs.SetupLaws.{homes_made}
use Rattle.lines.proofs.setups.homes.Goals as goal

pub loop-j-init : goal.loop-j-init
loop-j-init c = (refl, fill_none _ _)

pub loop-j-preserved : goal.loop-j-preserved
loop-j-preserved c = (simp length-set (omega arith), fill_more _ _ _ (omega arith) c.loop-j.invariant.1 c.word.ensures)

pub returns : goal.returns
returns c = homes_made _ _ (replicate 32 0) c.loop-j.j refl (omega arith) c.loop-j.invariant.1
