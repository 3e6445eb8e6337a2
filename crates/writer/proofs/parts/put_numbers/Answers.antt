use Rattle.writer.proofs.NumberLaws.{small_at}
use Rattle.writer.proofs.StoredLaws.{stored_length, stored_no_number, next_room, stored_next, stored_all}
use Rattle.writer.proofs.parts.put_numbers.Goals as goal

pub loop-x-init : goal.loop-x-init
loop-x-init c = stored_no_number c.args.list.now _ _

pub put_number-p-requires : goal.put_number-p-requires
put_number-p-requires c = (small_at _ _ c.loop-x-test.true c.requires.0, next_room _ _ c.loop-x.invariant c.loop-x-test.true c.requires.1)

pub loop-x-preserved : goal.loop-x-preserved
loop-x-preserved c = stored_next _ _ c.loop-x.invariant c.loop-x-test.true c.put_number-p.ensures

pub shape_of-buffer : goal.shape_of-buffer
shape_of-buffer c = stored_length c.loop-x.invariant

pub returns : goal.returns
returns c = stored_all _ _ c.loop-x.invariant c.loop-x-test.false
