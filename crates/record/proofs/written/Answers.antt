-- By the part that is there. Assumes nothing.
use Rattle.std.proofs.Common.{refl}
use Rattle.record.specs.Lines.{line_in}
use Rattle.record.proofs.DoneLaws.{done_as, both, nothing_done, none_done}
use Rattle.record.proofs.written.Goals as goal

pub returns-in-Whole : goal.returns-in-Whole
unfolding line_in
returns-in-Whole c = let r = both (done_as (rw c.in-Whole.is refl) c.whole.ensures) in record { done = r.0; bytes = r.1 }

pub returns-in-TooLong : goal.returns-in-TooLong
unfolding line_in
returns-in-TooLong c = let r = both (none_done (rw c.in-TooLong.is refl)) in record { done = r.0; bytes = r.1 }

pub returns-in-TooLongComment : goal.returns-in-TooLongComment
unfolding line_in
returns-in-TooLongComment c = let r = both (nothing_done (rw c.in-TooLongComment.is refl)) in record { done = r.0; bytes = r.1 }
