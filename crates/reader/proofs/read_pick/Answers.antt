-- One field. Assumes nothing.
use Rattle.std.proofs.Common.{sym, refl}
use Rattle.std.proofs.lemmas.Result.{err_from_is_err_and}
use Rattle.journal.specs.Told.{record_of, answer_of}
use Rattle.reader.proofs.RecordLaws.{stops, pick_clock, pick_whole}
use Rattle.reader.proofs.read_pick.Goals as goal

pub returns-in_err-clock : goal.returns-in_err-clock
returns-in_err-clock c = λ start.
    let p = err_from_is_err_and c.from_residual.result c.from_residual.ensures.1 in
    rw (p.1, p.2) (stops (pick_clock _ start _ (sym c.in_err-clock.ensures)))

pub returns : goal.returns
unfolding record_of answer_of
returns c = λ start. rw (pick_whole _ start _ (sym c.in_ok-clock.ensures)) refl
