-- Field by field, then the bytes of the name. Assumes nothing.
use Rattle.std.proofs.Common.{sym, arith}
use Rattle.std.proofs.lemmas.Result.{err_from_is_err_and}
use Rattle.rules.specs.Setup.{within}
use Rattle.journal.proofs.Extents.{number_ends}
use Rattle.reader.proofs.RecordLaws.{stops, name_number_lem, name_size, name_cut, name_whole}
use Rattle.reader.proofs.read_name.Goals as goal

pub returns-in_err-d : goal.returns-in_err-d
returns-in_err-d c = λ start.
    let p = err_from_is_err_and c.from_residual.result c.from_residual.ensures.1 in
    rw (p.1, p.2) (stops (name_number_lem _ start _ (sym c.in_err-d.ensures)))

pub returns-in_err-size : goal.returns-in_err-size
returns-in_err-size c = λ start.
    let p = err_from_is_err_and c.from_residual-in_err-size.result c.from_residual-in_err-size.ensures.1 in
    rw (p.1, p.2) (stops (name_size _ start _ (sym c.in_ok-d.ensures) (sym c.in_err-size.ensures)))

pub overflow_sub-journal : goal.overflow_sub-journal
overflow_sub-journal c = (number_ends _ (within 1 63) _ (sym c.in_ok-size.ensures)).1

pub returns-then-journal-size : goal.returns-then-journal-size
returns-then-journal-size c = λ start. stops (name_cut _ start _ (sym c.in_ok-d.ensures) (sym c.in_ok-size.ensures)
    (omega (arith, (number_ends _ (within 1 63) _ (sym c.in_ok-size.ensures)).1)))

pub returns : goal.returns
returns c = λ start. name_whole _ start _ (sym c.in_ok-d.ensures) (sym c.in_ok-size.ensures)
    (omega (arith, (number_ends _ (within 1 63) _ (sym c.in_ok-size.ensures)).1))
