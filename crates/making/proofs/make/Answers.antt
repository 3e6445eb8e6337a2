use Rattle.layout.proofs.LayoutLaws.{head_ask, head_failure, head_pick, head_success, inside, last_kind}
use Rattle.making.proofs.KindLaws.{head_fits, job_fits, some_words}
use Rattle.making.proofs.KindLaws.{answered_job, answered_pick, answered_success, answered_failure, answered_ask, answered_board}
use native.Mathlib.Omega.{arith}
use Rattle.making.proofs.make.Goals as goal

pub bounds-words-0 : goal.bounds-words-0
bounds-words-0 c = some_words c.requires

pub make_job-requires : goal.make_job-requires
make_job-requires c =
    let b = c in
    (b.requires.room, job_fits b.requires c.in-1.is)

pub returns-in-1 : goal.returns-in-1
returns-in-1 c =
    let k = c in
    answered_job k.requires _ k.in-1.is c.make_job.ensures

pub bounds-words-1 : goal.bounds-words-1
bounds-words-1 c = inside (head_pick _ c.in-2.is) (head_fits c.requires) (omega arith)

pub make_pick-requires : goal.make_pick-requires
make_pick-requires c = c.requires.room

pub returns-in-2 : goal.returns-in-2
returns-in-2 c =
    let k = c in
    answered_pick k.requires _ k.in-2.is c.make_pick.ensures

pub make_report-requires : goal.make_report-requires
make_report-requires c =
    let b = c in
    (b.requires.room, inside (head_success _ c.in-3.is) (head_fits b.requires) (omega arith))

pub returns-in-3 : goal.returns-in-3
returns-in-3 c =
    let k = c in
    answered_success k.requires _ k.in-3.is c.make_report.ensures

pub make_report-requires-in-4 : goal.make_report-requires-in-4
make_report-requires-in-4 c =
    let b = c in
    (b.requires.room, inside (head_failure _ c.in-4.is) (head_fits b.requires) (omega arith))

pub returns-in-4 : goal.returns-in-4
returns-in-4 c =
    let k = c in
    answered_failure k.requires _ k.in-4.is c.make_report-in-4.ensures

pub bounds-words-1-in-5 : goal.bounds-words-1-in-5
bounds-words-1-in-5 c = inside (head_ask _ c.in-5.is) (head_fits c.requires) (omega arith)

pub make_ask-requires : goal.make_ask-requires
make_ask-requires c = c.requires.room

pub returns-in-5 : goal.returns-in-5
returns-in-5 c =
    let k = c in
    answered_ask k.requires _ k.in-5.is c.make_ask.ensures

pub make_board-requires : goal.make_board-requires
make_board-requires c = c.requires.room

pub returns-in_default : goal.returns-in_default
returns-in_default c =
    let kind = last_kind _ c.requires.known (omega arith) (omega arith) (omega arith) (omega arith) (omega arith) in
    answered_board c.requires _ kind c.make_board.ensures
