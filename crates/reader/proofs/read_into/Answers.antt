use Rattle.std.proofs.Common.{ℕ, ◌≡◌, ◌≤◌, List, ◌∙◌, sym, arith}
use Rattle.std.proofs.lemmas.Result.{err_from_is_err_and}
use Rattle.rules.specs.Setup.{within}
use Rattle.rules.proofs.RangeFacts.{within_facts}
use Rattle.journal.specs.Numbers.{number, number_at}
use Rattle.journal.specs.Records.{ranged}
use Rattle.reader.proofs.RecordLaws.{stops, in_range, job_clock, job_transport, job_count_lem, job_listed, next_faulty}
use Rattle.reader.proofs.JobLaws.{none_listed, one_more, all_listed}
use Rattle.reader.proofs.read_into.Goals as goal

few : (bytes : List ℕ) (offset : ℕ) {count next : ℕ} → number count next ≡ ranged (within 1 256) (number_at bytes offset) → count ≤ 256
few bytes offset h = (within_facts {low = 1} {high = 256} (in_range (within 1 256) _ (sym h))).1

pub returns-in_err-clock : goal.returns-in_err-clock
returns-in_err-clock c = λ start.
    let p = err_from_is_err_and c.from_residual.result c.from_residual.ensures.1 in
    rw (p.1, p.2) (stops (job_clock _ start _ (sym c.in_err-clock.ensures)))

pub returns-in_err-transport : goal.returns-in_err-transport
returns-in_err-transport c = λ start.
    let p = err_from_is_err_and c.from_residual-in_err-transport.result c.from_residual-in_err-transport.ensures.1 in
    rw (p.1, p.2) (stops (job_transport _ start _ (sym c.in_ok-clock.ensures) (sym c.in_err-transport.ensures)))

pub returns-in_err-count : goal.returns-in_err-count
returns-in_err-count c = λ start.
    let p = err_from_is_err_and c.from_residual-in_err-count.result c.from_residual-in_err-count.ensures.1 in
    rw (p.1, p.2) (stops (job_count_lem _ start _ (sym c.in_ok-clock.ensures) (sym c.in_ok-transport.ensures) (sym c.in_err-count.ensures)))

pub loop-i-init : goal.loop-i-init
loop-i-init c = none_listed _ _ (few _ _ c.in_ok-count.ensures) c.requires (λ start. job_listed _ start _ (sym c.in_ok-clock.ensures) (sym c.in_ok-transport.ensures) (sym c.in_ok-count.ensures))

pub returns-in_err-d : goal.returns-in_err-d
returns-in_err-d c = λ start.
    let p = err_from_is_err_and c.from_residual-in_err-d.result c.from_residual-in_err-d.ensures.1 in
    rw (p.1, p.2) (stops (c.loop-i.invariant.ahead start ∙ next_faulty _ start _ _ _ _ _ (omega arith) (sym c.in_err-d.ensures)))

pub bounds-list-i : goal.bounds-list-i
bounds-list-i c = omega (arith, c.loop-i.invariant.room)

pub loop-i-preserved : goal.loop-i-preserved
loop-i-preserved c = one_more _ _ c.loop-i.invariant (omega arith) (sym c.in_ok-d.ensures)

pub returns : goal.returns
returns c = λ start. all_listed _ _ c.loop-i.invariant (omega arith) start
