use Rattle.running.proofs.WholeLaws.{told, run_refused, run_accepted}
use Rattle.running.proofs.run.Goals as goal

pub returns-in-Err : goal.returns-in-Err
returns-in-Err c =
    let b = c in
    run_refused b.args.u b.args.calls.now b.args.answers.now b.args.lists.now b.args.texts.now
    (told _ _ c.set_up-fresh.ensures.1 c.in-Err.is)

pub returns-in-Ok : goal.returns-in-Ok
returns-in-Ok c =
    let a = c in
    let m = a in
    let b = m in
    run_accepted b.args.u b.args.calls.now b.args.answers.now b.args.lists.now b.args.texts.now m.set_up-fresh.result _
    (told _ _ m.set_up-fresh.ensures.1 a.in-Ok.is) m.set_up-fresh.ensures.0 c.run_from.ensures
