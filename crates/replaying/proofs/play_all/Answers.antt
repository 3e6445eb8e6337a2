use Rattle.std.proofs.Common.{◌∙◌, ap, Ok}
use Rattle.journal.specs.Records.{read_at}
use Rattle.replaying.proofs.JournalLaws.{told}
use Rattle.replaying.proofs.TurnLaws.{starts, turns, full, closes, closes_end, stands}
use Rattle.replaying.proofs.play_all.Goals as goal

pub loop-used-init : goal.loop-used-init
loop-used-init c = starts _ _ _ c.requires

pub returns-in-Err : goal.returns-in-Err
returns-in-Err c =
    let r = stands _ _ _
    (closes c.loop-used.invariant c.loop-used-test.true (told (read_at _ _) c.read_at-r.ensures c.in-Err.is) c.put_refused-n.ensures)
    c.stand.ensures in
    record { state = r.0; used = r.1.0; text = r.1.1 }

pub returns-in-None : goal.returns-in-None
returns-in-None c =
    let r = stands _ _ _
    (closes_end c.loop-used.invariant c.loop-used-test.true (told (read_at _ _) c.read_at-r.ensures (c.in-Ok.is ∙ ap Ok c.in-None.is)))
    c.stand-in-None.ensures in
    record { state = r.0; used = r.1.0; text = r.1.1 }

pub loop-used-preserved : goal.loop-used-preserved
loop-used-preserved c =
    let t = told (read_at _ _) c.read_at-r.ensures (c.in-Ok.is ∙ ap Ok c.in-Some.is) in
    turns c.loop-used.invariant c.loop-used-test.true t.1 t.2 c.play-p.ensures.state c.play-p.ensures.text

pub returns : goal.returns
returns c =
    let r = stands _ _ _ (full c.loop-used.invariant c.loop-used-test.false) c.stand-2.ensures in
    record { state = r.0; used = r.1.0; text = r.1.1 }
