-- One name after the other. Assumes nothing.
use Rattle.lines.proofs.WordLaws.{same_is}
use Rattle.calling.proofs.LineLaws.{call_setup, call_job, call_pick, call_report, call_ask, call_board, call_none}
use Rattle.calling.proofs.ReplyLaws.{as_line, malformed_said}
use Rattle.calling.proofs.call.Goals as goal

pub returns-then-eq : goal.returns-then-eq
returns-then-eq c =
    let r = as_line _ (call_setup _ _ _ _ (same_is _ c.eq.ensures c.as_slice.ensures c.if-eq.true)) (c.set_up.ensures.state, c.set_up.ensures.text) in
    record { state = r.0; text = r.1 }

pub returns-then-eq-2 : goal.returns-then-eq-2
returns-then-eq-2 c =
    let n1 = same_is _ c.eq.ensures c.as_slice.ensures c.if-eq.false in
    let r = as_line _ (call_job _ _ _ _ n1 (same_is _ c.eq-2.ensures c.as_slice-2.ensures c.if-eq-2.true)) (c.take_job.ensures.state, c.take_job.ensures.text) in
    record { state = r.0; text = r.1 }

pub returns-then-eq-3 : goal.returns-then-eq-3
returns-then-eq-3 c =
    let n1 = same_is _ c.eq.ensures c.as_slice.ensures c.if-eq.false in
    let n2 = same_is _ c.eq-2.ensures c.as_slice-2.ensures c.if-eq-2.false in
    let r = as_line _ (call_pick _ _ _ _ n1 n2 (same_is _ c.eq-3.ensures c.as_slice-3.ensures c.if-eq-3.true)) (c.pick.ensures.state, c.pick.ensures.text) in
    record { state = r.0; text = r.1 }

pub returns-then-eq-4 : goal.returns-then-eq-4
returns-then-eq-4 c =
    let n1 = same_is _ c.eq.ensures c.as_slice.ensures c.if-eq.false in
    let n2 = same_is _ c.eq-2.ensures c.as_slice-2.ensures c.if-eq-2.false in
    let n3 = same_is _ c.eq-3.ensures c.as_slice-3.ensures c.if-eq-3.false in
    let r = as_line _ (call_report _ _ _ _ n1 n2 n3 (same_is _ c.eq-4.ensures c.as_slice-4.ensures c.if-eq-4.true)) (c.report.ensures.state, c.report.ensures.text) in
    record { state = r.0; text = r.1 }

pub returns-then-eq-5 : goal.returns-then-eq-5
returns-then-eq-5 c =
    let n1 = same_is _ c.eq.ensures c.as_slice.ensures c.if-eq.false in
    let n2 = same_is _ c.eq-2.ensures c.as_slice-2.ensures c.if-eq-2.false in
    let n3 = same_is _ c.eq-3.ensures c.as_slice-3.ensures c.if-eq-3.false in
    let n4 = same_is _ c.eq-4.ensures c.as_slice-4.ensures c.if-eq-4.false in
    let r = as_line _ (call_ask _ _ _ _ n1 n2 n3 n4 (same_is _ c.eq-5.ensures c.as_slice-5.ensures c.if-eq-5.true)) (c.ask.ensures.state, c.ask.ensures.text) in
    record { state = r.0; text = r.1 }

pub returns-then-eq-6 : goal.returns-then-eq-6
returns-then-eq-6 c =
    let n1 = same_is _ c.eq.ensures c.as_slice.ensures c.if-eq.false in
    let n2 = same_is _ c.eq-2.ensures c.as_slice-2.ensures c.if-eq-2.false in
    let n3 = same_is _ c.eq-3.ensures c.as_slice-3.ensures c.if-eq-3.false in
    let n4 = same_is _ c.eq-4.ensures c.as_slice-4.ensures c.if-eq-4.false in
    let n5 = same_is _ c.eq-5.ensures c.as_slice-5.ensures c.if-eq-5.false in
    let r = as_line _ (call_board _ _ _ _ n1 n2 n3 n4 n5 (same_is _ c.eq-6.ensures c.as_slice-6.ensures c.if-eq-6.true)) (c.board.ensures.state, c.board.ensures.text) in
    record { state = r.0; text = r.1 }

pub returns : goal.returns
returns c =
    let n1 = same_is _ c.eq.ensures c.as_slice.ensures c.if-eq.false in
    let n2 = same_is _ c.eq-2.ensures c.as_slice-2.ensures c.if-eq-2.false in
    let n3 = same_is _ c.eq-3.ensures c.as_slice-3.ensures c.if-eq-3.false in
    let n4 = same_is _ c.eq-4.ensures c.as_slice-4.ensures c.if-eq-4.false in
    let n5 = same_is _ c.eq-5.ensures c.as_slice-5.ensures c.if-eq-5.false in
    let n6 = same_is _ c.eq-6.ensures c.as_slice-6.ensures c.if-eq-6.false in
    let r = as_line _ (call_none _ _ _ _ n1 n2 n3 n4 n5 n6) (malformed_said _ (c.malformed.ensures.state, c.malformed.ensures.text)) in
    record { state = r.0; text = r.1 }
