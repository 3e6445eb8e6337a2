-- The text is that of the answer's case. Assumes nothing.
use Rattle.std.proofs.Common.{sym, ◌∙◌}
use Rattle.playing.specs.Plays.{number_line, refusal_line}
use Rattle.lines.proofs.PutLaws.{put_case, put_none}
use Rattle.playing.proofs.printing.put_refusal.Goals as goal

pub returns-in-Err : goal.returns-in-Err
unfolding refusal_line
returns-in-Err g c = put_case refusal_line c.in-Err.is (put_case number_line (sym (c.from.ensures ∙ c.number.ensures)) c.put_line.ensures)

pub returns-in-Ok : goal.returns-in-Ok
unfolding refusal_line
returns-in-Ok g c = put_case refusal_line c.in-Ok.is (put_none _ _)
