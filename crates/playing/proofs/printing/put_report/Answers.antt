-- The text is that of the answer's case. Assumes nothing.
use Rattle.std.proofs.Common.{sym, ◌∙◌}
use Rattle.playing.specs.Plays.{number_line, report_line}
use Rattle.lines.proofs.PutLaws.{put_case, put_more}
use Rattle.playing.proofs.printing.put_report.Goals as goal

pub returns-in-Err : goal.returns-in-Err
unfolding report_line
returns-in-Err c = put_case report_line c.in-Err.is (put_case number_line (sym (c.from.ensures ∙ c.number.ensures)) c.put_line.ensures)

pub returns-in-Ok : goal.returns-in-Ok
unfolding report_line
returns-in-Ok c = put_case report_line c.in-Ok.is (put_more c.put_move-p.ensures c.put_byte.ensures)
