-- One text behind the other. Assumes nothing.
use Rattle.std.proofs.Common.{sym, ◌∙◌}
use Rattle.rules.specs.Board.{decimal}
use Rattle.lines.proofs.PutLaws.{put_case, put_more}
use Rattle.replaying.specs.Replay.{close_line}
use Rattle.replaying.proofs.put_refused.Goals as goal

pub returns : goal.returns
unfolding close_line
returns c = put_more (put_more (put_case decimal (sym (c.from.ensures ∙ c.number.ensures)) c.put_decimal-p.ensures) c.put_number-q.ensures) c.put_byte.ensures
