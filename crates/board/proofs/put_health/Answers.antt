-- By the two cases of the health. Assumes nothing.
use mathlib.Core.Path.{sym}
use Rattle.laws.proofs.Writing.{fits_as, wrote_as}
use Rattle.board.proofs.TextLaws.{live_text_lem, dead_text_lem}
use Rattle.board.proofs.put_health.Goals as goal

pub put_live-requires : goal.put_live-requires
put_live-requires c = fits_as (live_text_lem _ _ c.args.busy c.in-Live.is) c.requires

pub put_dead-requires : goal.put_dead-requires
put_dead-requires c = fits_as (dead_text_lem _ _ c.args.busy c.in-Dead.is) c.requires

pub returns-in-Live : goal.returns-in-Live
returns-in-Live c = wrote_as (sym (live_text_lem _ _ _ c.in-Live.is)) c.put_live.ensures

pub returns-in-Dead : goal.returns-in-Dead
returns-in-Dead c = wrote_as (sym (dead_text_lem _ _ _ c.in-Dead.is)) c.put_dead.ensures
