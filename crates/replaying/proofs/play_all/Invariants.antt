-- Each record is a turn; the budget, the journal's end or a refused record ends it. Assumes nothing.
use Rattle.replaying.proofs.TurnLaws.{Playing}
use Rattle.replaying.proofs.play_all.Given as goal

abbrev pub invariant-loop-used : goal.invariant-loop-used
invariant-loop-used l = Playing l.journal l.initial.out l.budget l.state l.used l.at l.length l.out
