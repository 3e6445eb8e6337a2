-- `listing::queues::jobs_on` meets its contract. Invariant: the places passed hold the test of their job.
use Rattle.std.proofs.Common.{ℕ, ◌≡◌, ◌<◌, ◌&&◌, false, eqb, length, get_or}
use Rattle.rules.specs.State.{at}
use Rattle.listing.proofs.queues.jobs_on.Given as goal

abbrev pub invariant-loop-j : goal.invariant-loop-j
invariant-loop-j l = (length l.on ≡ 32) × ((i : ℕ) → i < l.j → get_or l.on i false ≡ get_or l.present i false && eqb (at l.transport i) l.t)
