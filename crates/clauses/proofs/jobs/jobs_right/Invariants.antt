-- `clauses::jobs::jobs_right` meets its contract. Invariant: the jobs passed are right.
use Rattle.std.proofs.Common.{◌≡◌, true, false, get_or}
use Rattle.laws.specs.Range.{all_to}
use Rattle.rules.specs.Sound.{implies}
use Rattle.clauses.specs.Clauses.{job_test}
use Rattle.clauses.proofs.jobs.jobs_right.Given as goal

abbrev pub invariant-loop-j : goal.invariant-loop-j
invariant-loop-j l = all_to (λ j. implies (get_or l.g.present j false) (job_test l.g l.u.settings l.waiting l.busy j)) l.j ≡ true
