-- What is answered of the job that preempts.
use Rattle.std.specs.Prelude.{ℕ, zero, suc, Option, Some, None}
use Rattle.rules.specs.declared.State.{State}
use Rattle.rules.specs.State.{waiting_of}
use Rattle.preemption.specs.declared.Preemptor.{Preemptor}

-- the job that a link leads to, with its waiting entries; none for 0
unfoldable pub preemptor_at : State → ℕ → Option Preemptor
preemptor_at s zero = None
preemptor_at s (suc x) = Some (record { job = x; waiting = waiting_of s x })

-- the link to the job that preempts; 0 for none
abbrev pub preemptor_link : Option Preemptor → ℕ
preemptor_link None = 0
preemptor_link (Some p) = suc p.job
