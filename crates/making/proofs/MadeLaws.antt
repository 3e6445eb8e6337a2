-- What a call gave, with its answer written.
use Prim.Native.Nat.{ℕ, ◌+◌, ◌-◌}
use mathlib.Core.Path.{◌≡◌, ◌∙◌, ap}
use mathlib.Core.List.{List}
use native.Mathlib.Omega.{arith}
use lib.ListN.{take, drop}
use Rattle.rules.specs.declared.State.{State}
use Rattle.rules.specs.Calls.{Reply, job_reply}
use Rattle.layout.specs.Layout.{answer_row}
use Rattle.making.specs.Making.{Made}

pub made : (g r : Reply) (row : List ℕ) → g ≡ r → row ≡ answer_row g.says → Made r g.state row g.buffer
made g r row e h =
    record { left = ap (λ x. x.state) e; said = h ∙ ap (λ x. answer_row x.says) e; wrote = ap (λ x. x.buffer) e }

-- a job's destinations are lent as the part behind its head
pub made_job :
    (s : State) (now t : ℕ) (words list : List ℕ) (n : ℕ) (g : Reply) (row : List ℕ)
    → g ≡ job_reply s now t (take (5 + n - 5) (drop 5 words)) list
    → row ≡ answer_row g.says
    → Made (job_reply s now t (take n (drop 5 words)) list) g.state row g.buffer
made_job s now t words list n g row e h =
    let same : 5 + n - 5 ≡ n = omega arith in
    made g _ row (e ∙ ap (λ k. job_reply s now t (take k (drop 5 words)) list) same) h
