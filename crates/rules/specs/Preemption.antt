-- Document 01, "Picking and preemption", second part: when a job preempts the current one, and what that changes.
use Rattle.std.specs.Prelude.{ℕ, zero, suc, ◌+◌, ◌-◌, ◌*◌, ◌/◌, min, Bool, true, false, not, ◌&&◌, List, length, set, ℤ, pos, negsuc, ◌-ℤ◌, eqb, ltb, leb}
use Rattle.laws.specs.Bools.{when◌then◌else◌}
use Rattle.laws.specs.Range.{count_to, first_to, fold_to}
use Rattle.laws.specs.Chain.{along_chain}
use Rattle.laws.specs.Sequence.{move_before}
use Rattle.rules.specs.declared.Settings.{Settings}
use Rattle.rules.specs.declared.State.{State}
use Rattle.rules.specs.Sizes.{max_jobs, sum_limit}
use Rattle.rules.specs.State.{at, settings_of, list_of, arrived_at, has_preempted, waiting_of, parent_of}
use Rattle.rules.specs.Changed.{on_queue, on_jobs, on_sold, on_parent, on_preempted, on_overtakers}
use Rattle.rules.specs.Picking.{has_eligible}

-- "a = s - c·q, which may be negative": picked s, sold q
unfoldable pub credit : ℕ → ℕ → ℕ → ℤ
credit c s q = pos s -ℤ pos (c * q)

-- "a ≥ 1"
unfoldable pub has_credit : ℤ → Bool
has_credit (pos a) = leb 1 a
has_credit (negsuc a) = false

-- a credit of at least 1, as a number
unfoldable pub owned : ℤ → ℕ
owned (pos a) = a
owned (negsuc a) = 0

abbrev pub credit_of : State → ℕ → ℕ → ℤ
credit_of s t y = credit (settings_of s t).cost (at s.jobs.picked y) (at s.jobs.sold y)

-- "m ≤ (r + a)/c rounded down": the current job has r waiting and the credit a
unfoldable pub affordable : ℕ → ℕ → ℕ → ℕ → Bool
affordable c r a m = leb m ((r + a) / c)

-- the current job y can pay for all that waits of x
abbrev pub can_pay_for : State → ℕ → ℕ → ℕ → Bool
can_pay_for s t y x = affordable (settings_of s t).cost (waiting_of s y) (owned (credit_of s t y)) (waiting_of s x)

-- "A candidate is another job of the transport, never picked from, never having preempted, with an eligible entry, and m ≤ (r + a)/c"
unfoldable pub is_candidate : State → ℕ → ℕ → ℕ → Bool
is_candidate s t y x =
    not (eqb x y)
    && eqb (at s.jobs.transport x) t
    && eqb (at s.jobs.picked x) 0
    && not (has_preempted s x)
    && has_eligible s x
    && can_pay_for s t y x

-- "now - arrival + 1": a job's wait plus 1
abbrev pub age_of : State → ℕ → ℕ → ℕ
age_of s now x = now - at s.jobs.arrival x + 1

-- "greatest (now - arrival + 1)/m as an exact fraction": that of x is greater than that of b
unfoldable pub beats : State → ℕ → ℕ → ℕ → Bool
beats s now x b = ltb (age_of s now b * waiting_of s x) (age_of s now x * waiting_of s b)

-- the better of the best so far, a link, and x, of a higher arrival rank: "equal ones, the lower arrival rank"
unfoldable pub better : State → ℕ → ℕ → ℕ → ℕ → ℕ → ℕ
better s now t y zero x = when is_candidate s t y x then suc x else 0
better s now t y (suc b) x = when is_candidate s t y x && beats s now x b then suc x else suc b

-- the link to the best candidate of the ranks below n; 0 where there is none
unfoldable pub best_before : State → ℕ → ℕ → ℕ → ℕ → ℕ
best_before s now t y n = fold_to (λ rank b. better s now t y b (arrived_at s rank)) 0 n

-- that of all ranks
unfoldable pub best_candidate : State → ℕ → ℕ → ℕ → ℕ
best_candidate s now t y = best_before s now t y (length (list_of s.arrivals))

-- What the search for it looks at (A3): it walks by arrival, and the best that it has found before a rank is best_before.

-- "whose wait plus 1 is not above the best score before it": that of x against "(now - arrival + 1)/m" of b; where there is no best yet, the search goes on
unfoldable pub not_above : State → ℕ → ℕ → ℕ → Bool
not_above s now zero x = false
not_above s now (suc b) x = leb (age_of s now x * waiting_of s b) (age_of s now b)

-- the job of a rank is one of the transport's
abbrev pub arrived_on : State → ℕ → ℕ → Bool
arrived_on s t rank = eqb (at s.jobs.transport (arrived_at s rank)) t

-- it is one, and its wait plus 1 is not above the score of the best before it
abbrev pub stops_at : State → ℕ → ℕ → ℕ → ℕ → Bool
stops_at s now t y rank = arrived_on s t rank && not_above s now (best_before s now t y rank) (arrived_at s rank)

-- the rank of "the first" such job; where there is none, past the last
unfoldable pub search_end : State → ℕ → ℕ → ℕ → ℕ
search_end s now t y = first_to (stops_at s now t y) (length (list_of s.arrivals))

-- "how many jobs it looked at: the transport's by rising rank, short of" that one
unfoldable pub looked_at : State → ℕ → ℕ → ℕ → ℕ
looked_at s now t y = count_to (arrived_on s t) (search_end s now t y)

-- "100·(a/c rounded down + L) ≥ m·(100-d)"
unfoldable pub pays_for : Settings → ℕ → ℕ → Bool
pays_for g a m = leb (m * (100 - g.discount)) (100 * (a / g.cost + g.loan))

-- "a candidate exists, and for the best one, of m waiting entries, .." ; "Only the best is tested"
unfoldable pub pays_for_best : State → ℕ → ℕ → ℕ → Bool
pays_for_best s t y zero = false
pays_for_best s t y (suc x) = pays_for (settings_of s t) (owned (credit_of s t y)) (waiting_of s x)

-- "n ≥ M·c"
unfoldable pub long_enough : Settings → ℕ → Bool
long_enough g n = leb (g.minimum * g.cost) n

-- "It is preempted when c is not 0, a ≥ 1, n ≥ M·c, a candidate exists, and for the best one .."
unfoldable pub is_preempted : State → ℕ → ℕ → ℕ → Bool
is_preempted s now t y =
    not (eqb (settings_of s t).cost 0)
    && has_credit (credit_of s t y)
    && long_enough (settings_of s t) (at s.jobs.n y)
    && pays_for_best s t y (best_candidate s now t y)

-- the link to the job that preempts the current job y; 0 where none does
unfoldable pub preemptor_of : State → ℕ → ℕ → ℕ → ℕ
preemptor_of s now t y = when is_preempted s now t y then best_candidate s now t y else 0

-- "A sum stops at 65,535"
unfoldable pub added_to : ℕ → ℕ → List ℕ → List ℕ
added_to m j sums = set sums j (min (at sums j + m) sum_limit)

-- "the entries that ever preempted it, counted at each preemption through the chain of parents"
unfoldable pub charged : (ℕ → ℕ) → ℕ → ℕ → List ℕ → List ℕ
charged parent y m sums = along_chain parent (added_to m) max_jobs (suc y) sums

-- "It moves directly before the current job, whose q grows by m, takes it as parent": x, of m waiting entries, preempts y
unfoldable pub preempting : State → ℕ → ℕ → ℕ → ℕ → State
preempting s t x y m =
    on_queue t (move_before x y)
    (on_jobs
    (λ g.
    on_sold (λ sold. set sold y (at sold y + m))
    (on_parent (λ parent. set parent x (suc y))
    (on_preempted (λ preempted. set preempted x true)
    (on_overtakers (charged (parent_of s) y m) g))))
    s)
