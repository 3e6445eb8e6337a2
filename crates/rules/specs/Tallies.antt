-- The tally of demand 3 of three lists of calls, worked out by hand. All calls are at second 0.
use Rattle.std.specs.Prelude.{ℕ, ◌≡◌, List, [], ◌∷◌, replicate}
use Rattle.rules.specs.declared.Setup.{Setup}
use Rattle.rules.specs.declared.Outcome.TheVariants.{Success}
use Rattle.rules.specs.State.{zero_settings}
use Rattle.rules.specs.Calls.{Call, job, pick, report}
use Rattle.rules.specs.Tally.{Row}
use Rattle.rules.specs.History.{tally_of}
use Rattle.rules.specs.Examples.{per_window, defaults, one_transport, buffer, job_to0}

-- job, transport, n, N, overtakers, the link to the row that it names, the picks that went past it; last pick, its total, its P
abbrev pub row : ℕ → ℕ → ℕ → ℕ → ℕ → ℕ → ℕ → ℕ → ℕ → ℕ → Row
row j t n upto overtakers names past lastpick lasttotal lastpast =
    record {
      job = j;
      transport = t;
      n = n;
      upto = upto;
      overtakers = overtakers;
      names = names;
      past = past;
      lastpick = lastpick;
      lasttotal = lasttotal;
      lastpast = lastpast;
    }

-- success of an entry, with its ticket
abbrev pub delivered : ℕ → ℕ → Call
delivered e ticket = report 0 e ticket Success buffer

-- W8's calls. A has the entries 0 to 19, B 20 and 21; tickets rise from 0
abbrev pub w8_calls : List Call
w8_calls =
    job_to0 0 20 ∷ job_to0 0 2 ∷ pick 0 ∷ delivered 0 0 ∷ pick 0 ∷ delivered 20 1 ∷ pick 0 ∷ delivered 21 2 ∷ pick 0 ∷ delivered 1 3 ∷ []

-- At the second pick B, with 2 waiting, preempts A: B names A's row, whose link is 1, and the overtakers of A are 2. The picks are A's, B's, B's,
-- A's. N is 20, and 20 + 2. Nobody is passed over, and nobody gone past.
abbrev pub W8Tallied : Type 0
W8Tallied = (tally_of (one_transport 1) w8_calls).rows ≡ row 0 0 20 20 2 0 0 4 0 0 ∷ row 1 0 2 22 0 1 0 3 0 0 ∷ []

-- transport 0 with destinations 0 and 1, transport 1 with destination 2; windows begin at 1, so that one delivery fills them
abbrev pub two_transports : Setup
two_transports =
    record {
      transports = 2;
      settings = defaults 1 (per_window 100) ∷ defaults 1 (per_window 100) ∷ zero_settings ∷ zero_settings ∷ [];
      destinations = 3;
      home = 0 ∷ 0 ∷ 1 ∷ replicate 29 0;
    }

-- Jobs that are passed over, and a job number that comes back. Nobody preempts: no n is 15 or more.
abbrev pub PassedOverTallied : Type 0
PassedOverTallied =
    (tally_of two_transports
    -- job 0, entries 0 1 2: N 3 on transport 0
    (job 0 0 (0 ∷ 0 ∷ 0 ∷ []) buffer
    -- job 1, entries 3 4: N 2 on transport 1
    ∷ job 0 1 (2 ∷ 2 ∷ []) buffer
    -- job 2, entry 5: N 3 + 1 on transport 0
    ∷ job 0 0 (1 ∷ []) buffer
    -- transport 0, job 0, entry 0, ticket 0: its pick 1, total 0. Destination 0 is full
    ∷ pick 0
    -- transport 1, job 1, entry 3, ticket 1: its pick 1, total 0. Destination 2 is full
    ∷ pick 0
    -- transport 0, past job 0, job 2, entry 5, ticket 2: its pick 2, total 1
    ∷ pick 0
    -- job 2 leaves
    ∷ delivered 5 2
    -- job 2 anew, entry 5: N 3 + 1 + 1
    ∷ job 0 0 (1 ∷ []) buffer
    -- transport 1 has nothing eligible; transport 0, past job 0, the new job 2, entry 5, ticket 3: its pick 3, total 2
    ∷ pick 0
    -- destination 0 has room
    ∷ delivered 0 0
    -- transport 0, job 0, entry 1, ticket 4, past nobody: its pick 4, total still 2
    ∷ pick 0
    ∷ [])
    ).rows
    ≡ row 0 0 3 3 0 0 2 4 2 2
    ∷ row 1 1 2 2 0 0 0 1 0 0
    ∷ row 2 0 1 4 0 0 0 2 1 0
    ∷ row 2 0 1 5 0 0 0 3 2 0
    ∷ []

-- A job that is gone past twice, the second time by a pick that preempts (A13). Transport 0 of the same set-up; its list is B A C X, and B and C are
-- for destination 0.
abbrev pub GonePastTallied : Type 0
GonePastTallied =
    (tally_of two_transports
    -- B, job 0, entries 0 1: N 2
    (job 0 0 (0 ∷ 0 ∷ []) buffer
    -- A, job 1, entries 2 to 16: N 2 + 15
    ∷ job 0 0 (replicate 15 1) buffer
    -- C, job 2, entry 17: N 2 + 15 + 1
    ∷ job 0 0 (0 ∷ []) buffer
    -- X, job 3, entries 18 19: N 2 + 15 + 1 + 2
    ∷ job 0 0 (1 ∷ 1 ∷ []) buffer
    -- B, entry 0, ticket 0: pick 1, total 0. Destination 0 is full: B and C are blocked
    ∷ pick 0
    -- past B, A, entry 2, ticket 1: pick 2, total 1. Destination 1 is full
    ∷ pick 0
    -- destination 1 has room, and A a credit of 1
    ∷ delivered 2 1
    -- X, with 2 waiting, preempts A, and the list is B X A C: past B, and not past C, X, entry 18, ticket 2: pick 3, total 2
    ∷ pick 0
    -- destination 0 has room
    ∷ delivered 0 0
    -- B, entry 1, ticket 3, past nobody: pick 4, total still 2. That is its ceiling, N + N/4 rounded down + P = 2 + 0 + 2
    ∷ pick 0
    ∷ [])
    ).rows
    ≡ row 0 0 2 2 0 0 2 4 2 2
    ∷ row 1 0 15 17 2 0 0 2 1 0
    ∷ row 2 0 1 18 0 0 0 0 0 0
    ∷ row 3 0 2 20 0 2 0 3 2 0
    ∷ []
