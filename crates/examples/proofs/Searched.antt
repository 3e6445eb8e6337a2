-- A3's definition at work: the state that its edge speaks of, reached by five jobs, and what the search looks at in it.
use mathlib.Core.Path.{◌≡◌, refl}
use mathlib.Core.List.{[], ◌∷◌}
use lib.ListN.{replicate}
use Rattle.rules.specs.declared.Setup.{Setup}
use Rattle.rules.specs.declared.State.{State}
use Rattle.rules.specs.State.{zero_settings}
use Rattle.rules.specs.Preemption.{looked_at}
use Rattle.rules.specs.Calls.{job}
use Rattle.rules.specs.History.{state_after}
use Rattle.rules.specs.Examples.{per_window, usual, buffer, job_to0}
use Rattle.rules.proofs.Opened.{rules}
use Rattle.rules.proofs.Edges.{Searched, search_edge}

-- a destination each for transports 0 and 1
abbrev pub two_transports : Setup
two_transports =
    record {
      transports = 2;
      settings = usual (per_window 100) ∷ usual (per_window 100) ∷ zero_settings ∷ zero_settings ∷ [];
      destinations = 2;
      home = 0 ∷ 1 ∷ replicate 30 0;
    }

-- job 0 can pay for 40/5, which is less than the 9 of job 3
abbrev pub five_jobs : State
five_jobs = state_after two_transports (job_to0 0 40 ∷ job_to0 10 2 ∷ job 12 1 (1 ∷ []) buffer ∷ job_to0 14 9 ∷ job_to0 17 1 ∷ [])

searched : Searched five_jobs
unfolding rules state_after
searched =
    record {
      ranks = refl;
      lanes = (refl, refl, refl, refl, refl);
      seconds = (refl, refl, refl);
      candidates = (refl, refl, refl, refl);
      waiting = refl;
    }

pub five_searched : (looked_at five_jobs 23 0 0 ≡ 3) × (looked_at five_jobs 24 0 0 ≡ 4)
five_searched = search_edge five_jobs searched
