-- "Sound means", the clauses of jobs and of destinations, over the columns that the code reads. What they say of a whole state:
-- soundness/proofs/PartsOfSound.antt, SoundOfParts.antt.
use Rattle.std.specs.Prelude.{ℕ, zero, suc, ◌+◌, ◌*◌, Bool, true, false, ◌&&◌, List, get_or, eqb, leb}
use Rattle.laws.specs.Chain.{ends_in}
use Rattle.rules.specs.declared.Settings.{Settings}
use Rattle.rules.specs.declared.Setup.{Setup}
use Rattle.rules.specs.declared.Health.{Health}
use Rattle.rules.specs.declared.Health.TheVariants.{Live, Dead}
use Rattle.rules.specs.declared.Jobs.{Jobs}
use Rattle.rules.specs.declared.Destination.{Destination}
use Rattle.rules.specs.State.{at, zero_settings, zero_destination, settings_in}
use Rattle.rules.specs.Setup.{within}
use Rattle.rules.specs.Sound.{implies, sums_fit}

-- Jobs.

unfoldable pub counts_test : ℕ → ℕ → ℕ → ℕ → ℕ → Bool
counts_test waiting busy n picked dropped = eqb (waiting + picked + dropped) n && within 1 256 n && leb busy picked

unfoldable pub sold_test : ℕ → ℕ → ℕ → Bool
sold_test cost sold n = leb (cost * sold) n && implies (eqb cost 0) (eqb sold 0)

unfoldable pub child_test : List Bool → List ℕ → List ℕ → ℕ → Bool → ℕ → Bool
child_test present transport picked t marked zero = true
child_test present transport picked t marked (suc p) =
    get_or present p false && eqb (at transport p) t && leb 1 (at picked p) && marked

-- all that is asked of a job but its order
unfoldable pub job_test : Jobs → List Settings → List ℕ → List ℕ → ℕ → Bool
job_test g settings waiting busy j =
    counts_test (at waiting j) (at busy j) (at g.n j) (at g.picked j) (at g.dropped j)
    && sold_test (get_or settings (at g.transport j) zero_settings).cost (at g.sold j) (at g.n j)
    && leb 1 (at waiting j + at busy j)
    && child_test g.present g.transport g.picked (at g.transport j) (get_or g.preempted j false) (at g.parent j)
    && ends_in (at g.parent) 32 (at g.parent j)
    && leb (at g.overtakers j) 65_535
    && leb (at g.turn j) (at g.places j)

-- Destinations.

-- `held` is the number of entries that wait for the destination
unfoldable pub health_test : Settings → ℕ → Health → Bool
health_test g held (Live u) = sums_fit g u
health_test g held (Dead end) = eqb held 0

unfoldable pub destination_test : Setup → List Destination → List ℕ → ℕ → Bool
destination_test u destinations held d =
    health_test (settings_in u d) (at held d) (get_or destinations d zero_destination).health
