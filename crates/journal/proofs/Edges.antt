-- Numbers and records at their edges, worked out by hand from the request.
use Prim.Native.Nat.{ℕ}
use mathlib.Core.Path.{◌≡◌, refl}
use mathlib.Core.List.{List, [], ◌∷◌, ◌++◌, map}
use lib.ListN.{replicate}
use Rattle.laws.specs.Bools.{when◌then◌else◌}
use Rattle.rules.specs.Setup.{within}
use Rattle.rules.specs.Calls.{pick as pick_call}
use Rattle.journal.specs.Numbers.{number, fault, above, groups_at, shortest, well_written, number_at}
use Rattle.journal.specs.Records.{name, job, pick, report, end, refused, event, closed}
use Rattle.journal.specs.Records.{ranged, field_of, name_from, name_fields, job_from, job_fields, pick_fields, report_fields, fields_of, read_at}
use Rattle.journal.specs.Told.{name_of, name_start}
use Rattle.journal.specs.Journals.{then_read, journal_from, journal_of}
use Rattle.journal.specs.Replays.{call_of, calls_of, events_used, calls_used, count_used, close_used}

-- so many groups with the top bit set and no other
abbrev pub tops : ℕ → List ℕ
tops n = replicate n 128

-- one to five groups, the least and the greatest number of each
pub numbers_edge :
    map (λ bytes. number_at bytes 0)
    ((0 ∷ []) ∷ (127 ∷ []) ∷ (128 ∷ 1 ∷ []) ∷ (255 ∷ 127 ∷ []) ∷ (128 ∷ 128 ∷ 1 ∷ []) ∷ (255 ∷ 255 ∷ 127 ∷ []) ∷ (128 ∷ 128 ∷ 128 ∷ 1 ∷ [])
    ∷ (255 ∷ 255 ∷ 255 ∷ 127 ∷ []) ∷ (128 ∷ 128 ∷ 128 ∷ 128 ∷ 1 ∷ []) ∷ (255 ∷ 255 ∷ 255 ∷ 255 ∷ 15 ∷ []) ∷ [])
    ≡ number 0 1 ∷ number 127 1 ∷ number 128 2 ∷ number 16_383 2 ∷ number 16_384 3 ∷ number 2_097_151 3 ∷ number 2_097_152 4
    ∷ number 268_435_455 4 ∷ number 268_435_456 5 ∷ number 4_294_967_295 5 ∷ []
unfolding number_at well_written shortest groups_at above when◌then◌else◌
numbers_edge = refl

-- cut short: no group, and up to four that all have the top bit set
pub cut_edge : map (λ n. number_at (tops n) 0) (0 ∷ 1 ∷ 2 ∷ 3 ∷ 4 ∷ []) ≡ replicate 5 (fault 12)
unfolding number_at well_written shortest groups_at above when◌then◌else◌
cut_edge = refl

-- not written so: five with the top bit set, whether the journal ends there or not; a last group of 0 that is not the only one; 2^32
pub written_edge :
    map (λ bytes. number_at bytes 0)
    (tops 5 ∷ tops 6 ∷ (128 ∷ 0 ∷ []) ∷ (tops 4 ++ (0 ∷ [])) ∷ (tops 4 ++ (16 ∷ [])) ∷ [])
    ≡ replicate 5 (fault 13)
unfolding number_at well_written shortest groups_at above when◌then◌else◌
written_edge = refl

-- a name of so many bytes
abbrev pub name_of_size : ℕ → List ℕ
name_of_size n = 0 ∷ 31 ∷ n ∷ replicate n 65

-- each field at and past its ends, and a journal that ends behind a field that is outside
pub records_edge :
    map (λ bytes. read_at bytes 0)
    ((4 ∷ []) ∷ (128 ∷ 1 ∷ []) ∷ (128 ∷ []) ∷ (0 ∷ []) ∷ (0 ∷ 32 ∷ []) ∷ (0 ∷ 31 ∷ 0 ∷ []) ∷ (0 ∷ 31 ∷ 64 ∷ []) ∷ (0 ∷ 0 ∷ 1 ∷ []) ∷ name_of_size 1
    ∷ name_of_size 63 ∷ (1 ∷ 0 ∷ 0 ∷ 0 ∷ []) ∷ (1 ∷ 0 ∷ 0 ∷ 129 ∷ 2 ∷ []) ∷ (1 ∷ 0 ∷ 0 ∷ 1 ∷ []) ∷ (1 ∷ 7 ∷ 200 ∷ 1 ∷ 2 ∷ 9 ∷ 200 ∷ 1 ∷ [])
    ∷ (2 ∷ []) ∷ (2 ∷ 9 ∷ []) ∷ (3 ∷ 9 ∷ 8 ∷ 7 ∷ 0 ∷ []) ∷ (3 ∷ 9 ∷ 8 ∷ 7 ∷ 1 ∷ []) ∷ (3 ∷ 9 ∷ 8 ∷ 7 ∷ 2 ∷ []) ∷ (3 ∷ 9 ∷ 8 ∷ 7 ∷ []) ∷ [])
    ≡ closed (refused 14 0) ∷ closed (refused 14 0) ∷ closed (refused 12 0) ∷ closed (refused 12 0) ∷ closed (refused 14 0)
    ∷ closed (refused 14 0) ∷ closed (refused 14 0) ∷ closed (refused 12 0) ∷ event (name 31 (65 ∷ [])) 4 ∷ event (name 31 (replicate 63 65)) 66
    ∷ closed (refused 14 0) ∷ closed (refused 14 0) ∷ closed (refused 12 0) ∷ event (job 7 200 (9 ∷ 200 ∷ [])) 8
    ∷ closed (refused 12 0) ∷ event (pick 9) 2 ∷ event (report 9 8 7 0) 5 ∷ event (report 9 8 7 1) 5
    ∷ closed (refused 14 0) ∷ closed (refused 12 0) ∷ []
unfolding read_at fields_of field_of ranged within name_fields name_from job_fields job_from pick_fields report_fields number_at well_written shortest groups_at above when◌then◌else◌
records_edge = refl

-- the most destinations that a job has
pub most_edge : read_at (1 ∷ 0 ∷ 0 ∷ 128 ∷ 2 ∷ replicate 256 5) 0 ≡ event (job 0 0 (replicate 256 5)) 261
unfolding read_at fields_of field_of ranged within job_fields job_from number_at well_written shortest groups_at above when◌then◌else◌
most_edge = refl

-- the end, and past it; a record's own offset with its first fault, which is not where the fault is
pub offsets_edge :
    map (read_at (2 ∷ 0 ∷ 3 ∷ 5 ∷ 128 ∷ 0 ∷ [])) (0 ∷ 2 ∷ 6 ∷ 7 ∷ 18_446_744_073_709_551_615 ∷ [])
    ≡ event (pick 0) 2 ∷ closed (refused 13 2) ∷ closed end ∷ closed end ∷ closed end ∷ []
unfolding read_at fields_of field_of ranged within pick_fields report_fields number_at well_written shortest groups_at above when◌then◌else◌
offsets_edge = refl

-- a name behind a name: its bytes, and where they begin; and where none stands
abbrev pub two_names : List ℕ
two_names = 0 ∷ 5 ∷ 1 ∷ 200 ∷ 0 ∷ 6 ∷ 2 ∷ 0 ∷ 255 ∷ 2 ∷ 9 ∷ []

pub name_edge : map (λ offset. name_of (read_at two_names offset)) (0 ∷ 4 ∷ 9 ∷ 11 ∷ []) ≡ (200 ∷ []) ∷ (0 ∷ 255 ∷ []) ∷ [] ∷ [] ∷ []
unfolding name_of read_at fields_of field_of ranged within name_fields name_from pick_fields number_at well_written shortest groups_at above when◌then◌else◌
name_edge = refl

pub start_edge : map (λ offset. name_start (read_at two_names offset)) (0 ∷ 4 ∷ 9 ∷ 11 ∷ []) ≡ 3 ∷ 7 ∷ 0 ∷ 0 ∷ []
unfolding name_start read_at fields_of field_of ranged within name_fields name_from pick_fields number_at well_written shortest groups_at above when◌then◌else◌
start_edge = refl

-- A name and two picks, then a kind of 9. With a budget of 3 the replay stops before it looks there.

abbrev pub damaged : List ℕ
damaged = 0 ∷ 5 ∷ 1 ∷ 65 ∷ 2 ∷ 5 ∷ 2 ∷ 6 ∷ 9 ∷ []

pub journal_edge : journal_of damaged ≡ record { events = name 5 (65 ∷ []) ∷ pick 5 ∷ pick 6 ∷ []; close = refused 14 8 }
unfolding journal_of journal_from then_read read_at fields_of field_of ranged within name_fields name_from pick_fields number_at well_written shortest groups_at above when◌then◌else◌
journal_edge = refl

pub used_edge : map (count_used (journal_of damaged)) (0 ∷ 1 ∷ 2 ∷ 3 ∷ 4 ∷ 18_446_744_073_709_551_615 ∷ []) ≡ 0 ∷ 1 ∷ 2 ∷ 3 ∷ 3 ∷ 3 ∷ []
unfolding events_used count_used calls_used calls_of call_of
used_edge = rw journal_edge refl

pub calls_edge :
    map (calls_used (journal_of damaged)) (0 ∷ 1 ∷ 2 ∷ 3 ∷ 4 ∷ [])
    ≡ [] ∷ [] ∷ (pick_call 5 ∷ []) ∷ (pick_call 5 ∷ pick_call 6 ∷ []) ∷ (pick_call 5 ∷ pick_call 6 ∷ []) ∷ []
unfolding events_used calls_used calls_of call_of
calls_edge = rw journal_edge refl

pub close_edge : map (close_used (journal_of damaged)) (0 ∷ 2 ∷ 3 ∷ 4 ∷ []) ≡ end ∷ end ∷ end ∷ refused 14 8 ∷ []
unfolding close_used when◌then◌else◌
close_edge = rw journal_edge refl
