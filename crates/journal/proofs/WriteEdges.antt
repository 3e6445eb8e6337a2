-- The writer at its edges, worked out by hand from the request.
use Prim.Native.Nat.{ℕ}
use mathlib.Core.Path.{◌≡◌, refl}
use mathlib.Core.Bool.{true, false}
use mathlib.Core.List.{List, [], ◌∷◌, map}
use Rattle.std.proofs.Common.{Ok, Err}
use lib.ListN.{replicate}
use Rattle.laws.specs.Bools.{when◌then◌else◌}
use Rattle.laws.specs.Sequence.{every_in}
use Rattle.rules.specs.Setup.{within}
use Rattle.journal.specs.Records.{Event, name, job, pick, report}
use Rattle.journal.specs.Writes.{groups_of, number_bytes, numbers_bytes, bytes_of, writable, put, Writing, refusing, fitted, writing_of}

-- one to five groups, the least and the greatest number of each
pub groups_edge :
    map number_bytes (0 ∷ 127 ∷ 128 ∷ 16_383 ∷ 16_384 ∷ 2_097_151 ∷ 2_097_152 ∷ 268_435_455 ∷ 268_435_456 ∷ 4_294_967_295 ∷ [])
    ≡ (0 ∷ []) ∷ (127 ∷ []) ∷ (128 ∷ 1 ∷ []) ∷ (255 ∷ 127 ∷ []) ∷ (128 ∷ 128 ∷ 1 ∷ []) ∷ (255 ∷ 255 ∷ 127 ∷ []) ∷ (128 ∷ 128 ∷ 128 ∷ 1 ∷ [])
    ∷ (255 ∷ 255 ∷ 255 ∷ 127 ∷ []) ∷ (128 ∷ 128 ∷ 128 ∷ 128 ∷ 1 ∷ []) ∷ (255 ∷ 255 ∷ 255 ∷ 255 ∷ 15 ∷ []) ∷ []
unfolding number_bytes groups_of when◌then◌else◌
groups_edge = refl

-- a record of each kind
pub bytes_edge :
    map bytes_of (name 31 (200 ∷ 0 ∷ []) ∷ job 7 300 (9 ∷ 200 ∷ []) ∷ pick 9 ∷ report 9 8 130 1 ∷ [])
    ≡ (0 ∷ 31 ∷ 2 ∷ 200 ∷ 0 ∷ []) ∷ (1 ∷ 7 ∷ 172 ∷ 2 ∷ 2 ∷ 9 ∷ 200 ∷ 1 ∷ []) ∷ (2 ∷ 9 ∷ []) ∷ (3 ∷ 9 ∷ 8 ∷ 130 ∷ 1 ∷ 1 ∷ []) ∷ []
unfolding bytes_of numbers_bytes number_bytes groups_of when◌then◌else◌
bytes_edge = refl

-- the greatest number that can be written, and the least that cannot
abbrev last : ℕ
last = 4_294_967_295

abbrev past : ℕ
past = 4_294_967_296

-- each field at its ends
pub ends_edge :
    map writable
    (name 0 (0 ∷ []) ∷ name 31 (replicate 63 255) ∷ job 0 0 (0 ∷ []) ∷ job last last (replicate 256 last) ∷ pick 0 ∷ pick last
    ∷ report 0 0 0 0 ∷ report last last last 1 ∷ [])
    ≡ replicate 8 true
unfolding writable within every_in
ends_edge = refl

-- and past them
pub outside_edge :
    map writable
    (name 32 (0 ∷ []) ∷ name 0 [] ∷ name 0 (replicate 64 0) ∷ job past 0 (0 ∷ []) ∷ job 0 past (0 ∷ []) ∷ job 0 0 [] ∷ job 0 0 (replicate 257 0)
    ∷ job 0 0 (0 ∷ past ∷ []) ∷ pick past ∷ report past 0 0 0 ∷ report 0 past 0 0 ∷ report 0 0 past 0 ∷ report 0 0 0 2 ∷ [])
    ≡ replicate 13 false
unfolding writable within every_in
outside_edge = refl

-- Into a buffer of nines, behind three bytes that are used.

abbrev nines : ℕ → List ℕ
nines n = replicate n 9

abbrev writes : Event → ℕ → Writing
writes e n = writing_of e (nines n) 3

-- longer than the record, as long, one byte shorter, and shorter than what is used
pub room_edge :
    map (writes (pick 300)) (8 ∷ 6 ∷ 5 ∷ 2 ∷ [])
    ≡ record { answer = Ok 6; buffer = 9 ∷ 9 ∷ 9 ∷ 2 ∷ 172 ∷ 2 ∷ 9 ∷ 9 ∷ [] } ∷ record { answer = Ok 6; buffer = 9 ∷ 9 ∷ 9 ∷ 2 ∷ 172 ∷ 2 ∷ [] }
    ∷ record { answer = Err 10; buffer = nines 5 } ∷ record { answer = Err 10; buffer = nines 2 } ∷ []
unfolding writing_of fitted refusing put writable bytes_of numbers_bytes number_bytes groups_of when◌then◌else◌
room_edge = refl

-- a field that is refused in a record that does not fit: 14 is tested first
pub first_edge : map (writes (pick past)) (16 ∷ 3 ∷ []) ≡ record { answer = Err 14; buffer = nines 16 } ∷ record { answer = Err 14; buffer = nines 3 } ∷ []
unfolding writing_of refusing writable bytes_of numbers_bytes number_bytes groups_of when◌then◌else◌
first_edge = refl
