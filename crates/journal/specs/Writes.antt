-- Request A8: "each record goes into the lent buffer after those already there, all other bytes untouched, and a refusal writes nothing: 14 for a
-- field that A1's reader would refuse or of 2^32 and more, tested first, then 10 for a record that doesn't fit".
use Rattle.std.specs.Prelude.{ℕ, zero, suc, ◌+◌, ◌/◌, ◌%◌, Bool, ◌&&◌, List, [], ◌∷◌, ◌++◌, length, take, drop, Result, Ok, Err, ltb, leb}
use Rattle.laws.specs.Bools.{when◌then◌else◌}
use Rattle.laws.specs.Sequence.{every_in}
use Rattle.rules.specs.declared.Refusal.{Refusal}
use Rattle.rules.specs.Answers.{refusal_number}
use Rattle.journal.specs.Numbers.{small}
use Rattle.journal.specs.Records.{Event, name, job, pick, report, name_number, name_length, job_count, report_outcome}

-- A1: "groups of seven bits, lowest group first, top bit set on all but the last group, shortest form only", with at most so many groups
unfoldable pub groups_of : ℕ → ℕ → List ℕ
groups_of zero x = []
groups_of (suc most) x = when ltb x 128 then x ∷ [] else (128 + x % 128) ∷ groups_of most (x / 128)

-- "at most five groups": below 2^32 they are enough
unfoldable pub number_bytes : ℕ → List ℕ
number_bytes x = groups_of 5 x

-- one number behind the other
unfoldable pub numbers_bytes : List ℕ → List ℕ
numbers_bytes [] = []
numbers_bytes (x ∷ numbers) = number_bytes x ++ numbers_bytes numbers

-- A1: "A record is a kind, then its fields"
unfoldable pub bytes_of : Event → List ℕ
bytes_of (name d word) = numbers_bytes (0 ∷ d ∷ length word ∷ []) ++ word
bytes_of (job clock t dests) = numbers_bytes (1 ∷ clock ∷ t ∷ length dests ∷ dests)
bytes_of (pick clock) = numbers_bytes (2 ∷ clock ∷ [])
bytes_of (report clock e ticket outcome) = numbers_bytes (3 ∷ clock ∷ e ∷ ticket ∷ outcome ∷ [])

-- one record behind the other
unfoldable pub journal_bytes : List Event → List ℕ
journal_bytes [] = []
journal_bytes (e ∷ events) = bytes_of e ++ journal_bytes events

-- no "field that A1's reader would refuse or of 2^32 and more"
unfoldable pub writable : Event → Bool
writable (name d word) = name_number d && name_length (length word)
writable (job clock t dests) = small clock && small t && job_count (length dests) && every_in small dests
writable (pick clock) = small clock
writable (report clock e ticket outcome) = small clock && small e && small ticket && report_outcome outcome

-- "after those already there, all other bytes untouched"
unfoldable pub put : List ℕ → List ℕ → ℕ → List ℕ
put bytes buffer used = take used buffer ++ bytes ++ drop (used + length bytes) buffer

-- the writer's answer, how many bytes of the buffer are used now or the number of a refusal, and the buffer that it leaves
pub record Writing : Type 0 where
  pub answer : Result ℕ ℕ
  pub buffer : List ℕ

-- "a refusal writes nothing"
unfoldable pub refusing : ℕ → List ℕ → Writing
refusing k buffer = record { answer = Err k; buffer = buffer }

-- "10 for a record that doesn't fit": also where more is used than the buffer has
unfoldable pub fitted : List ℕ → List ℕ → ℕ → Writing
fitted bytes buffer used =
    when leb (used + length bytes) (length buffer)
    then record { answer = Ok (used + length bytes); buffer = put bytes buffer used }
    else refusing 10 buffer

-- "14 .., tested first, then 10"
unfoldable pub writing_of : Event → List ℕ → ℕ → Writing
writing_of e buffer used = when writable e then fitted (bytes_of e) buffer used else refusing 14 buffer

-- the code's answer, with a refusal's number in the place of the refusal
abbrev pub told : Result ℕ Refusal → Result ℕ ℕ
told (Ok n) = Ok n
told (Err k) = Err (refusal_number k)
