-- Request A8: "Reading what was written gives the same records, and writing what was read gives the same bytes, for every journal that the reader
-- accepts." Over lists of records of any length.
use Rattle.std.specs.Prelude.{ℕ, ◌≤◌, ◌≡◌, Bool, true, ◌&&◌, List, [], ◌∷◌, ◌++◌, length, take, Result, Ok, Err, ltb}
use Rattle.laws.specs.Sequence.{every_in}
use Rattle.journal.specs.Records.{Event, end}
use Rattle.journal.specs.Journals.{journal_of}
use Rattle.journal.specs.Writes.{journal_bytes, writable, Writing, writing_of}

unfoldable pub all_writable : List Event → Bool
all_writable [] = true
all_writable (e ∷ events) = writable e && all_writable events

abbrev pub is_byte : ℕ → Bool
is_byte b = ltb b 256

-- The writer's calls, a record each, one after another: the buffer, how many of its bytes are used, and the records that were not refused.

pub record Book : Type 0 where
  pub buffer : List ℕ
  pub used : ℕ
  pub taken : List Event

unfoldable pub on_answer : Book → Event → List ℕ → Result ℕ ℕ → Book
on_answer b e buffer (Ok n) = record { buffer = buffer; used = n; taken = b.taken ++ (e ∷ []) }
on_answer b e buffer (Err k) = record { buffer = buffer; used = b.used; taken = b.taken }

abbrev pub on_writing : Book → Event → Writing → Book
on_writing b e w = on_answer b e w.buffer w.answer

unfoldable pub written_from : Book → List Event → Book
written_from b [] = b
written_from b (e ∷ events) = written_from (on_writing b e (writing_of e b.buffer b.used)) events

-- from the front of a buffer on
unfoldable pub written_into : List ℕ → List Event → Book
written_into buffer events = written_from (record { buffer = buffer; used = 0; taken = [] }) events

-- "the used part of the buffer"
unfoldable pub used_part : Book → List ℕ
used_part b = take b.used b.buffer

-- What is claimed.
pub record RoundTrips : Type 0 where
  -- "Reading what was written gives the same records"
  pub read : (events : List Event) → all_writable events ≡ true → journal_of (journal_bytes events) ≡ record { events = events; close = end }
  -- "writing what was read gives the same bytes, for every journal that the reader accepts"
  pub write : (bytes : List ℕ) → every_in is_byte bytes ≡ true → (journal_of bytes).close ≡ end → journal_bytes (journal_of bytes).events ≡ bytes
  -- The same of the writer's calls. Whatever they are handed, what is used of the buffer reads as the records that were not refused
  pub read_calls : (buffer : List ℕ) (events : List Event) → journal_of (used_part (written_into buffer events)) ≡ record { events = (written_into buffer events).taken; close = end }
  -- and in a buffer with room for it a journal is written again, byte for byte, with no record refused
  pub write_calls :
      (buffer bytes : List ℕ)
      → every_in is_byte bytes ≡ true
      → (journal_of bytes).close ≡ end
      → length bytes ≤ length buffer
      → (used_part (written_into buffer (journal_of bytes).events) ≡ bytes) × ((written_into buffer (journal_of bytes).events).taken ≡ (journal_of bytes).events)
