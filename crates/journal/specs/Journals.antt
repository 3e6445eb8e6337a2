-- Request A1: a whole journal, as the list of its records up to its end or its first fault.
use Rattle.std.specs.Prelude.{ℕ, zero, suc, List, [], ◌∷◌, length}
use Rattle.journal.specs.Records.{Event, Close, end, Found, event, closed, read_at}

pub record Journal : Type 0 where
  pub events : List Event
  pub close : Close

-- a record, and the journal behind it
unfoldable pub then_read : Found → (ℕ → Journal) → Journal
then_read (event e next) rest = record { events = e ∷ (rest next).events; close = (rest next).close }
then_read (closed c) rest = record { events = []; close = c }

-- at most so many records, from an offset on
unfoldable pub journal_from : ℕ → List ℕ → ℕ → Journal
journal_from zero bytes offset = record { events = []; close = end }
journal_from (suc most) bytes offset = then_read (read_at bytes offset) (journal_from most bytes)

-- a record takes a byte or more
unfoldable pub journal_of : List ℕ → Journal
journal_of bytes = journal_from (length bytes) bytes 0
