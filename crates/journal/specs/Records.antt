-- Request A1: "A record is a kind, then its fields". "Refused with the record's offset, first fault in byte order: 12 cut short, 13 a number not
-- written as above, 14 a well-written kind, name number, length, count or outcome outside these."
use Rattle.std.specs.Prelude.{ℕ, zero, suc, ◌+◌, Bool, true, List, [], ◌∷◌, ◌++◌, length, take, drop, eqb, leb}
use Rattle.laws.specs.Bools.{when◌then◌else◌}
use Rattle.rules.specs.Setup.{within}
use Rattle.journal.specs.Numbers.{Number, number, fault, number_at}

-- a record's fields
pub data Event : Type 0 where
  -- the destination's number, its name
  name : ℕ → List ℕ → Event
  -- clock, transport, a destination for each entry
  job : ℕ → ℕ → List ℕ → Event
  -- clock
  pick : ℕ → Event
  -- clock, entry, ticket, outcome
  report : ℕ → ℕ → ℕ → ℕ → Event

-- how a journal closes: at its end, or with a record that is refused, by its number and the record's offset
pub data Close : Type 0 where
  end : Close
  refused : ℕ → ℕ → Close

-- what stands at an offset: a record and the offset of the next, or no more
pub data Found : Type 0 where
  event : Event → ℕ → Found
  closed : Close → Found

-- The ranges of the fields.

-- a number of any size: clock, transport, entry, ticket, a destination
abbrev pub any_size : ℕ → Bool
any_size x = true

-- "number 0 to 31, name length 1 to 63"
abbrev pub name_number : ℕ → Bool
name_number = within 0 31

abbrev pub name_length : ℕ → Bool
name_length = within 1 63

-- "count 1 to 256"
abbrev pub job_count : ℕ → Bool
job_count = within 1 256

-- "0 success or 1 failure"
abbrev pub report_outcome : ℕ → Bool
report_outcome = within 0 1

-- 14: "well-written", and outside its range
unfoldable pub ranged : (ℕ → Bool) → Number → Number
ranged range (number x next) = when range x then number x next else fault 14
ranged range (fault k) = fault k

-- "first fault in byte order": a field is read and its range tested, and then comes what is behind it
unfoldable pub field_of : ℕ → (ℕ → ℕ → Found) → Number → Found
field_of start rest (number x next) = rest x next
field_of start rest (fault k) = closed (refused k start)

-- the records of a journal that begin at `start`, each from its first field on
module _ (bytes : List ℕ) (start : ℕ) where
  abbrev pub field : ℕ → (ℕ → Bool) → (ℕ → ℕ → Found) → Found
  field offset range rest = field_of start rest (ranged range (number_at bytes offset))

  -- the bytes of a name
  unfoldable pub name_from : ℕ → ℕ → ℕ → Found
  name_from d size offset =
      when leb (offset + size) (length bytes)
      then event (name d (take size (drop offset bytes))) (offset + size)
      else closed (refused 12 start)

  -- "0 name a destination (number 0 to 31, name length 1 to 63, the name)"
  unfoldable pub name_fields : ℕ → Found
  name_fields offset =
      field offset name_number (λ d offset.
      field offset name_length (λ size offset.
      name_from d size offset))

  -- so many destinations more, behind those that are read
  unfoldable pub job_from : ℕ → ℕ → List ℕ → ℕ → ℕ → Found
  job_from clock t dests zero offset = event (job clock t dests) offset
  job_from clock t dests (suc more) offset =
      field offset any_size (λ d offset.
      job_from clock t (dests ++ (d ∷ [])) more offset)

  -- "1 job (clock, transport, count 1 to 256, a destination for each)"
  unfoldable pub job_fields : ℕ → Found
  job_fields offset =
      field offset any_size (λ clock offset.
      field offset any_size (λ t offset.
      field offset job_count (λ count offset.
      job_from clock t [] count offset)))

  -- "2 pick (clock)"
  unfoldable pub pick_fields : ℕ → Found
  pick_fields offset =
      field offset any_size (λ clock offset.
      event (pick clock) offset)

  -- "3 report (clock, entry, ticket, 0 success or 1 failure)"
  unfoldable pub report_fields : ℕ → Found
  report_fields offset =
      field offset any_size (λ clock offset.
      field offset any_size (λ e offset.
      field offset any_size (λ ticket offset.
      field offset report_outcome (λ outcome offset.
      event (report clock e ticket outcome) offset))))

  unfoldable pub fields_of : ℕ → ℕ → Found
  fields_of kind offset =
      when eqb kind 0 then name_fields offset
      else when eqb kind 1 then job_fields offset
      else when eqb kind 2 then pick_fields offset
      else report_fields offset

-- "Kinds are numbers too"; "at or past the end the answer is "end""
unfoldable pub read_at : List ℕ → ℕ → Found
read_at bytes offset =
    when leb (length bytes) offset
    then closed end
    else field bytes offset offset (within 0 3) (fields_of bytes offset)
