-- Where numbers and records end: within the journal, a number behind its first byte, a record at least two bytes behind its own.
use Prim.Native.Nat.{ℕ, zero, suc, ◌+◌, ◌-◌, ◌≤◌, ◌<◌}
use mathlib.Core.Path.{◌≡◌, refl, subst}
use mathlib.Core.Bool.{Bool}
use mathlib.Core.List.{List, []}
use native.Mathlib.Nat.{le_trans}
use native.Mathlib.Omega.{arith}
use lib.ListN.{length, take, drop, length-drop}
use lib.Seq.{length-take-le}
use lib.Dec.{eqb, ltb, leb}
use borrow.Author.Tests.{leb-true, leb-false, le-leb}
use Rattle.laws.specs.Bools.{when◌then◌else◌}
use Rattle.laws.proofs.Bools.{if_cases}
use Rattle.rules.specs.State.{at}
use Rattle.journal.specs.Numbers.{Number, number, fault, above, groups_at, well_written, number_at}
use Rattle.journal.specs.Records.{Event, name, job, pick, report, end, Found, event, closed}
use Rattle.journal.specs.Records.{ranged, field_of, field, name_from, name_fields, job_from, job_fields, pick_fields, report_fields, fields_of, read_at}

-- a number that is read ends behind the offset, and within the journal; a fault has a number that is not 0
abbrev pub NumberEnds : List ℕ → ℕ → Number → Type 0
NumberEnds bytes offset (number x next) = (offset < next) × (next ≤ length bytes)
NumberEnds bytes offset (fault k) = 0 < k

module _ (bytes : List ℕ) where
  above_ends : (offset low : ℕ) (n : Number) → NumberEnds bytes (offset + 1) n → NumberEnds bytes offset (above low n)
  unfolding above
  above_ends offset low (number x next) h = (omega (arith, h.0), h.1)
  above_ends offset low (fault k) h = h

  groups_end : (most offset : ℕ) → NumberEnds bytes offset (groups_at most bytes offset)
  unfolding groups_at
  groups_end zero offset = omega arith
  groups_end (suc most) offset =
      if_cases (NumberEnds bytes offset) (leb (length bytes) offset) (λ h. omega arith) (λ h.
      if_cases (NumberEnds bytes offset) (ltb (at bytes offset) 128) (λ l. (omega arith, omega (arith, leb-false (length bytes) offset h))) (λ l.
      above_ends offset (at bytes offset - 128) (groups_at most bytes (offset + 1)) (groups_end most (offset + 1))))

  written_ends : (offset : ℕ) (n : Number) → NumberEnds bytes offset n → NumberEnds bytes offset (well_written offset n)
  unfolding well_written
  written_ends offset (number x next) h = if_cases (NumberEnds bytes offset) _ (λ y. h) (λ z. omega arith)
  written_ends offset (fault k) h = h

  ranged_ends : (offset : ℕ) (range : ℕ → Bool) (n : Number) → NumberEnds bytes offset n → NumberEnds bytes offset (ranged range n)
  unfolding ranged
  ranged_ends offset range (number x next) h = if_cases (NumberEnds bytes offset) (range x) (λ y. h) (λ z. omega arith)
  ranged_ends offset range (fault k) h = h

  pub field_ends : (range : ℕ → Bool) (offset : ℕ) → NumberEnds bytes offset (ranged range (number_at bytes offset))
  unfolding number_at
  field_ends range offset = ranged_ends offset range (number_at bytes offset) (written_ends offset (groups_at 5 bytes offset) (groups_end 5 offset))

  pub number_ends : (range : ℕ → Bool) {x next : ℕ} (offset : ℕ) → ranged range (number_at bytes offset) ≡ number x next → (offset < next) × (next ≤ length bytes)
  number_ends range offset h = subst (NumberEnds bytes offset) h (field_ends range offset)

-- What is so of a record that ends within the journal, no nearer than an offset; a name stands just before its end.

abbrev NameEnds : List ℕ → Event → ℕ → Type 0
NameEnds bytes (name d word) next = (length word ≤ next) × (take (length word) (drop (next - length word) bytes) ≡ word)
NameEnds bytes (job clock t dests) next = Unit
NameEnds bytes (pick clock) next = Unit
NameEnds bytes (report clock e ticket outcome) next = Unit

abbrev pub Ends : List ℕ → ℕ → Found → Type 0
Ends bytes offset (event e next) = (offset ≤ next) × (next ≤ length bytes) × NameEnds bytes e next
Ends bytes offset (closed c) = Unit

module _ (bytes : List ℕ) (start : ℕ) where
  -- a field, and what is behind it
  then_ends :
      (low offset : ℕ) (range : ℕ → Bool) (rest : ℕ → ℕ → Found)
      → ((x next : ℕ) → offset < next → next ≤ length bytes → Ends bytes low (rest x next))
      → Ends bytes low (field bytes start offset range rest)
  unfolding field_of
  then_ends low offset range rest h = go (ranged range (number_at bytes offset)) (field_ends bytes range offset)
    where
      go : (n : Number) → NumberEnds bytes offset n → Ends bytes low (field_of start rest n)
      go (number x next) e = h x next e.0 e.1
      go (fault k) e = tt

  name_from_ends : (low d size offset : ℕ) → low ≤ offset → Ends bytes low (name_from bytes start d size offset)
  unfolding name_from
  name_from_ends low d size offset h =
      if_cases (Ends bytes low) (leb (offset + size) (length bytes)) (λ l. whole (leb-true _ _ l)) (λ l. tt)
    where
      whole : offset + size ≤ length bytes → Ends bytes low (event (name d (take size (drop offset bytes))) (offset + size))
      whole l =
          let long : length (take size (drop offset bytes)) ≡ size = length-take-le size (drop offset bytes) (rw length-drop (omega (arith, l))) in
          let back : offset + size - size ≡ offset = omega arith in
          (omega (arith, h), l, rw (long, back) (omega arith, refl))

  name_ends : (offset : ℕ) → Ends bytes (offset + 1) (name_fields bytes start offset)
  unfolding name_fields
  name_ends offset =
      then_ends (offset + 1) offset _ _ (λ d b p q.
      then_ends (offset + 1) b _ _ (λ size g r s.
      name_from_ends (offset + 1) d size g (omega (arith, p, r))))

  job_from_ends : (low clock t : ℕ) (dests : List ℕ) (more offset : ℕ) → low ≤ offset → offset ≤ length bytes → Ends bytes low (job_from bytes start clock t dests more offset)
  unfolding job_from
  job_from_ends low clock t dests zero offset h l = (h, l, tt)
  job_from_ends low clock t dests (suc more) offset h l =
      then_ends low offset _ _ (λ d next p q. job_from_ends low clock t _ more next (omega (arith, h, p)) q)

  job_ends : (offset : ℕ) → Ends bytes (offset + 1) (job_fields bytes start offset)
  unfolding job_fields
  job_ends offset =
      then_ends (offset + 1) offset _ _ (λ clock b p q.
      then_ends (offset + 1) b _ _ (λ t g r s.
      then_ends (offset + 1) g _ _ (λ count next u v.
      job_from_ends (offset + 1) clock t [] count next (omega (arith, p, r, u)) v)))

  pick_ends : (offset : ℕ) → Ends bytes (offset + 1) (pick_fields bytes start offset)
  unfolding pick_fields
  pick_ends offset = then_ends (offset + 1) offset _ _ (λ clock next p q. (omega (arith, p), q, tt))

  report_ends : (offset : ℕ) → Ends bytes (offset + 1) (report_fields bytes start offset)
  unfolding report_fields
  report_ends offset =
      then_ends (offset + 1) offset _ _ (λ clock b p q.
      then_ends (offset + 1) b _ _ (λ e g r s.
      then_ends (offset + 1) g _ _ (λ ticket k u v.
      then_ends (offset + 1) k _ _ (λ outcome next w x. (omega (arith, p, r, u, w), x, tt)))))

  fields_end : (kind offset : ℕ) → Ends bytes (offset + 1) (fields_of bytes start kind offset)
  unfolding fields_of
  fields_end kind offset =
      if_cases (Ends bytes (offset + 1)) (eqb kind 0) (λ y. name_ends offset) (λ z.
      if_cases (Ends bytes (offset + 1)) (eqb kind 1) (λ y. job_ends offset) (λ z.
      if_cases (Ends bytes (offset + 1)) (eqb kind 2) (λ y. pick_ends offset) (λ z. report_ends offset)))

-- the same, no nearer than a lesser offset
sooner : (bytes : List ℕ) {low high : ℕ} → low ≤ high → (f : Found) → Ends bytes high f → Ends bytes low f
sooner bytes h (event e next) p = (le_trans h p.0, p.1, p.2)
sooner bytes h (closed c) p = tt

pub read_ends : (bytes : List ℕ) (offset : ℕ) → Ends bytes (offset + 2) (read_at bytes offset)
unfolding read_at
read_ends bytes offset =
    if_cases (Ends bytes (offset + 2)) (leb (length bytes) offset) (λ l. tt) (λ l.
    then_ends bytes offset (offset + 2) offset _ _ (λ kind next p q.
    sooner bytes (omega (arith, p)) (fields_of bytes offset kind next) (fields_end bytes offset kind next)))

pub record_ends : (bytes : List ℕ) (offset : ℕ) {e : Event} {next : ℕ} → read_at bytes offset ≡ event e next → (offset + 2 ≤ next) × (next ≤ length bytes)
record_ends bytes offset found = let ends = subst (Ends bytes (offset + 2)) found (read_ends bytes offset) in (ends.0, ends.1)

-- at the end, and past it
pub read_past : (bytes : List ℕ) (offset : ℕ) → length bytes ≤ offset → read_at bytes offset ≡ closed end
unfolding read_at when◌then◌else◌
read_past bytes offset h = rw (le-leb (length bytes) offset h) refl
