-- Request A8: "Reading what was written gives the same records".
use Prim.Native.Nat.{ℕ, zero, suc, ◌+◌, ◌*◌, ◌-◌, ◌/◌, ◌%◌, ◌^◌, ◌≤◌, ◌<◌}
use mathlib.Core.Path.{◌≡◌, refl, sym, ◌∙◌, ap, ap₂}
use mathlib.Core.Bool.{Bool, true}
use mathlib.Core.List.{List, [], ◌∷◌, ◌++◌, append_assoc, append-nil}
use native.Mathlib.Nat.{pow-zero, pow-suc}
use native.Mathlib.Omega.{arith}
use lib.ListN.{length, drop, get_or, length-append, length-drop}
use lib.Seq.{drop-cons, drop-drop, drop-append_seam, take-append_seam}
use lib.Dec.{eqb, ltb, leb}
use borrow.Author.Tests.{leb-true, ltb-true, ltb-false, lt-ltb, le-ltb, le-leb, lt-leb}
use Rattle.laws.specs.Bools.{when◌then◌else◌}
use Rattle.laws.specs.Sequence.{every_in}
use Rattle.laws.proofs.Bools.{case_bool, and_left, and_right, or_right}
use Rattle.laws.proofs.Joined.{and_4}
use Rattle.rules.specs.Setup.{within}
use Rattle.rules.proofs.RangeFacts.{within_facts}
use Rattle.rules.specs.State.{at}
use Rattle.journal.specs.Numbers.{number, above, groups_at, small, shortest, well_written, number_at}
use Rattle.journal.specs.Records.{Event, name, job, pick, report, end, Found, event, name_number, name_length, job_count, report_outcome}
use Rattle.journal.specs.Records.{ranged, field_of, field, name_from, name_fields, job_from, job_fields, pick_fields, report_fields, fields_of, read_at}
use Rattle.journal.specs.Journals.{then_read, journal_from, journal_of}
use Rattle.journal.specs.Writes.{groups_of, number_bytes, numbers_bytes, bytes_of, journal_bytes, writable}
use Rattle.journal.proofs.Extents.{record_ends, read_past}
use Rattle.journal.proofs.Groups.{groups_one, groups_more}
use Rattle.roundtrips.specs.RoundTrips.{all_writable}

-- The groups of a number: one, or more.

one_or_more {ℓ} : {P : Type ℓ} (x : ℕ) → (x < 128 → P) → (128 ≤ x → P) → P
one_or_more x one more = case_bool (ltb x 128) (λ t. one (ltb-true x 128 t)) (λ f. more (ltb-false x 128 f))

-- no more of them than it takes
groups_few : (most x : ℕ) → 0 < x → 128 ^ length (groups_of most x) ≤ 128 * x
unfolding groups_of
groups_few zero x p = omega (arith, pow-zero 128, p)
groups_few (suc most) x p =
    one_or_more x
    (λ l. rw (groups_one most x l) (omega (arith, pow-zero 128, pow-suc 128 0, p)))
    (λ l. rw (groups_more most x l) (omega (arith, pow-suc 128 (length (groups_of most (x / 128))), groups_few most (x / 128) (omega (arith, l)))))

shortest_of : (n x : ℕ) → 128 ^ suc n ≤ 128 * x → shortest (suc n) x ≡ true
unfolding shortest
shortest_of n x h =
    let back : suc n - 1 ≡ n = omega arith in
    or_right (eqb (suc n) 1) (le-leb (128 ^ (suc n - 1)) x (rw back (omega (arith, h, pow-suc 128 n))))

groups_shortest : (most x : ℕ) → shortest (length (groups_of (suc most) x)) x ≡ true
unfolding shortest
groups_shortest most x =
    one_or_more x
    (λ l. rw (groups_one most x l) refl)
    (λ l. rw (groups_more most x l) (shortest_of (length (groups_of most (x / 128))) x (rw (groups_more most x l) at (groups_few (suc most) x (omega (arith, l))))))

-- What stands in a journal from an offset on, by what is left of it there.
module _ (bytes : List ℕ) where
  abbrev From : ℕ → List ℕ → Type 0
  From offset rest = drop offset bytes ≡ rest

  from_behind : (offset : ℕ) (part rest : List ℕ) → From offset (part ++ rest) → From (offset + length part) rest
  from_behind offset part rest h = sym (drop-drop (length part) offset bytes) ∙ ap (drop (length part)) h ∙ drop-append_seam part rest

  module _ (offset : ℕ) {b : ℕ} {rest : List ℕ} (h : From offset (b ∷ rest)) where
    from_inside : offset < length bytes
    from_inside = omega (arith, length-drop offset bytes, ap length h)

    from_byte : at bytes offset ≡ b
    from_byte = ap (λ l. get_or l 0 0) (sym (drop-cons bytes offset 0 from_inside) ∙ h)

    -- the cases of a group
    last_read : (most : ℕ) → b < 128 → groups_at (suc most) bytes offset ≡ number b (offset + 1)
    unfolding groups_at when◌then◌else◌
    last_read most l = rw (lt-leb _ _ from_inside, from_byte, lt-ltb b 128 l) refl

    more_read : (most : ℕ) → 128 ≤ b → groups_at (suc most) bytes offset ≡ above (b - 128) (groups_at most bytes (offset + 1))
    unfolding groups_at when◌then◌else◌
    more_read most l = rw (lt-leb _ _ from_inside, from_byte, le-ltb b 128 l) refl

  -- the groups of a number, as it is read with at most so many
  abbrev GroupsRead : ℕ → ℕ → ℕ → Type 0
  GroupsRead most x offset = groups_at most bytes offset ≡ number x (offset + length (groups_of most x))

  module _ (most x offset : ℕ) (rest : List ℕ) where
    one_read : x < 128 → From offset (groups_of (suc most) x ++ rest) → GroupsRead (suc most) x offset
    one_read l h =
        let e = groups_one most x l in
        last_read offset (h ∙ ap (λ g. g ++ rest) e) most l ∙ ap (λ g. number x (offset + length g)) (sym e)

    many_read :
        128 ≤ x
        → From offset (groups_of (suc most) x ++ rest)
        → (From (offset + 1) (groups_of most (x / 128) ++ rest) → GroupsRead most (x / 128) (offset + 1))
        → GroupsRead (suc most) x offset
    unfolding above
    many_read l h again =
        let e = groups_more most x l in
        let k = h ∙ ap (λ g. g ++ rest) e in
        more_read offset k most (omega arith) ∙ ap (above (128 + x % 128 - 128)) (again (from_behind offset ((128 + x % 128) ∷ []) _ k))
        ∙ ap₂ number (omega arith) (rw e (omega arith))

  groups_read : (most x offset : ℕ) (rest : List ℕ) → x < 128 ^ suc most → From offset (groups_of (suc most) x ++ rest) → GroupsRead (suc most) x offset
  groups_read zero x offset rest l h = one_read 0 x offset rest (omega (arith, l, pow-zero 128, pow-suc 128 0)) h
  groups_read (suc most) x offset rest l h =
      one_or_more x
      (λ k. one_read (suc most) x offset rest k h)
      (λ k. many_read (suc most) x offset rest k h (groups_read most (x / 128) (offset + 1) rest (omega (arith, l, pow-suc 128 (suc most)))))

  number_read : (x offset : ℕ) (rest : List ℕ) → small x ≡ true → From offset (number_bytes x ++ rest) → number_at bytes offset ≡ number x (offset + length (number_bytes x))
  unfolding number_at number_bytes well_written when◌then◌else◌
  number_read x offset rest l h =
      let size : offset + length (groups_of 5 x) - offset ≡ length (groups_of 5 x) = omega arith in
      ap (well_written offset) (groups_read 4 x offset rest (omega (arith, ltb-true x 4_294_967_296 l)) h)
      ∙ rw (size, groups_shortest 4 x, l) refl

-- numbers stand at an offset, and the rest behind them
record Stands (bytes : List ℕ) (offset : ℕ) (numbers rest : List ℕ) : Type 0 where
  left : drop offset bytes ≡ numbers_bytes numbers ++ rest

-- what is found is a record, and the rest stands behind it
record Reads (bytes : List ℕ) (found : Found) (e : Event) (rest : List ℕ) : Type 0 where
  next : ℕ
  is : found ≡ event e next
  behind : drop next bytes ≡ rest

small_of : (low high x : ℕ) → high < 4_294_967_296 → within low high x ≡ true → small x ≡ true
small_of low high x l h = lt-ltb x 4_294_967_296 (omega (arith, l, within_facts {low = low} {high = high} {x = x} h))

module _ {bytes rest : List ℕ} where
  -- a number, and what stands behind it
  stands_number : {offset x : ℕ} {numbers : List ℕ} → Stands bytes offset (x ∷ numbers) rest → From bytes offset (number_bytes x ++ (numbers_bytes numbers ++ rest))
  unfolding numbers_bytes
  stands_number {x} {numbers} h = h.left ∙ append_assoc (number_bytes x) (numbers_bytes numbers) rest

  -- a field, and what is behind it
  field_read :
      {offset x : ℕ} {numbers behind : List ℕ} {e : Event} (start : ℕ) (range : ℕ → Bool) (after : ℕ → ℕ → Found)
      → small x ≡ true
      → range x ≡ true
      → Stands bytes offset (x ∷ numbers) rest
      → ((next : ℕ) → Stands bytes next numbers rest → Reads bytes (after x next) e behind)
      → Reads bytes (field bytes start offset range after) e behind
  unfolding ranged field_of when◌then◌else◌
  field_read {offset} {x} start range after l r h reads =
      rw (number_read bytes x offset _ l (stands_number h), r) (reads _ record { left = from_behind bytes offset (number_bytes x) _ (stands_number h) })

  -- a kind, and the fields behind it
  kind_read :
      {offset kind : ℕ} {numbers behind : List ℕ} {e : Event}
      → within 0 3 kind ≡ true
      → Stands bytes offset (kind ∷ numbers) rest
      → ((next : ℕ) → Stands bytes next numbers rest → Reads bytes (fields_of bytes offset kind next) e behind)
      → Reads bytes (read_at bytes offset) e behind
  unfolding read_at number_bytes when◌then◌else◌
  kind_read {offset} {kind} {numbers} r h reads =
      let one = groups_one 4 kind (omega (arith, within_facts {low = 0} {high = 3} {x = kind} r)) in
      rw (lt-leb (length bytes) offset (from_inside bytes offset (stands_number h ∙ ap (λ g. g ++ (numbers_bytes numbers ++ rest)) one)))
      (field_read offset _ _ (small_of 0 3 kind (omega arith) r) r h reads)

  whole_read : {e : Event} {next : ℕ} → Stands bytes next [] rest → Reads bytes (event e next) e rest
  unfolding numbers_bytes
  whole_read {next} h = record { next = next; is = refl; behind = h.left }

-- The records, each from its first field on.
module _ {bytes rest : List ℕ} (start : ℕ) where
  pick_read : (clock offset : ℕ) → writable (pick clock) ≡ true → Stands bytes offset (clock ∷ []) rest → Reads bytes (pick_fields bytes start offset) (pick clock) rest
  unfolding writable pick_fields
  pick_read clock offset w h = field_read start _ _ w refl h (λ next k. whole_read k)

  report_read :
      (clock e ticket outcome offset : ℕ)
      → writable (report clock e ticket outcome) ≡ true
      → Stands bytes offset (clock ∷ e ∷ ticket ∷ outcome ∷ []) rest
      → Reads bytes (report_fields bytes start offset) (report clock e ticket outcome) rest
  unfolding writable report_fields
  report_read clock e ticket outcome offset w h =
      let s = and_4 (small clock) (small e) (small ticket) (report_outcome outcome) w in
      let o = small_of 0 1 outcome (omega arith) s.3 in
      field_read start _ _ s.0 refl h (λ a h.
      field_read start _ _ s.1 refl h (λ b h.
      field_read start _ _ s.2 refl h (λ g h.
      field_read start _ _ o s.3 h (λ next h. whole_read h))))

  word_read :
      (d offset : ℕ) (word : List ℕ)
      → 0 < length word
      → Stands bytes offset [] (word ++ rest)
      → Reads bytes (name_from bytes start d (length word) offset) (name d word) rest
  unfolding name_from numbers_bytes when◌then◌else◌
  word_read d offset word p h =
      let fits : offset + length word ≤ length bytes = omega (arith, p, length-drop offset bytes, ap length h.left, length-append word rest) in
      rw (le-leb _ _ fits, h.left, take-append_seam word rest) record { next = offset + length word; is = refl; behind = from_behind bytes offset word rest h.left }

  name_read :
      (d offset : ℕ) (word : List ℕ)
      → writable (name d word) ≡ true
      → Stands bytes offset (d ∷ length word ∷ []) (word ++ rest)
      → Reads bytes (name_fields bytes start offset) (name d word) rest
  unfolding writable name_fields within
  name_read d offset word w h =
      let n = and_left (name_number d) (name_length (length word)) w in
      let s = and_right (name_number d) (name_length (length word)) w in
      let long = leb-true 1 (length word) (and_left (leb 1 (length word)) (leb (length word) 63) s) in
      field_read start _ _ (small_of 0 31 d (omega arith) n) n h (λ b h.
      field_read start _ _ (small_of 1 63 (length word) (omega arith) s) s h (λ g h.
      word_read d g word long h))

  -- the destinations behind those that are read
  dests_read :
      (clock t : ℕ) (read dests : List ℕ) (offset : ℕ)
      → every_in small dests ≡ true
      → Stands bytes offset dests rest
      → Reads bytes (job_from bytes start clock t read (length dests) offset) (job clock t (read ++ dests)) rest
  unfolding every_in job_from
  dests_read clock t read [] offset w h = rw (append-nil read) (whole_read h)
  dests_read clock t read (d ∷ dests) offset w h =
      field_read start _ _ (and_left (small d) (every_in small dests) w) refl h (λ next h.
      rw append_assoc at (dests_read clock t (read ++ (d ∷ [])) dests next (and_right (small d) (every_in small dests) w) h))

  job_read :
      (clock t offset : ℕ) (dests : List ℕ)
      → writable (job clock t dests) ≡ true
      → Stands bytes offset (clock ∷ t ∷ length dests ∷ dests) rest
      → Reads bytes (job_fields bytes start offset) (job clock t dests) rest
  unfolding writable job_fields
  job_read clock t offset dests w h =
      let s = and_4 (small clock) (small t) (job_count (length dests)) (every_in small dests) w in
      let c = small_of 1 256 (length dests) (omega arith) s.2 in
      field_read start _ _ s.0 refl h (λ a h.
      field_read start _ _ s.1 refl h (λ b h.
      field_read start _ _ c s.2 h (λ g h. dests_read clock t [] dests g s.3 h)))

record_read : (bytes rest : List ℕ) (e : Event) (offset : ℕ) → writable e ≡ true → From bytes offset (bytes_of e ++ rest) → Reads bytes (read_at bytes offset) e rest
unfolding bytes_of fields_of within when◌then◌else◌
record_read bytes rest (name d word) offset w h =
    kind_read refl record { left = h ∙ append_assoc (numbers_bytes (0 ∷ d ∷ length word ∷ [])) word rest } (λ next k. name_read offset d next word w k)
record_read bytes rest (job clock t dests) offset w h = kind_read refl record { left = h } (λ next k. job_read offset clock t next dests w k)
record_read bytes rest (pick clock) offset w h = kind_read refl record { left = h } (λ next k. pick_read offset clock next w k)
record_read bytes rest (report clock e ticket outcome) offset w h = kind_read refl record { left = h } (λ next k. report_read offset clock e ticket outcome next w k)

-- The journal.
module _ (bytes : List ℕ) where
  journal_read :
      (left offset : ℕ) (events : List Event)
      → length bytes ≤ left + offset
      → all_writable events ≡ true
      → drop offset bytes ≡ journal_bytes events
      → journal_from left bytes offset ≡ record { events = events; close = end }
  unfolding journal_from then_read journal_bytes all_writable
  journal_read zero offset [] l w h = refl
  journal_read (suc left) offset [] l w h = rw (read_past bytes offset (omega (arith, length-drop offset bytes, ap length h))) refl
  journal_read zero offset (e ∷ events) l w h = absurd (omega (arith, l, record_ends bytes offset (record_read bytes (journal_bytes events) e offset (and_left (writable e) (all_writable events) w) h).is))
  journal_read (suc left) offset (e ∷ events) l w h =
      let r = record_read bytes (journal_bytes events) e offset (and_left (writable e) (all_writable events) w) h in
      rw r.is
      (ap (λ j. record { events = e ∷ j.events; close = j.close })
      (journal_read left r.next events (omega (arith, l, record_ends bytes offset r.is)) (and_right (writable e) (all_writable events) w) r.behind))

pub read_back : (events : List Event) → all_writable events ≡ true → journal_of (journal_bytes events) ≡ record { events = events; close = end }
unfolding journal_of
read_back events w = journal_read (journal_bytes events) (length (journal_bytes events)) 0 events (omega arith) w refl
