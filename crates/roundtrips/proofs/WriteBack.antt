-- Request A8: "writing what was read gives the same bytes, for every journal that the reader accepts".
use Prim.Native.Nat.{ℕ, zero, suc, ◌+◌, ◌≤◌}
use mathlib.Core.Path.{◌≡◌, refl, sym, ◌∙◌, ap, subst}
use mathlib.Core.Bool.{Bool, true}
use mathlib.Core.List.{List, [], ◌∷◌, ◌++◌, append-nil}
use native.Mathlib.Omega.{arith}
use lib.ListN.{length, take, drop, length-append, length-drop, take-append-drop, drop_of_length-le}
use lib.Seq.{length-take-le, drop-drop}
use lib.Dec.{eqb, leb}
use borrow.Author.Tests.{leb-true, eqb-true, eqb-false}
use Rattle.laws.specs.Sequence.{every_in}
use Rattle.laws.proofs.Bools.{if_cases, and_both, and_right}
use Rattle.laws.proofs.Sequence.{every_append_both}
use Rattle.rules.specs.Setup.{within}
use Rattle.journal.specs.Numbers.{Number, number, fault, small, number_at}
use Rattle.journal.specs.Records.{name, end, refused, Found, event, closed, name_number, name_length, job_count, report_outcome}
use Rattle.journal.specs.Records.{any_size, ranged, field_of, field, name_from, name_fields, job_from, job_fields, pick_fields, report_fields, fields_of, read_at}
use Rattle.journal.specs.Journals.{Journal, then_read, journal_from, journal_of}
use Rattle.journal.specs.Writes.{number_bytes, numbers_bytes, bytes_of, journal_bytes, writable}
use Rattle.journal.proofs.Groups.{numbers_append}
use Rattle.journal.proofs.Extents.{Ends, read_ends}
use Rattle.roundtrips.specs.RoundTrips.{all_writable, is_byte}
use Rattle.roundtrips.proofs.NumberBack.{Bytes, Stands, stands_then, Numbered, number_back}

-- one number more
numbers_more : (numbers : List ℕ) (x : ℕ) → numbers_bytes (numbers ++ (x ∷ [])) ≡ numbers_bytes numbers ++ number_bytes x
unfolding numbers_bytes
numbers_more numbers x = numbers_append numbers (x ∷ []) ∙ ap (λ l. numbers_bytes numbers ++ l) (append-nil (number_bytes x))

module _ (bytes : List ℕ) (start : ℕ) where
  -- the record has these numbers up to an offset
  abbrev Begins : List ℕ → ℕ → Type 0
  Begins numbers offset = Bytes bytes → Stands bytes start (numbers_bytes numbers) offset

  -- what is so of what is found: a record can be written and stands there as it is written; and the end is not before the last byte
  abbrev Back : Found → Type 0
  Back (event e next) = (writable e ≡ true) × (Bytes bytes → Stands bytes start (bytes_of e) next)
  Back (closed end) = length bytes ≤ start
  Back (closed (refused k offset)) = Unit

  begins_more : (numbers : List ℕ) (x a b : ℕ) → Begins numbers a → (Bytes bytes → Stands bytes a (number_bytes x) b) → Begins (numbers ++ (x ∷ [])) b
  begins_more numbers x a b h k c =
      rw (numbers_more numbers x) (stands_then bytes start a b (numbers_bytes numbers) (number_bytes x) (h c) (k c))

  -- a field, and what is behind it
  then_back :
      (numbers : List ℕ) (offset : ℕ) (range : ℕ → Bool) (rest : ℕ → ℕ → Found)
      → Begins numbers offset
      → ((x next : ℕ) → small x ≡ true → range x ≡ true → Begins (numbers ++ (x ∷ [])) next → Back (rest x next))
      → Back (field bytes start offset range rest)
  unfolding field_of
  then_back numbers offset range rest b h = go (ranged range (number_at bytes offset)) (number_back bytes offset range)
    where
      go : (n : Number) → Numbered bytes offset range n → Back (field_of start rest n)
      go (number x next) k = h x next k.0 k.1 (begins_more numbers x offset next b k.2)
      go (fault k) e = tt

  word_back :
      (d size offset : ℕ) (word : List ℕ) (next : ℕ) → name_number d ≡ true → name_length size ≡ true → length word ≡ size
      → Begins (0 ∷ d ∷ size ∷ []) offset → Stands bytes offset word next → Back (event (name d word) next)
  unfolding writable bytes_of
  word_back d size offset word next n s e b w = rw e (and_both n s, λ c. stands_then bytes start offset next (numbers_bytes (0 ∷ d ∷ size ∷ [])) word (b c) w)

  name_from_back :
      (d size offset : ℕ) → name_number d ≡ true → name_length size ≡ true → Begins (0 ∷ d ∷ size ∷ []) offset → Back (name_from bytes start d size offset)
  unfolding name_from
  name_from_back d size offset n s b =
      if_cases Back (leb (offset + size) (length bytes)) (λ l.
      let fits : size ≤ length (drop offset bytes) = rw length-drop (omega (arith, leb-true (offset + size) (length bytes) l)) in
      word_back d size offset (take size (drop offset bytes)) (offset + size) n s (length-take-le size (drop offset bytes) fits) b cut) (λ l. tt)
    where
      cut : Stands bytes offset (take size (drop offset bytes)) (offset + size)
      cut = sym (take-append-drop size (drop offset bytes)) ∙ ap (λ r. take size (drop offset bytes) ++ r) (drop-drop size offset bytes)

  name_back : (offset : ℕ) → Begins (0 ∷ []) offset → Back (name_fields bytes start offset)
  unfolding name_fields
  name_back offset b =
      then_back (0 ∷ []) offset name_number _ b (λ d g s r b.
      then_back (0 ∷ d ∷ []) g name_length _ b (λ size next t q b.
      name_from_back d size next r q b))

  -- so many destinations more make the count
  job_from_back :
      (clock t count : ℕ) → small clock ≡ true → small t ≡ true → job_count count ≡ true
      → (dests : List ℕ) (more offset : ℕ) → every_in small dests ≡ true → length dests + more ≡ count → Begins (1 ∷ clock ∷ t ∷ count ∷ dests) offset
      → Back (job_from bytes start clock t dests more offset)
  unfolding job_from writable bytes_of every_in
  job_from_back clock t count c u n dests zero offset s e b =
      let all : length dests ≡ count = omega (arith, e) in rw all (and_both (and_both (and_both c u) n) s, b)
  job_from_back clock t count c u n dests (suc more) offset s e b =
      then_back (1 ∷ clock ∷ t ∷ count ∷ dests) offset any_size _ b (λ d next q r b.
      let every : every_in small (dests ++ (d ∷ [])) ≡ true = every_append_both small dests (d ∷ []) s (and_both q refl) in
      job_from_back clock t count c u n (dests ++ (d ∷ [])) more next every (rw length-append (omega (arith, e))) b)

  job_back : (offset : ℕ) → Begins (1 ∷ []) offset → Back (job_fields bytes start offset)
  unfolding job_fields every_in
  job_back offset b =
      then_back (1 ∷ []) offset _ _ b (λ clock g c r b.
      then_back (1 ∷ clock ∷ []) g _ _ b (λ t k u r b.
      then_back (1 ∷ clock ∷ t ∷ []) k job_count _ b (λ count next s n b.
      job_from_back clock t count c u n [] count next refl (omega arith) b)))

  pick_back : (offset : ℕ) → Begins (2 ∷ []) offset → Back (pick_fields bytes start offset)
  unfolding pick_fields writable bytes_of
  pick_back offset b = then_back (2 ∷ []) offset _ _ b (λ clock next c r b. (c, b))

  report_back : (offset : ℕ) → Begins (3 ∷ []) offset → Back (report_fields bytes start offset)
  unfolding report_fields writable bytes_of
  report_back offset b =
      then_back (3 ∷ []) offset _ _ b (λ clock g c r b.
      then_back (3 ∷ clock ∷ []) g _ _ b (λ e k i r b.
      then_back (3 ∷ clock ∷ e ∷ []) k _ _ b (λ ticket n t r b.
      then_back (3 ∷ clock ∷ e ∷ ticket ∷ []) n report_outcome _ b (λ outcome next s o b. (and_both (and_both (and_both c i) t) o, b)))))

  fields_back : (kind offset : ℕ) → kind ≤ 3 → Begins (kind ∷ []) offset → Back (fields_of bytes start kind offset)
  unfolding fields_of
  fields_back kind offset m b =
      if_cases Back (eqb kind 0) (λ y. name_back offset (of 0 (eqb-true kind 0 y))) (λ n.
      if_cases Back (eqb kind 1) (λ y. job_back offset (of 1 (eqb-true kind 1 y))) (λ o.
      if_cases Back (eqb kind 2) (λ y. pick_back offset (of 2 (eqb-true kind 2 y))) (λ p.
      report_back offset (of 3 (omega (arith, eqb-false kind 0 n, eqb-false kind 1 o, eqb-false kind 2 p))))))
    where
      of : (k : ℕ) → kind ≡ k → Begins (k ∷ []) offset
      of k e = subst (λ x. Begins (x ∷ []) offset) e b

read_back : (bytes : List ℕ) (offset : ℕ) → Back bytes offset (read_at bytes offset)
unfolding read_at within numbers_bytes
read_back bytes offset =
    if_cases (Back bytes offset) (leb (length bytes) offset) (λ l. leb-true (length bytes) offset l) (λ l.
    then_back bytes offset [] offset (within 0 3) (fields_of bytes offset) (λ b. refl) (λ kind next s r b.
    fields_back bytes offset kind next (leb-true kind 3 (and_right (leb 0 kind) (leb kind 3) r)) b))

-- The journal from an offset on.

then_writable :
    (bytes : List ℕ) (offset : ℕ) (rest : ℕ → Journal) → ((next : ℕ) → all_writable (rest next).events ≡ true)
    → (f : Found) → Back bytes offset f → all_writable (then_read f rest).events ≡ true
unfolding then_read all_writable
then_writable bytes offset rest h (event e next) b = and_both b.0 (h next)
then_writable bytes offset rest h (closed c) b = refl

from_writable : (bytes : List ℕ) (most offset : ℕ) → all_writable (journal_from most bytes offset).events ≡ true
unfolding journal_from all_writable
from_writable bytes zero offset = refl
from_writable bytes (suc most) offset = then_writable bytes offset (journal_from most bytes) (from_writable bytes most) (read_at bytes offset) (read_back bytes offset)

-- a journal that closes at its end is written as the bytes from the offset on
abbrev WrittenFrom : List ℕ → ℕ → Journal → Type 0
WrittenFrom bytes offset j = j.close ≡ end → journal_bytes j.events ≡ drop offset bytes

then_written :
    (bytes : List ℕ) (offset : ℕ) (rest : ℕ → Journal) → Bytes bytes → ((next : ℕ) → offset + 2 ≤ next → WrittenFrom bytes next (rest next))
    → (f : Found) → Ends bytes (offset + 2) f → Back bytes offset f → WrittenFrom bytes offset (then_read f rest)
unfolding then_read journal_bytes
then_written bytes offset rest c h (event e next) p b k = ap (λ l. bytes_of e ++ l) (h next p.0 k) ∙ sym (b.1 c)
then_written bytes offset rest c h (closed end) p b k = sym (drop_of_length-le bytes b)
then_written bytes offset rest c h (closed (refused n o)) p b k = let z : ◌≡◌ {A = ℕ} 0 1 = cc in absurd (omega arith)

from_written : (bytes : List ℕ) → Bytes bytes → (most offset : ℕ) → length bytes ≤ most + offset → WrittenFrom bytes offset (journal_from most bytes offset)
unfolding journal_from journal_bytes
from_written bytes c zero offset h = λ k. sym (drop_of_length-le bytes {i = offset} (omega (arith, h)))
from_written bytes c (suc most) offset h =
    then_written bytes offset (journal_from most bytes) c (λ next l. from_written bytes c most next (omega (arith, h, l)))
    (read_at bytes offset) (read_ends bytes offset) (read_back bytes offset)

-- writing what was read gives the same bytes
pub write_back : (bytes : List ℕ) → every_in is_byte bytes ≡ true → (journal_of bytes).close ≡ end → journal_bytes (journal_of bytes).events ≡ bytes
unfolding journal_of
write_back bytes c k = from_written bytes c (length bytes) 0 (omega arith) k

-- what was read can be written, whatever closes the journal
pub read_writable : (bytes : List ℕ) → all_writable (journal_of bytes).events ≡ true
unfolding journal_of
read_writable bytes = from_writable bytes (length bytes) 0
