-- Request A8: the writer's calls, a record each, one after another into one buffer.
use Prim.Native.Nat.{ℕ, ◌+◌, ◌≤◌}
use mathlib.Core.Path.{◌≡◌, refl, sym, ◌∙◌, ap, subst}
use mathlib.Core.Bool.{true}
use mathlib.Core.List.{List, [], ◌∷◌, ◌++◌, append_assoc, append-nil}
use native.Mathlib.Omega.{arith}
use lib.ListN.{length, take, drop, length-append, length-drop}
use lib.Seq.{length-take-le, take_at}
use lib.Dec.{leb}
use borrow.Author.Tests.{leb-true, le-leb}
use Rattle.laws.specs.Bools.{when◌then◌else◌}
use Rattle.laws.specs.Sequence.{every_in}
use Rattle.laws.proofs.Bools.{if_cases, and_both, and_left, and_right}
use Rattle.journal.specs.Records.{Event, end}
use Rattle.journal.specs.Journals.{journal_of}
use Rattle.journal.specs.Writes.{bytes_of, journal_bytes, writable, put, refusing, fitted, writing_of}
use Rattle.roundtrips.specs.RoundTrips.{all_writable, is_byte, Book, on_answer, on_writing, written_from, written_into, used_part}
use Rattle.roundtrips.proofs.ReadBack.{read_back}
use Rattle.roundtrips.proofs.WriteBack.{write_back, read_writable}

-- One record more.

journal_more : (events : List Event) (e : Event) → journal_bytes (events ++ (e ∷ [])) ≡ journal_bytes events ++ bytes_of e
unfolding journal_bytes
journal_more [] e = append-nil (bytes_of e)
journal_more (x ∷ events) e = ap (λ l. bytes_of x ++ l) (journal_more events e) ∙ sym (append_assoc (bytes_of x) (journal_bytes events) (bytes_of e))

writable_more : (events : List Event) (e : Event) → all_writable events ≡ true → writable e ≡ true → all_writable (events ++ (e ∷ [])) ≡ true
unfolding all_writable
writable_more [] e h w = and_both w refl
writable_more (x ∷ events) e h w =
    and_both (and_left (writable x) (all_writable events) h) (writable_more events e (and_right (writable x) (all_writable events) h) w)

-- Bytes that fit behind those already there.
module _ (bytes buffer : List ℕ) (used : ℕ) (fits : used + length bytes ≤ length buffer) where
  used_length : length (take used buffer ++ bytes) ≡ used + length bytes
  used_length = omega (arith, length-append (take used buffer) bytes, length-take-le used buffer (omega (arith, fits)))

  put_length : length (put bytes buffer used) ≡ length buffer
  unfolding put
  put_length =
      omega (arith, fits, used_length, length-append (take used buffer ++ bytes) (drop (used + length bytes) buffer), length-drop (used + length bytes) buffer)

  put_used : take (used + length bytes) (put bytes buffer used) ≡ take used buffer ++ bytes
  unfolding put
  put_used = take_at (take used buffer ++ bytes) (drop (used + length bytes) buffer) (used + length bytes) used_length

-- a call
abbrev after_call : Book → Event → Book
after_call b e = on_writing b e (writing_of e b.buffer b.used)

abbrev taken_one : Book → Event → Book
taken_one b e = record { buffer = put (bytes_of e) b.buffer b.used; used = b.used + length (bytes_of e); taken = b.taken ++ (e ∷ []) }

-- What is so between the calls: the used part is the bytes of the records taken, each of which can be written.
record Kept (b : Book) : Type 0 where
  bytes : used_part b ≡ journal_bytes b.taken
  good : all_writable b.taken ≡ true

kept_taken : (b : Book) (e : Event) → Kept b → writable e ≡ true → b.used + length (bytes_of e) ≤ length b.buffer → Kept (taken_one b e)
unfolding used_part
kept_taken b e k w fits =
    record {
      bytes = put_used (bytes_of e) b.buffer b.used fits ∙ ap (λ l. l ++ bytes_of e) k.bytes ∙ sym (journal_more b.taken e);
      good = writable_more b.taken e k.good w;
    }

kept_call : (b : Book) (e : Event) → Kept b → Kept (after_call b e)
unfolding writing_of fitted refusing on_answer
kept_call b e k =
    if_cases (λ w. Kept (on_writing b e w)) (writable e) (λ y.
    if_cases (λ w. Kept (on_writing b e w)) (leb (b.used + length (bytes_of e)) (length b.buffer)) (λ f.
    kept_taken b e k y (leb-true _ _ f)) (λ n. k)) (λ n. k)

kept_calls : (b : Book) (events : List Event) → Kept b → Kept (written_from b events)
unfolding written_from
kept_calls b [] k = k
kept_calls b (e ∷ events) k = kept_calls (after_call b e) events (kept_call b e k)

kept : (buffer : List ℕ) (events : List Event) → Kept (written_into buffer events)
unfolding written_into used_part journal_bytes all_writable
kept buffer events = kept_calls _ events record { bytes = refl; good = refl }

-- what is used reads as the records taken
pub read_calls_lem :
    (buffer : List ℕ) (events : List Event)
    → journal_of (used_part (written_into buffer events)) ≡ record { events = (written_into buffer events).taken; close = end }
read_calls_lem buffer events = let k = kept buffer events in ap journal_of k.bytes ∙ read_back _ k.good

-- With room for all.

call_takes : (b : Book) (e : Event) → writable e ≡ true → b.used + length (bytes_of e) ≤ length b.buffer → after_call b e ≡ taken_one b e
unfolding writing_of fitted on_answer when◌then◌else◌
call_takes b e w fits = rw (w, le-leb (b.used + length (bytes_of e)) (length b.buffer) fits) refl

calls_take : (b : Book) (events : List Event) → all_writable events ≡ true → b.used + length (journal_bytes events) ≤ length b.buffer → (written_from b events).taken ≡ b.taken ++ events
unfolding written_from all_writable journal_bytes
calls_take b [] w fits = sym (append-nil b.taken)
calls_take b (e ∷ events) w fits =
    let size = length-append (bytes_of e) (journal_bytes events) in
    let one : b.used + length (bytes_of e) ≤ length b.buffer = omega (arith, fits, size) in
    let long = put_length (bytes_of e) b.buffer b.used one in
    ap (λ x. (written_from x events).taken) (call_takes b e (and_left (writable e) (all_writable events) w) one)
    ∙ calls_take (taken_one b e) events (and_right (writable e) (all_writable events) w) (omega (arith, fits, size, long))
    ∙ append_assoc b.taken (e ∷ []) events

all_taken : (buffer : List ℕ) (events : List Event) → all_writable events ≡ true → length (journal_bytes events) ≤ length buffer → (written_into buffer events).taken ≡ events
unfolding written_into
all_taken buffer events w fits = calls_take _ events w (omega (arith, fits))

-- a journal that was read is written again, byte for byte
pub write_calls_lem :
    (buffer bytes : List ℕ)
    → every_in is_byte bytes ≡ true
    → (journal_of bytes).close ≡ end
    → length bytes ≤ length buffer
    → (used_part (written_into buffer (journal_of bytes).events) ≡ bytes) × ((written_into buffer (journal_of bytes).events).taken ≡ (journal_of bytes).events)
write_calls_lem buffer bytes b c fits =
    let back = write_back bytes b c in
    let all = all_taken buffer (journal_of bytes).events (read_writable bytes) (subst (λ l. length l ≤ length buffer) (sym back) fits) in
    ((kept buffer (journal_of bytes).events).bytes ∙ ap journal_bytes all ∙ back, all)
