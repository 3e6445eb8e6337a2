-- An event is refused, or stored in its two parts: its numbers one behind the other, and then its tail.
use Rattle.std.proofs.Common.{ℕ, ◌≡◌, ◌+◌, ◌≤◌, Bool, true, false, leb, List, [], ◌++◌, length, Result, Ok, Err, refl, sym, ap, ◌∙◌, length-append, arith}
use Rattle.std.specs.Result.{IsErrAnd}
use Rattle.std.proofs.lemmas.Result.{err_from_is_err_and}
use lib.Seq.{sets-eq}
use borrow.Author.Tests.{leb-true, le-leb}
use Rattle.laws.specs.Sequence.{every_in}
use Rattle.laws.proofs.Bools.{if_true, if_false}
use Rattle.rules.specs.declared.Refusal.{Refusal}
use Rattle.rules.specs.Answers.{refusal_number}
use Rattle.journal.specs.Numbers.{small}
use Rattle.journal.specs.Records.{Event}
use Rattle.journal.specs.Writes.{numbers_bytes, bytes_of, writable, put, told, Writing, refusing, fitted, writing_of}
use Rattle.writer.specs.Parts.{unless, Stored}
use Rattle.writer.proofs.StoredLaws.{stored_length, stored_as, stored_more}

-- what a test answers

pub passed : (b : Bool) (k : Refusal) → Ok tt ≡ unless b k → b ≡ true
passed true k e = refl
passed false k e = absurd cc

pub failed : (b : Bool) {k m : Refusal} → Err k ≡ unless b m → (b ≡ false) × (k ≡ m)
failed true e = absurd cc
failed false e = (refl, cc)

-- an answer, and the buffer that is left
pub record Writes (r : Result ℕ ℕ) (z : List ℕ) (w : Writing) : Type 0 where
  pub answer : r ≡ w.answer
  pub bytes : z ≡ w.buffer

pub refuses : (k : ℕ) (b : List ℕ) {w : Writing} → w ≡ refusing k b → Writes (Err k) b w
unfolding refusing
refuses k b h = rw h (record { answer = refl; bytes = refl })

-- the answer of a `?` that stops at such a refusal
pub stopped : (r : Result ℕ Refusal) {k m : Refusal} {z : List ℕ} {w : Writing} → IsErrAnd r (λ y. y ≡ k) → k ≡ m → Writes (Err (refusal_number m)) z w → Writes (told r) z w
stopped r h e v = let p = err_from_is_err_and r h in rw (p.1, p.2, e) v

-- an event that may be written, in its parts
pub record Parts (v : Event) (numbers tail : List ℕ) : Type 0 where
  pub may : writable v ≡ true
  pub smalls : every_in small numbers ≡ true
  pub bytes : numbers_bytes numbers ++ tail ≡ bytes_of v

module _ (v : Event) (b : List ℕ) (used : ℕ) {numbers tail : List ℕ} {size : ℕ} (o : Parts v numbers tail) (e : size ≡ length (numbers_bytes numbers) + length tail) where
  size_is : size ≡ length (bytes_of v)
  size_is = e ∙ sym (length-append _ _) ∙ ap length o.bytes

  pub full : leb (used + size) (length b) ≡ false → Writes (Err 10) b (writing_of v b used)
  unfolding writing_of fitted
  full h = refuses 10 b (if_true _ _ o.may ∙ if_false _ _ (rw (← size_is) h))

  module _ (h : leb (used + size) (length b) ≡ true) where
    pub numbers_fit : used + length (numbers_bytes numbers) ≤ length b
    numbers_fit = omega (arith, leb-true _ _ h, e)

    module _ {x : List ℕ} {at : ℕ} (s : Stored (numbers_bytes numbers) b used x at) where
      pub tail_fits : at + length tail ≤ length x
      tail_fits = omega (arith, leb-true _ _ h, e, s.next, stored_length s)

      pub whole : {z : List ℕ} {r : ℕ} → Stored tail x at z r → Writes (Ok r) z (writing_of v b used)
      unfolding writing_of fitted put
      whole {z} t =
          let all : Stored (bytes_of v) b used z _ = stored_as o.bytes (stored_more s t) in
          let room : used + length (bytes_of v) ≤ length b = rw (← size_is) (leb-true _ _ h) in
          rw (if_true _ _ o.may, if_true _ _ (le-leb _ _ room)) (record { answer = ap (λ n. Ok n) all.next; bytes = all.stored ∙ sets-eq _ b used room })

-- with no tail the numbers are all
pub no_tail : {x : List ℕ} {at : ℕ} → Stored [] x at x at
no_tail = record { stored = refl; next = omega arith }
