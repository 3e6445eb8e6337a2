-- What is done with a line, and what then stands at the front of the buffer.
use Prim.Native.Nat.{ℕ, ◌+◌, ◌≤◌}
use mathlib.Core.Path.{◌≡◌, refl, sym, ◌∙◌, ap, subst}
use mathlib.Core.Bool.{true, false}
use mathlib.Core.List.{List, ◌++◌}
use Rattle.std.proofs.Common.{Option, Some, None, Result, Ok, Err}
use Rattle.std.specs.Option.{ok_or}
use native.Mathlib.Nat.{zero-add}
use native.Mathlib.Omega.{arith}
use lib.ListN.{length, take, drop}
use lib.Seq.{take-append_seam}
use borrow.Author.Tests.{le-leb}
use Rattle.laws.specs.Bools.{when◌then◌else◌}
use Rattle.laws.proofs.Bools.{case_bool, if_true, if_false}
use Rattle.rules.specs.declared.Refusal.{Refusal}
use Rattle.rules.specs.declared.Refusal.TheVariants.{Unsound, SetupOutOfRange, Clock, Transport, EntryCount, Destination, JobNumbers, EntryPlaces, Entry, Room, Job, CutShort, Number, OutOfRange}
use Rattle.rules.specs.Answers.{refusal_number}
use Rattle.journal.specs.Records.{Event}
use Rattle.journal.specs.Writes.{bytes_of, writable, put, told, refusing, fitted, writing_of}
use Rattle.record.specs.declared.Unwritten.{Unwritten}
use Rattle.record.specs.Lines.{Line, nothing, none, says, bytes_for, done_with, size_of, Done}
use Rattle.record.proofs.RoomLaws.{record_short}

pub done_as : {line m : Line} {r : Result (Option ℕ) Unwritten} {z : List ℕ} → line ≡ m → Done m r z → Done line r z
done_as {r} {z} h d = subst (λ l. Done l r z) (sym h) d

pub both : {line : Line} {r : Result (Option ℕ) Unwritten} {z : List ℕ} → Done line r z → (r ≡ done_with line) × (take (size_of r) z ≡ bytes_for line)
both d = (d.answer, d.bytes)

pub nothing_done : {line : Line} {z : List ℕ} → line ≡ nothing → Done line (Ok None) z
unfolding bytes_for done_with size_of
nothing_done h = done_as h (record { answer = refl; bytes = refl })

pub none_done : {line : Line} {z : List ℕ} → line ≡ none → Done line (Err Unwritten.NoRecord) z
unfolding bytes_for done_with size_of
none_done h = done_as h (record { answer = refl; bytes = refl })

-- what is there, or why not

pub ok_or_some : (o : Option ℕ) (k : Unwritten) {d : ℕ} → Ok d ≡ ok_or o k → o ≡ Some d
ok_or_some (Some x) k e = cc
ok_or_some None k e = absurd cc

pub ok_or_none : (o : Option ℕ) {u k : Unwritten} → Err u ≡ ok_or o k → (o ≡ None) × (u ≡ k)
ok_or_none (Some x) e = absurd cc
ok_or_none None e = (refl, cc)

-- 14 is the number of one refusal
out_of_range : (k : Refusal) → refusal_number k ≡ 14 → k ≡ Refusal.OutOfRange
out_of_range Unsound e = absurd (omega (arith, e))
out_of_range SetupOutOfRange e = absurd (omega (arith, e))
out_of_range Clock e = absurd (omega (arith, e))
out_of_range Transport e = absurd (omega (arith, e))
out_of_range EntryCount e = absurd (omega (arith, e))
out_of_range Destination e = absurd (omega (arith, e))
out_of_range JobNumbers e = absurd (omega (arith, e))
out_of_range EntryPlaces e = absurd (omega (arith, e))
out_of_range Entry e = absurd (omega (arith, e))
out_of_range Room e = absurd (omega (arith, e))
out_of_range Job e = absurd (omega (arith, e))
out_of_range CutShort e = absurd (omega (arith, e))
out_of_range Number e = absurd (omega (arith, e))
out_of_range OutOfRange e = refl

-- a record that was given to the writer, with room for every record

module _ (e : Event) (b : List ℕ) where
  refused : writable e ≡ false → writing_of e b 0 ≡ refusing 14 b
  unfolding writing_of
  refused f = if_false _ _ f

  used : 1300 ≤ length b → writable e ≡ true → writing_of e b 0 ≡ record { answer = Ok (length (bytes_of e)); buffer = bytes_of e ++ drop (length (bytes_of e)) b }
  unfolding writing_of fitted put
  used h t =
      let room : 0 + length (bytes_of e) ≤ length b = omega (arith, record_short e t) in
      if_true _ _ t ∙ if_true _ _ (le-leb _ _ room) ∙ rw zero-add refl

  module _ {line : Line} {z : List ℕ} (l : line ≡ says e) (h : 1300 ≤ length b) (w : z ≡ (writing_of e b 0).buffer) where
    pub says_done : {n : ℕ} → told (Ok n) ≡ (writing_of e b 0).answer → Done line (Ok (Some n)) z
    unfolding refusing bytes_for done_with size_of when◌then◌else◌
    says_done {n} v = done_as l (case_bool (writable e)
        (λ t.
        let u : Ok n ≡ Ok (length (bytes_of e)) = v ∙ ap (λ x. x.answer) (used h t) in
        let m : n ≡ length (bytes_of e) = cc in
        let x : z ≡ bytes_of e ++ drop (length (bytes_of e)) b = w ∙ ap (λ x. x.buffer) (used h t) in
        record { answer = rw (m, t) refl; bytes = rw (m, x, t) (take-append_seam (bytes_of e) _) })
        (λ f. let u : Ok n ≡ Err 14 = v ∙ ap (λ x. x.answer) (refused f) in absurd cc))

    pub says_refused : {k : Refusal} {u : Unwritten} → told (Err k) ≡ (writing_of e b 0).answer → u ≡ Unwritten.Refused k → Done line (Err u) z
    unfolding refusing bytes_for done_with size_of when◌then◌else◌
    says_refused {k} v o = done_as l (case_bool (writable e)
        (λ t. let u : Err (refusal_number k) ≡ Ok (length (bytes_of e)) = v ∙ ap (λ x. x.answer) (used h t) in absurd cc)
        (λ f.
        let u : Err (refusal_number k) ≡ Err 14 = v ∙ ap (λ x. x.answer) (refused f) in
        let n : k ≡ Refusal.OutOfRange = out_of_range k cc in
        record { answer = rw (o, n, f) refl; bytes = rw f refl }))
