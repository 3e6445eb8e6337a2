-- What the reader's answer tells of a journal from an offset on, and how many records a journal has at most.
use Prim.Native.Nat.{ℕ, zero, suc, ◌+◌, ◌*◌, ◌≤◌}
use mathlib.Core.Path.{◌≡◌, refl, sym, ◌∙◌, ap, subst}
use mathlib.Core.List.{List, [], ◌∷◌}
use Rattle.std.proofs.Common.{Option, Some, None, Result, Ok, Err}
use native.Mathlib.Omega.{arith}
use lib.ListN.{length}
use Rattle.laws.specs.Sequence.{padded}
use Rattle.laws.proofs.Sequence.{take_padded}
use Rattle.rules.specs.Calls.{job as job_call}
use Rattle.journal.specs.declared.Whole.{Whole}
use Rattle.journal.specs.declared.Unreadable.{Unreadable}
use Rattle.journal.specs.declared.Reading.{Reading}
use Rattle.journal.specs.Records.{Event, name, job, pick, report, Close, end, refused, Found, event, closed, read_at}
use Rattle.journal.specs.Journals.{Journal, then_read, journal_from, journal_of}
use Rattle.journal.specs.Told.{record_of, Fault, answer_of, destinations_of, ReadingOf}
use Rattle.journal.specs.Told as reading
use Rattle.journal.proofs.Extents.{Ends, read_ends, record_ends, read_past}
use Rattle.journal.specs.Replays.{lent, call_of}
use Rattle.playing.specs.Plays.{call_told}

-- What stands there, by the answer's case: a record tells the call that it makes.
abbrev pub Tells : Found → List ℕ → Result (Option Whole) Fault → Type 0
Tells f dests (Ok (Some w)) = (e : Event) × (f ≡ event e w.next) × (call_told w.what dests ≡ call_of e)
Tells f dests (Ok None) = f ≡ closed end
Tells f dests (Err u) = f ≡ closed (refused u.number u.offset)

tells : (f : Found) → Tells f (padded 256 (destinations_of f)) (answer_of f)
unfolding answer_of record_of destinations_of call_told call_of
tells (event (name d bytes) next) = (name d bytes, refl, refl)
tells (event (job clock t dests) next) = (job clock t dests, refl, ap (λ l. job_call clock t l lent ∷ []) (take_padded 256 dests))
tells (event (pick clock) next) = (pick clock, refl, refl)
tells (event (report clock e ticket outcome) next) = (report clock e ticket outcome, refl, refl)
tells (closed end) = refl
tells (closed (refused k offset)) = refl

pub told : (f : Found) {r : Reading} {a : Result (Option Whole) Unreadable} → ReadingOf f r → r.answer ≡ a → Tells f r.destinations (reading.told a)
told f {r} h e =
    subst (Tells f r.destinations) (sym h.answer ∙ ap reading.told e)
    (subst (λ l. Tells f l (answer_of f)) (sym h.destinations) (tells f))

-- The journal from an offset on, with as many records allowed as it has bytes.
module _ (bytes : List ℕ) (at : ℕ) where
  abbrev close_in : Found → Close
  close_in (event e next) = end
  close_in (closed c) = c

  pub journal_closes : (left : ℕ) {c : Close} → length bytes ≤ left + at → read_at bytes at ≡ closed c → journal_from left bytes at ≡ record { events = []; close = c }
  unfolding journal_from then_read
  journal_closes zero h e = ap (λ c. record { events = []; close = c }) (ap close_in (sym (read_past bytes at (omega (arith, h))) ∙ e))
  journal_closes (suc left) h e = rw e refl

  module _ {e : Event} {next : ℕ} (found : read_at bytes at ≡ event e next) where
    pub journal_goes :
        (left : ℕ)
        → length bytes ≤ left + at
        → (k : ℕ) × (left ≡ suc k) × (journal_from left bytes at ≡ record { events = e ∷ (journal_from k bytes next).events; close = (journal_from k bytes next).close })
    unfolding journal_from then_read
    journal_goes zero h = absurd (omega (arith, h, record_ends bytes at found))
    journal_goes (suc left) h = (left, refl, rw found refl)

-- A record has two bytes or more.

then_few :
    (bytes : List ℕ) (at : ℕ) (rest : ℕ → Journal)
    → ((next : ℕ) → next ≤ length bytes → 2 * length (rest next).events + next ≤ length bytes)
    → at ≤ length bytes
    → (f : Found)
    → Ends bytes (at + 2) f
    → 2 * length (then_read f rest).events + at ≤ length bytes
unfolding then_read
then_few bytes at rest few h (event e next) ends = omega (arith, ends.0, few next ends.1)
then_few bytes at rest few h (closed c) ends = omega (arith, h)

from_few : (bytes : List ℕ) (left at : ℕ) → at ≤ length bytes → 2 * length (journal_from left bytes at).events + at ≤ length bytes
unfolding journal_from
from_few bytes zero at h = omega (arith, h)
from_few bytes (suc left) at h = then_few bytes at (journal_from left bytes) (from_few bytes left) h (read_at bytes at) (read_ends bytes at)

pub events_few : (bytes : List ℕ) → 2 * length (journal_of bytes).events ≤ length bytes
unfolding journal_of
events_few bytes = omega (arith, from_few bytes (length bytes) 0 (omega arith))
