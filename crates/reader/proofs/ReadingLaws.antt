-- What is told of a record: the answer with its destinations, and the part of the journal that is a name.
use Rattle.std.proofs.Common.{ℕ, ◌≡◌, ◌+◌, ◌-◌, ◌≤◌, Bool, List, [], length, take, drop, Option, Some, None, Result, Ok, Err, add-zero, refl, sym, ap, ◌∙◌}
use Rattle.std.specs.Result.{result_ok}
use Rattle.std.specs.Option.{option_flatten}
use Rattle.laws.specs.Sequence.{padded}
use Rattle.laws.proofs.Bools.{if_cases}
use Rattle.rules.specs.Setup.{within}
use Rattle.rules.specs.Calls.{outcome_of}
use Rattle.journal.specs.declared.Record.{Record}
use Rattle.journal.specs.declared.Whole.{Whole}
use Rattle.journal.specs.declared.Unreadable.{Unreadable}
use Rattle.journal.specs.declared.Reading.{Reading}
use Rattle.journal.specs.Numbers.{Number, number, fault, number_at}
use Rattle.journal.specs.Records.{name, job, pick, report, end, refused, Found, event, closed, any_size, ranged, field_of, field, name_from, name_fields, pick_fields, report_fields, read_at}
use Rattle.journal.specs.Told.{Fault, told, record_of, answer_of, destinations_of, ReadingOf, name_of, name_start}
use Rattle.journal.proofs.Extents.{Ends, read_ends}

-- Only a job has destinations.

abbrev pub Alone : Found → Type 0
Alone f = destinations_of f ≡ []

pub alone_told :
    {r : Reading} {a : Result (Option Whole) Unreadable} {f g : Found} → (r.answer ≡ a) × (r.destinations ≡ padded 256 []) → g ≡ f → told a ≡ answer_of f → Alone f
    → ReadingOf g r
alone_told t h e n = record { answer = ap told t.0 ∙ e ∙ ap answer_of (sym h); destinations = t.1 ∙ ap (padded 256) (sym (ap destinations_of h ∙ n)) }

module _ (bytes : List ℕ) (start : ℕ) where
  then_alone : (offset : ℕ) (range : ℕ → Bool) (rest : ℕ → ℕ → Found) → ((x next : ℕ) → Alone (rest x next)) → Alone (field bytes start offset range rest)
  unfolding field_of destinations_of
  then_alone offset range rest h = go (ranged range (number_at bytes offset))
    where
      go : (n : Number) → Alone (field_of start rest n)
      go (number x next) = h x next
      go (fault k) = refl

  pub name_alone : (offset : ℕ) → Alone (name_fields bytes start offset)
  unfolding name_fields name_from destinations_of
  name_alone offset =
      then_alone offset (within 0 31) _ (λ d b. then_alone b (within 1 63) _ (λ size g. if_cases Alone _ (λ y. refl) (λ z. refl)))

  pub pick_alone : (offset : ℕ) → Alone (pick_fields bytes start offset)
  unfolding pick_fields destinations_of
  pick_alone offset = then_alone offset any_size _ (λ clock next. refl)

  pub report_alone : (offset : ℕ) → Alone (report_fields bytes start offset)
  unfolding report_fields destinations_of
  report_alone offset =
      then_alone offset any_size _ (λ clock b. then_alone b any_size _ (λ e g. then_alone g any_size _ (λ ticket k. then_alone k (within 0 1) _ (λ outcome next. refl))))

-- nor has a refusal
pub refused_alone : (f : Found) {u : Fault} → Err u ≡ answer_of f → Alone f
unfolding answer_of destinations_of
refused_alone (event e next) h = absurd cc
refused_alone (closed c) h = refl

-- The part of the journal that is a name, from the answer.

unfoldable pub part_of : List ℕ → Result (Option Whole) Fault → List ℕ
part_of bytes (Ok (Some w)) = named w.what
  where
    named : Record → List ℕ
    named (Record.Name d size) = take size (drop (w.next - size) bytes)
    named (Record.Job clock t count) = []
    named (Record.Pick clock) = []
    named (Record.Report clock e ticket outcome) = []
part_of bytes (Ok None) = []
part_of bytes (Err u) = []

pub part_is : (bytes : List ℕ) (low : ℕ) (f : Found) → Ends bytes low f → part_of bytes (answer_of f) ≡ name_of f
unfolding part_of record_of answer_of name_of
part_is bytes low (event (name d word) next) h = h.2.1
part_is bytes low (event (job clock t dests) next) h = refl
part_is bytes low (event (pick clock) next) h = refl
part_is bytes low (event (report clock e ticket outcome) next) h = refl
part_is bytes low (closed end) h = refl
part_is bytes low (closed (refused k offset)) h = refl

-- its bytes lie just before its record's end, within the journal
pub record NamePart (bytes : List ℕ) (f : Found) (size next : ℕ) : Type 0 where
  pub before : size ≤ next
  pub within : next ≤ length bytes
  pub is : take size (drop (next - size) bytes) ≡ name_of f
  pub start : next - size ≡ name_start f

same_found : {v w : Whole} → ◌≡◌ {A = Result (Option Whole) Fault} (Ok (Some v)) (Ok (Some w)) → v ≡ w
same_found e = cc

name_part : (bytes : List ℕ) (low : ℕ) (f : Found) → Ends bytes low f → {d size next : ℕ} → Ok (Some (record { what = Record.Name d size; next = next })) ≡ answer_of f → NamePart bytes f size next
unfolding part_of record_of answer_of name_start
name_part bytes low (event (name d word) next) h {d = o} {size = size} {next = n} e =
    let what : Record.Name o size ≡ Record.Name d (length word) = ap (λ w. w.what) (same_found e) in
    let long : length word ≡ size = cc in
    let ends : next ≡ n = sym (ap (λ w. w.next) (same_found e)) in
    rw (← long, ← ends) (record { before = h.2.0; within = h.1; is = part_is bytes low (event (name d word) next) h; start = refl })
name_part bytes low (event (job clock t dests) next) h {d = o} {size = size} e =
    let what : Record.Name o size ≡ Record.Job clock t (length dests) = ap (λ w. w.what) (same_found e) in
    absurd cc
name_part bytes low (event (pick clock) next) h {d = o} {size = size} e =
    let what : Record.Name o size ≡ Record.Pick clock = ap (λ w. w.what) (same_found e) in
    absurd cc
name_part bytes low (event (report clock i ticket outcome) next) h {d = o} {size = size} e =
    let what : Record.Name o size ≡ Record.Report clock i ticket (outcome_of outcome) = ap (λ w. w.what) (same_found e) in
    absurd cc
name_part bytes low (closed end) h e = absurd cc
name_part bytes low (closed (refused k offset)) h e = absurd cc

pub name_told :
    (bytes : List ℕ) (offset : ℕ) {w : Whole} {d size : ℕ} → Ok (Some w) ≡ answer_of (read_at bytes offset) → w.what ≡ Record.Name d size
    → NamePart bytes (read_at bytes offset) size w.next
name_told bytes offset {w} t n =
    name_part bytes (offset + 2) (read_at bytes offset) (read_ends bytes offset) (ap (λ what. Ok (Some (record { what = what; next = w.next }))) (sym n) ∙ t)

-- where the answer tells of no name, none stands there, and the part is the empty one at the front of the journal, which lies at p
abbrev pub NoPart : Found → ℕ × ℕ → Type 0
NoPart f p = ([] ≡ name_of f) × (p ≡ (p.0, p.1 + name_start f))

no_name : (f : Found) (p : ℕ × ℕ) → ((d size next : ℕ) → Ok (Some (record { what = Record.Name d size; next = next })) ≡ answer_of f → ⊥) → NoPart f p
unfolding record_of answer_of name_of name_start
no_name (event (name d word) next) p h = absurd (h d (length word) next refl)
no_name (event (job clock t dests) next) p h = (refl, ap (λ k. (p.0, k)) (sym (add-zero p.1)))
no_name (event (pick clock) next) p h = (refl, ap (λ k. (p.0, k)) (sym (add-zero p.1)))
no_name (event (report clock e ticket outcome) next) p h = (refl, ap (λ k. (p.0, k)) (sym (add-zero p.1)))
no_name (closed end) p h = (refl, ap (λ k. (p.0, k)) (sym (add-zero p.1)))
no_name (closed (refused k offset)) p h = (refl, ap (λ k. (p.0, k)) (sym (add-zero p.1)))

-- from the code's answer

module _ (f : Found) where
  pub told_none : (a : Result (Option Whole) Unreadable) → told a ≡ answer_of f → None ≡ option_flatten (result_ok a) → (p : ℕ × ℕ) → NoPart f p
  told_none (Ok (Some w)) t e p = absurd cc
  told_none (Ok None) t e p = no_name f p (λ d size next h. absurd cc)
  told_none (Err u) t e p = no_name f p (λ d size next h. absurd cc)

  pub told_some : (a : Result (Option Whole) Unreadable) {w : Whole} → told a ≡ answer_of f → Some w ≡ option_flatten (result_ok a) → Ok (Some w) ≡ answer_of f
  told_some (Ok (Some v)) t e = ap (λ o. Ok o) e ∙ t
  told_some (Ok None) t e = absurd cc
  told_some (Err u) t e = absurd cc

  pub told_other : {w : Whole} → Ok (Some w) ≡ answer_of f → ((d size : ℕ) → w.what ≡ Record.Name d size → ⊥) → (p : ℕ × ℕ) → NoPart f p
  told_other t n p = no_name f p (λ d size next h. n d size (ap (λ w. w.what) (same_found (t ∙ sym h))))
