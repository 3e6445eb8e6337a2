-- Records, field by field: at which one a record is refused, and a record that is whole.
use Prim.Native.Nat.{ℕ, suc, ◌+◌, ◌-◌, ◌≤◌, ◌<◌}
use mathlib.Core.Path.{◌≡◌, refl, sym, ◌∙◌, ap}
use mathlib.Core.Bool.{Bool, true}
use mathlib.Core.List.{List, [], ◌∷◌, ◌++◌}
use Rattle.std.proofs.Common.{Some, Ok, Err}
use native.Mathlib.Omega.{arith}
use lib.ListN.{length, take, drop, length-drop}
use lib.Seq.{length-take-le}
use borrow.Author.Tests.{le-leb, lt-leb, ne_eqb}
use Rattle.laws.specs.Bools.{when◌then◌else◌}
use Rattle.laws.proofs.Bools.{case_bool}
use Rattle.rules.specs.Setup.{within}
use Rattle.rules.specs.declared.Outcome.{Outcome}
use Rattle.rules.specs.declared.Outcome.TheVariants.{Success, Failure}
use Rattle.rules.specs.Answers.{outcome_number}
use Rattle.rules.specs.Calls.{outcome_of}
use Rattle.journal.specs.declared.Record.{Record}
use Rattle.journal.specs.Numbers.{Number, number, fault, number_at}
use Rattle.journal.specs.Told.{record_of, answer_of}
use Rattle.journal.specs.Records.{pick, report, refused, Found, event, closed, any_size, ranged, field_of, name_from, name_fields, job_from, job_fields, pick_fields, report_fields, fields_of, read_at}

-- a record that is refused
pub stops : {f : Found} {k start : ℕ} → f ≡ closed (refused k start) → Err (record { number = k; offset = start }) ≡ answer_of f
unfolding answer_of
stops h = ap answer_of (sym h)

-- the outcome that a number tells
pub outcome_told : (o : Outcome) {n : ℕ} → n ≡ outcome_number o → outcome_of n ≡ o
unfolding outcome_of when◌then◌else◌
outcome_told Success e = rw e refl
outcome_told Failure e = rw e refl

-- a number that is read is in its range
passes : (ℕ → Bool) → Number → Bool
passes range (number x next) = range x
passes range (fault k) = true

ranged_passes : (range : ℕ → Bool) (n : Number) → passes range (ranged range n) ≡ true
unfolding passes ranged when◌then◌else◌
ranged_passes range (number x next) = case_bool (range x) (λ y. rw y y) (λ z. rw z refl)
ranged_passes range (fault k) = refl

pub in_range : (range : ℕ → Bool) (n : Number) {x next : ℕ} → ranged range n ≡ number x next → range x ≡ true
unfolding passes
in_range range n h = sym (ap (passes range) h) ∙ ranged_passes range n

module _ (bytes : List ℕ) (start a : ℕ) where
  -- the number of a field, and the offset behind it; or its fault
  abbrev Is : (ℕ → Bool) → ℕ → ℕ → ℕ → Type 0
  Is range offset x next = ranged range (number_at bytes offset) ≡ number x next

  abbrev Faults : (ℕ → Bool) → ℕ → ℕ → Type 0
  Faults range offset k = ranged range (number_at bytes offset) ≡ fault k

  -- The record from its first field on, at a.

  pub pick_clock : {k : ℕ} → Faults any_size a k → pick_fields bytes start a ≡ closed (refused k start)
  unfolding pick_fields field_of
  pick_clock f = rw f refl

  pub pick_whole : {clock next : ℕ} → Is any_size a clock next → pick_fields bytes start a ≡ event (pick clock) next
  unfolding pick_fields field_of
  pick_whole f = rw f refl

  pub report_clock : {k : ℕ} → Faults any_size a k → report_fields bytes start a ≡ closed (refused k start)
  unfolding report_fields field_of
  report_clock f = rw f refl

  module _ {clock b : ℕ} (c : Is any_size a clock b) where
    pub report_entry : {k : ℕ} → Faults any_size b k → report_fields bytes start a ≡ closed (refused k start)
    unfolding report_fields field_of
    report_entry f = rw (c, f) refl

    module _ {e d : ℕ} (i : Is any_size b e d) where
      pub report_ticket : {k : ℕ} → Faults any_size d k → report_fields bytes start a ≡ closed (refused k start)
      unfolding report_fields field_of
      report_ticket f = rw (c, i, f) refl

      module _ {ticket g : ℕ} (t : Is any_size d ticket g) where
        pub report_outcome_lem : {k : ℕ} → Faults (within 0 1) g k → report_fields bytes start a ≡ closed (refused k start)
        unfolding report_fields field_of
        report_outcome_lem f = rw (c, i, t, f) refl

        pub report_whole : {o next : ℕ} → Is (within 0 1) g o next → report_fields bytes start a ≡ event (report clock e ticket o) next
        unfolding report_fields field_of
        report_whole f = rw (c, i, t, f) refl

  pub name_number_lem : {k : ℕ} → Faults (within 0 31) a k → name_fields bytes start a ≡ closed (refused k start)
  unfolding name_fields field_of
  name_number_lem f = rw f refl

  module _ {d b : ℕ} (n : Is (within 0 31) a d b) where
    pub name_size : {k : ℕ} → Faults (within 1 63) b k → name_fields bytes start a ≡ closed (refused k start)
    unfolding name_fields field_of
    name_size f = rw (n, f) refl

    module _ {size g : ℕ} (s : Is (within 1 63) b size g) where
      pub name_cut : length bytes < g + size → name_fields bytes start a ≡ closed (refused 12 start)
      unfolding name_fields name_from field_of when◌then◌else◌
      name_cut l = rw (n, s, lt-leb (g + size) (length bytes) l) refl

      pub name_whole : g + size ≤ length bytes → Ok (Some (record { what = Record.Name d size; next = g + size })) ≡ answer_of (name_fields bytes start a)
      unfolding name_fields name_from field_of record_of answer_of when◌then◌else◌
      name_whole l =
          let long : length (take size (drop g bytes)) ≡ size = length-take-le size (drop g bytes) (rw length-drop (omega (arith, l))) in
          rw (n, s, le-leb (g + size) (length bytes) l, long) refl

  pub job_clock : {k : ℕ} → Faults any_size a k → job_fields bytes start a ≡ closed (refused k start)
  unfolding job_fields field_of
  job_clock f = rw f refl

  module _ {clock b : ℕ} (c : Is any_size a clock b) where
    pub job_transport : {k : ℕ} → Faults any_size b k → job_fields bytes start a ≡ closed (refused k start)
    unfolding job_fields field_of
    job_transport f = rw (c, f) refl

    module _ {t d : ℕ} (i : Is any_size b t d) where
      pub job_count_lem : {k : ℕ} → Faults (within 1 256) d k → job_fields bytes start a ≡ closed (refused k start)
      unfolding job_fields field_of
      job_count_lem f = rw (c, i, f) refl

      pub job_listed : {count next : ℕ} → Is (within 1 256) d count next → job_fields bytes start a ≡ job_from bytes start clock t [] count next
      unfolding job_fields field_of
      job_listed f = rw (c, i, f) refl

-- A job's destinations, one after another.

module _ (bytes : List ℕ) (start clock t : ℕ) (dests : List ℕ) (more a : ℕ) where
  pub next_faulty : {k : ℕ} → 0 < more → ranged any_size (number_at bytes a) ≡ fault k → job_from bytes start clock t dests more a ≡ closed (refused k start)
  unfolding job_from field_of
  next_faulty p f = let e : more ≡ suc (more - 1) = omega (arith, p) in ap (λ k. job_from bytes start clock t dests k a) e ∙ rw f refl

  pub next_read :
      {d next : ℕ} → 0 < more → ranged any_size (number_at bytes a) ≡ number d next
      → job_from bytes start clock t dests more a ≡ job_from bytes start clock t (dests ++ (d ∷ [])) (more - 1) next
  unfolding job_from field_of
  next_read p f = let e : more ≡ suc (more - 1) = omega (arith, p) in ap (λ k. job_from bytes start clock t dests k a) e ∙ rw f refl

-- What stands at an offset before the end: a faulty kind, or the fields of its kind.

module _ (bytes : List ℕ) (offset : ℕ) (h : offset < length bytes) where
  pub reads_faulty : {k : ℕ} → ranged (within 0 3) (number_at bytes offset) ≡ fault k → read_at bytes offset ≡ closed (refused k offset)
  unfolding read_at field_of when◌then◌else◌
  reads_faulty f = rw (lt-leb (length bytes) offset h, f) refl

  module _ {kind next : ℕ} (k : ranged (within 0 3) (number_at bytes offset) ≡ number kind next) where
    reads_fields : read_at bytes offset ≡ fields_of bytes offset kind next
    unfolding read_at field_of when◌then◌else◌
    reads_fields = rw (lt-leb (length bytes) offset h, k) refl

    pub reads_name : kind ≡ 0 → read_at bytes offset ≡ name_fields bytes offset next
    unfolding fields_of when◌then◌else◌
    reads_name e = reads_fields ∙ rw e refl

    pub reads_job : kind ≡ 1 → read_at bytes offset ≡ job_fields bytes offset next
    unfolding fields_of when◌then◌else◌
    reads_job e = reads_fields ∙ rw e refl

    pub reads_pick : kind ≡ 2 → read_at bytes offset ≡ pick_fields bytes offset next
    unfolding fields_of when◌then◌else◌
    reads_pick e = reads_fields ∙ rw e refl

    pub reads_report : (kind ≡ 0 → ⊥) → (kind ≡ 1 → ⊥) → (kind ≡ 2 → ⊥) → read_at bytes offset ≡ report_fields bytes offset next
    unfolding fields_of when◌then◌else◌
    reads_report a b c = reads_fields ∙ rw (ne_eqb kind 0 a, ne_eqb kind 1 b, ne_eqb kind 2 c) refl
