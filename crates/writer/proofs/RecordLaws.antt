-- Each record in its parts, or refused for a field out of its range.
use Rattle.std.proofs.Common.{ℕ, ◌≡◌, ◌≤◌, true, false, ◌&&◌, List, [], ◌∷◌, length, Err, refl, sym, append-nil, arith}
use borrow.Author.Tests.{lt-ltb}
use Rattle.laws.specs.Sequence.{every_in}
use Rattle.laws.proofs.Bools.{if_false, and_both, and_left_false, and_right_false}
use Rattle.rules.specs.Setup.{within}
use Rattle.rules.proofs.RangeFacts.{within_facts}
use Rattle.journal.specs.Numbers.{small}
use Rattle.journal.specs.Records.{Event, name, job, pick, report, name_number, job_count, report_outcome}
use Rattle.journal.specs.Writes.{numbers_bytes, bytes_of, writable, writing_of}
use Rattle.journal.proofs.Groups.{numbers_append}
use Rattle.writer.proofs.PartLaws.{Writes, refuses, Parts}

-- A field is out of its range.

module _ (b : List ℕ) (used : ℕ) where
  abbrev pub Refuses : Event → Type 0
  Refuses v = Writes (Err 14) b (writing_of v b used)

  not_writable : (v : Event) → writable v ≡ false → Refuses v
  unfolding writing_of
  not_writable v f = refuses 14 b (if_false _ _ f)

  pub pick_clock : (clock : ℕ) → small clock ≡ false → Refuses (pick clock)
  unfolding writable
  pick_clock clock f = not_writable (pick clock) f

  module _ (clock e ticket outcome : ℕ) where
    pub report_clock : small clock ≡ false → Refuses (report clock e ticket outcome)
    unfolding writable
    report_clock f =
        not_writable (report clock e ticket outcome)
        (and_left_false (report_outcome outcome) (and_left_false (small ticket) (and_left_false (small e) f)))

    pub report_entry : small e ≡ false → Refuses (report clock e ticket outcome)
    unfolding writable
    report_entry f =
        not_writable (report clock e ticket outcome)
        (and_left_false (report_outcome outcome) (and_left_false (small ticket) (and_right_false (small clock) f)))

    pub report_ticket : small ticket ≡ false → Refuses (report clock e ticket outcome)
    unfolding writable
    report_ticket f = not_writable (report clock e ticket outcome) (and_left_false (report_outcome outcome) (and_right_false (small clock && small e) f))

    pub report_outcome_lem : within 0 1 outcome ≡ false → Refuses (report clock e ticket outcome)
    unfolding writable
    report_outcome_lem f = not_writable (report clock e ticket outcome) (and_right_false (small clock && small e && small ticket) f)

  module _ (d : ℕ) (word : List ℕ) where
    pub name_number_lem : within 0 31 d ≡ false → Refuses (name d word)
    unfolding writable
    name_number_lem f = not_writable (name d word) (and_left_false _ f)

    pub name_size : within 1 63 (length word) ≡ false → Refuses (name d word)
    unfolding writable
    name_size f = not_writable (name d word) (and_right_false (name_number d) f)

  module _ (clock t : ℕ) (dests : List ℕ) where
    pub job_clock : small clock ≡ false → Refuses (job clock t dests)
    unfolding writable
    job_clock f =
        not_writable (job clock t dests)
        (and_left_false (every_in small dests) (and_left_false (job_count (length dests)) (and_left_false (small t) f)))

    pub job_transport : small t ≡ false → Refuses (job clock t dests)
    unfolding writable
    job_transport f =
        not_writable (job clock t dests)
        (and_left_false (every_in small dests) (and_left_false (job_count (length dests)) (and_right_false (small clock) f)))

    pub job_count_lem : within 1 256 (length dests) ≡ false → Refuses (job clock t dests)
    unfolding writable
    job_count_lem f = not_writable (job clock t dests) (and_left_false (every_in small dests) (and_right_false (small clock && small t) f))

    pub job_large : every_in small dests ≡ false → Refuses (job clock t dests)
    unfolding writable
    job_large f = not_writable (job clock t dests) (and_right_false (small clock && small t && job_count (length dests)) f)

-- All fields are in their ranges.

few_small : (low high x : ℕ) → high ≤ 256 → within low high x ≡ true → small x ≡ true
few_small low high x h w = lt-ltb x 4_294_967_296 (omega (arith, h, (within_facts {low = low} {high = high} {x = x} w).1))

pub pick_parts : {clock : ℕ} → small clock ≡ true → Parts (pick clock) (2 ∷ clock ∷ []) []
unfolding every_in writable bytes_of
pick_parts c = record { may = c; smalls = and_both c refl; bytes = append-nil _ }

pub report_parts :
    {clock entry ticket outcome : ℕ} → small clock ≡ true → small entry ≡ true → small ticket ≡ true → within 0 1 outcome ≡ true
    → Parts (report clock entry ticket outcome) (3 ∷ clock ∷ entry ∷ ticket ∷ outcome ∷ []) []
unfolding every_in writable bytes_of
report_parts {outcome = outcome} c e t o =
    record {
      may = and_both (and_both (and_both c e) t) o;
      smalls = and_both c (and_both e (and_both t (and_both (few_small 0 1 outcome (omega arith) o) refl)));
      bytes = append-nil _;
    }

pub name_parts : {d : ℕ} {word : List ℕ} → within 0 31 d ≡ true → within 1 63 (length word) ≡ true → Parts (name d word) (0 ∷ d ∷ length word ∷ []) word
unfolding every_in writable bytes_of
name_parts {d} {word} n l =
    record {
      may = and_both n l;
      smalls = and_both (few_small 0 31 d (omega arith) n) (and_both (few_small 1 63 (length word) (omega arith) l) refl);
      bytes = refl;
    }

pub job_parts :
    {clock t : ℕ} {dests : List ℕ} → small clock ≡ true → small t ≡ true → within 1 256 (length dests) ≡ true → every_in small dests ≡ true
    → Parts (job clock t dests) (1 ∷ clock ∷ t ∷ length dests ∷ []) (numbers_bytes dests)
unfolding every_in writable bytes_of
job_parts {clock} {t} {dests} c u k s =
    record {
      may = and_both (and_both (and_both c u) k) s;
      smalls = and_both c (and_both u (and_both (few_small 1 256 (length dests) (omega arith) k) refl));
      bytes = sym (numbers_append (1 ∷ clock ∷ t ∷ length dests ∷ []) dests);
    }
