-- A job's destinations: those that are read stand in the list, zeros behind them.
use Rattle.std.proofs.Common.{ℕ, suc, ◌≡◌, ◌+◌, ◌-◌, ◌<◌, ◌≤◌, List, [], ◌∷◌, ◌++◌, length, set, replicate, Some, Ok, refl, sym, ap, ◌∙◌, append_assoc, length-append, arith}
use native.Mathlib.Nat.{sub-zero}
use lib.Seq.{set-append_seam}
use Rattle.laws.specs.Sequence.{padded}
use Rattle.journal.specs.declared.Record.{Record}
use Rattle.journal.specs.Numbers.{number, number_at}
use Rattle.journal.specs.Records.{job, event, any_size, ranged, job_from, job_fields}
use Rattle.journal.specs.Told.{record_of, answer_of, destinations_of, ReadingOf}
use Rattle.reader.proofs.RecordLaws.{next_read}

padded_next : (many : ℕ) (dests : List ℕ) (d : ℕ) → length dests < many → set (padded many dests) (length dests) d ≡ padded many (dests ++ (d ∷ []))
unfolding padded
padded_next many dests d h =
    let more : many - length dests ≡ suc (many - 1 - length dests) = omega (arith, h) in
    let less : many - length (dests ++ (d ∷ [])) ≡ many - 1 - length dests = rw length-append (omega (arith, h)) in
    ap (λ k. set (dests ++ replicate k 0) (length dests) d) more ∙ set-append_seam dests 0 (replicate (many - 1 - length dests) 0) d
    ∙ sym (append_assoc dests (d ∷ []) (replicate (many - 1 - length dests) 0))
    ∙ ap (λ k. (dests ++ (d ∷ [])) ++ replicate k 0) (sym less)

pub record Listed (bytes : List ℕ) (from clock t many : ℕ) (list : List ℕ) (now i : ℕ) : Type 0 where
  pub dests : List ℕ
  pub count : length dests ≡ i
  pub room : many ≤ 256
  pub stored : list ≡ padded 256 dests
  pub ahead : (start : ℕ) → job_fields bytes start from ≡ job_from bytes start clock t dests (many - i) now

module _ (bytes : List ℕ) (from : ℕ) {clock t many : ℕ} where
  pub none_listed :
      {now : ℕ} {list : List ℕ} → many ≤ 256 → list ≡ padded 256 [] → ((start : ℕ) → job_fields bytes start from ≡ job_from bytes start clock t [] many now)
      → Listed bytes from clock t many list now 0
  none_listed {now = now} k e h = record { dests = []; count = refl; room = k; stored = e; ahead = λ start. h start ∙ ap (λ n. job_from bytes start clock t [] n now) (sym (sub-zero many)) }

  module _ {list : List ℕ} {now i : ℕ} (l : Listed bytes from clock t many list now i) where
    pub one_more : i < many → {d next : ℕ} → ranged any_size (number_at bytes now) ≡ number d next → Listed bytes from clock t many (set list i d) next (i + 1)
    one_more h {d} {next} e =
        record {
          dests = l.dests ++ (d ∷ []);
          count = rw (length-append, l.count) refl;
          room = l.room;
          stored =
              ap (λ k. set k i d) l.stored ∙ ap (λ k. set (padded 256 l.dests) k d) (sym l.count)
              ∙ padded_next 256 l.dests d (omega (arith, l.count, l.room, h));
          ahead = λ start.
              let less : many - i - 1 ≡ many - (i + 1) = omega arith in
              l.ahead start ∙ next_read bytes start clock t l.dests (many - i) now (omega (arith, h)) e
              ∙ ap (λ k. job_from bytes start clock t (l.dests ++ (d ∷ [])) k next) less;
        }

    module _ (e : i ≡ many) (start : ℕ) where
      whole : job_fields bytes start from ≡ event (job clock t l.dests) now
      unfolding job_from
      whole = let none : many - i ≡ 0 = omega (arith, e) in l.ahead start ∙ ap (λ k. job_from bytes start clock t l.dests k now) none

      pub all_listed : ReadingOf (job_fields bytes start from) (record { answer = Ok (Some (record { what = Record.Job clock t many; next = now })); destinations = list })
      unfolding record_of answer_of destinations_of
      all_listed = rw whole (record { answer = rw (l.count, e) refl; destinations = l.stored })
