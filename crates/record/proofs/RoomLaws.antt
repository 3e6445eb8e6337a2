-- Every record that may be written has room in 1300 bytes: five groups for each of at most 260 numbers.
use Prim.Native.Nat.{ℕ, zero, suc, ◌*◌, ◌/◌, ◌≤◌}
use mathlib.Core.Path.{◌≡◌}
use mathlib.Core.Bool.{true, ◌&&◌}
use mathlib.Core.List.{List, [], ◌∷◌}
use native.Mathlib.Omega.{arith}
use native.Mathlib.Decide.{dec_lt}
use lib.ListN.{length, length-append}
use Rattle.laws.specs.Sequence.{every_in}
use Rattle.laws.proofs.Bools.{and_left, and_right}
use Rattle.rules.proofs.RangeFacts.{within_facts}
use Rattle.journal.specs.Numbers.{small}
use Rattle.journal.specs.Records.{Event, name, job, pick, report, name_number, name_length, job_count}
use Rattle.journal.proofs.Groups.{groups_one, groups_more}
use Rattle.journal.specs.Writes.{groups_of, number_bytes, numbers_bytes, bytes_of, writable}

groups_at_most : (most x : ℕ) → length (groups_of most x) ≤ most
unfolding groups_of
groups_at_most zero x = omega arith
groups_at_most (suc most) x = elim (dec_lt x 128) [
  | yes h ↦ rw (groups_one most x h) (omega arith)
  | no h ↦ rw (groups_more most x (omega arith)) (omega (arith, groups_at_most most (x / 128)))
]

numbers_at_most : (l : List ℕ) → length (numbers_bytes l) ≤ 5 * length l
unfolding number_bytes numbers_bytes
numbers_at_most [] = omega arith
numbers_at_most (x ∷ l) = simp length-append (omega (arith, groups_at_most 5 x, numbers_at_most l))

pub record_short : (e : Event) → writable e ≡ true → length (bytes_of e) ≤ 1300
unfolding bytes_of writable
record_short (name d word) h =
    let n = within_facts {low = 1} {high = 63} {x = length word} (and_right (name_number d) (name_length (length word)) h) in
    simp length-append (omega (arith, numbers_at_most (0 ∷ d ∷ length word ∷ []), n.1))
record_short (job clock t dests) h =
    let n = within_facts {low = 1} {high = 256} {x = length dests} (and_right (small clock && small t) (job_count (length dests)) (and_left _ (every_in small dests) h)) in
    omega (arith, numbers_at_most (1 ∷ clock ∷ t ∷ length dests ∷ dests), n.1)
record_short (pick clock) h = omega (arith, numbers_at_most (2 ∷ clock ∷ []))
record_short (report clock e ticket outcome) h = omega (arith, numbers_at_most (3 ∷ clock ∷ e ∷ ticket ∷ outcome ∷ []))
