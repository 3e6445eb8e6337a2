-- A job's destinations parted by the table of the dead: one turn of the pass.
use Prim.Native.Nat.{ℕ, ◌+◌, ◌≤◌, ◌<◌}
use mathlib.Core.Bool.{Bool, true, false, not}
use mathlib.Core.Path.{◌≡◌, sym, ap, ◌∙◌}
use mathlib.Core.List.{List}
use native.Mathlib.Omega.{arith}
use lib.ListN.{length, get_or, take, set}
use lib.Seq.{take-length}
use Rattle.laws.specs.Range.{chosen_to}
use Rattle.laws.specs.Sequence.{keep, padded}
use Rattle.laws.proofs.Bools.{not_is_true, not_is_false}
use Rattle.laws.proofs.First.{length_chosen_le, chosen_hit, chosen_miss}
use Rattle.laws.proofs.Front.{length_front, front_more, length_snoc}
use Rattle.laws.proofs.Building.{keep_put, keep_skip, length_keep_take}
use Rattle.rules.specs.State.{at}
use Rattle.rules.specs.Calls.{written}
use Rattle.admission.specs.Admission.{kept_by, put_off_by}
use Rattle.newjob.specs.NewJob.{Parted}

-- up to i
pub record Parting (dead : List Bool) (dests before after kept : List ℕ) (n m i : ℕ) : Type 0 where
  pub bound : i ≤ length dests
  pub built : kept ≡ padded 256 (keep (λ d. not (get_or dead d false)) (take i dests))
  pub count : n ≡ length (keep (λ d. not (get_or dead d false)) (take i dests))
  pub found : m ≡ length (chosen_to (λ k. get_or dead (at dests k) false) i)
  pub list : after ≡ written (chosen_to (λ k. get_or dead (at dests k) false) i) before

module _ {dead : List Bool} {dests before after kept : List ℕ} {n m i : ℕ} (r : Parting dead dests before after kept n m i) where
  pub parting_found : m ≤ i
  parting_found = omega (arith, r.found, length_chosen_le (λ k. get_or dead (at dests k) false) i)

  pub parting_count : n ≤ i
  parting_count = omega (arith, r.count, length_keep_take (λ d. not (get_or dead d false)) dests i r.bound)

  pub parting_length : length dests ≤ length before → length after ≡ length before
  parting_length lent =
      let q : ℕ → Bool = λ k. get_or dead (at dests k) false in
      ap length r.list ∙ length_front (chosen_to q i) before (omega (arith, r.bound, length_chosen_le q i))

module _
    {dead : List Bool}
    {dests before after kept : List ℕ}
    {n m i : ℕ}
    (r : Parting dead dests before after kept n m i)
    (h : i < length dests)
    (few : length dests ≤ 256)
    (lent : length dests ≤ length before) where
  pub parting_dead :
      {after' kept' : List ℕ} {n' m' : ℕ}
      → get_or dead (at dests i) false ≡ true
      → after' ≡ set after m i
      → kept' ≡ kept
      → n' ≡ n
      → m' ≡ m + 1
      → Parting dead dests before after' kept' n' m' (i + 1)
  parting_dead t wrote same still more =
      let q : ℕ → Bool = λ k. get_or dead (at dests k) false in
      let p : ℕ → Bool = λ d. not (get_or dead d false) in
      let e = chosen_hit q i t in
      let k = keep_skip p dests i 256 h r.built r.count (not_is_false t) same still in
      let room : length (chosen_to q i) < length before = omega (arith, length_chosen_le q i) in
      record {
        bound = omega arith;
        built = k.0;
        count = k.1;
        found = more ∙ ap (λ x. x + 1) r.found ∙ sym (length_snoc (chosen_to q i) i) ∙ ap length (sym e);
        list = wrote ∙ rw (r.list, r.found, e) (front_more (chosen_to q i) before i room);
      }

  pub parting_live :
      {after' kept' : List ℕ} {n' m' : ℕ}
      → get_or dead (at dests i) false ≡ false
      → after' ≡ after
      → kept' ≡ set kept n (at dests i)
      → n' ≡ n + 1
      → m' ≡ m
      → Parting dead dests before after' kept' n' m' (i + 1)
  parting_live f same wrote more still =
      let q : ℕ → Bool = λ k. get_or dead (at dests k) false in
      let p : ℕ → Bool = λ d. not (get_or dead d false) in
      let e = chosen_miss q i f in
      let k = keep_put p dests i 256 h r.built r.count (omega arith) (not_is_true f) wrote more in
      record {
        bound = omega arith;
        built = k.0;
        count = k.1;
        found = still ∙ r.found ∙ ap length (sym e);
        list = same ∙ r.list ∙ ap (λ vs. written vs before) (sym e);
      }

pub parted : {dead : List Bool} {dests before after kept : List ℕ} {n m i : ℕ} → Parting dead dests before after kept n m i → length dests ≤ i
    → Parted dead dests before after (record { kept = kept; n = n; putoff = m })
unfolding kept_by put_off_by
parted {dests = dests} {i = i} r h =
    let e : i ≡ length dests = omega (arith, r.bound) in
    record {
      kept = rw (e, take-length dests) at r.built;
      n = rw (e, take-length dests) at r.count;
      putoff = rw e at r.found;
      list = rw e at r.list;
    }
