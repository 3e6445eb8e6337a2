-- A number that was read is written as it stood: the bytes from its offset on are those of the number, and those behind it.
use Prim.Native.Nat.{ℕ, zero, suc, ◌+◌, ◌*◌, ◌-◌, ◌/◌, ◌%◌, ◌^◌, ◌<◌, ◌≤◌}
use mathlib.Core.Path.{◌≡◌, sym, ◌∙◌, ap, subst}
use mathlib.Core.Logic.{⊎_elim}
use mathlib.Core.Bool.{Bool, true, false, ◌&&◌}
use mathlib.Core.List.{List, [], ◌∷◌, ◌++◌, append_assoc}
use native.Mathlib.Nat.{pow-suc, one-le-pow, mod-eq_of_lt, div-eq_of_lt, add-mul-div_left, add-mul-mod_self_left}
use native.Mathlib.Numerals.{add-one}
use native.Mathlib.Omega.{arith}
use lib.ListN.{length, drop}
use lib.Seq.{drop-cons}
use lib.Dec.{eqb, ltb, leb}
use borrow.Author.Tests.{ltb-true, ltb-false, leb-true, leb-false, eqb-true, lt-ltb, le-ltb, le-leb}
use Rattle.laws.specs.Bools.{when◌then◌else◌}
use Rattle.laws.specs.Sequence.{every_in}
use Rattle.laws.proofs.Bools.{if_cases, and_left, and_right, or_cases, or_right}
use Rattle.laws.proofs.Sequence.{every_get_or}
use Rattle.rules.specs.State.{at}
use Rattle.journal.specs.Numbers.{Number, number, fault, above, groups_at, small, shortest, well_written, number_at}
use Rattle.journal.specs.Records.{ranged}
use Rattle.journal.specs.Writes.{groups_of, number_bytes}
use Rattle.roundtrips.specs.RoundTrips.{is_byte}

-- the lowest group, and the others above it
groups_more : (most low high : ℕ) → low < 128 → 0 < high → groups_of (suc most) (low + 128 * high) ≡ (128 + low) ∷ groups_of most high
unfolding groups_of when◌then◌else◌
groups_more most low high l h =
    let more : ltb (low + 128 * high) 128 ≡ false = le-ltb (low + 128 * high) 128 (omega arith) in
    let rest : (low + 128 * high) % 128 ≡ low = add-mul-mod_self_left low 128 high ∙ mod-eq_of_lt l in
    let quotient : (low + 128 * high) / 128 ≡ high = add-mul-div_left low high (omega arith) ∙ rw (div-eq_of_lt l) (omega arith) in
    rw (more, rest, quotient)

-- the groups above the lowest of a number in its shortest form: they are in theirs, and not all 0
shortest_above :
    (groups low high : ℕ) → 1 < groups → low < 128 → shortest groups (low + 128 * high) ≡ true
    → (0 < high) × (shortest (groups - 1) high ≡ true)
unfolding shortest
shortest_above groups low high g l h =
    let back : groups - 1 ≡ suc (groups - 1 - 1) = omega arith in
    let power : 128 ^ (groups - 1) ≡ 128 ^ (groups - 1 - 1) * 128 = ap (λ k. 128 ^ k) back ∙ pow-suc 128 (groups - 1 - 1) in
    let long : 128 ^ (groups - 1) ≤ low + 128 * high =
    ⊎_elim (λ e. absurd (omega (arith, eqb-true groups 1 e))) (λ e. leb-true _ _ e) (or_cases (eqb groups 1) (leb (128 ^ (groups - 1)) (low + 128 * high)) h) in
    (omega (arith, one-le-pow (groups - 1 - 1) 128 (omega arith)), or_right (eqb (groups - 1) 1) (le-leb (128 ^ (groups - 1 - 1)) high (omega arith)))

module _ (bytes : List ℕ) where
  -- every byte is below 256
  abbrev pub Bytes : Type 0
  Bytes = every_in is_byte bytes ≡ true

  -- a text stands at an offset, up to the next
  abbrev pub Stands : ℕ → List ℕ → ℕ → Type 0
  Stands offset text next = drop offset bytes ≡ text ++ drop next bytes

  -- one text behind the other
  pub stands_then : (a b c : ℕ) (s t : List ℕ) → Stands a s b → Stands b t c → Stands a (s ++ t) c
  stands_then a b c s t h k = h ∙ ap (λ l. s ++ l) k ∙ sym (append_assoc s t (drop c bytes))

  byte_stands : (offset : ℕ) → offset < length bytes → Stands offset (at bytes offset ∷ []) (offset + 1)
  byte_stands offset h = drop-cons bytes offset 0 h ∙ ap (λ n. at bytes offset ∷ drop n bytes) (sym (add-one offset))

  -- what is so of groups that are read: those of a number in its shortest form stand there as they are written
  abbrev Grouped : ℕ → ℕ → Number → Type 0
  Grouped most offset (number x next) = (offset < next) × (Bytes → shortest (next - offset) x ≡ true → Stands offset (groups_of most x) next)
  Grouped most offset (fault k) = Unit

  last_stands : (most offset : ℕ) → offset < length bytes → at bytes offset < 128 → Stands offset (groups_of (suc most) (at bytes offset)) (offset + 1)
  unfolding groups_of when◌then◌else◌
  last_stands most offset h l = rw (lt-ltb _ _ l) (byte_stands offset h)

  -- a group that is not the last, and what stands behind it
  more_stands :
      (most offset low high next : ℕ) → offset < length bytes → 128 + low ≡ at bytes offset → low < 128 → 0 < high → Stands (offset + 1) (groups_of most high) next
      → Stands offset (groups_of (suc most) (low + 128 * high)) next
  more_stands most offset low high next h top l p s =
      rw (groups_more most low high l p, top) (stands_then offset (offset + 1) next (at bytes offset ∷ []) (groups_of most high) (byte_stands offset h) s)

  above_grouped :
      (most offset low : ℕ) → offset < length bytes → 128 + low ≡ at bytes offset → (n : Number) → Grouped most (offset + 1) n
      → Grouped (suc most) offset (above low n)
  unfolding above
  above_grouped most offset low h top (number high next) g = (
    omega (arith, g.0),
    λ b s.
        let l : low < 128 = omega (arith, ltb-true (at bytes offset) 256 (every_get_or is_byte bytes b offset 0 h)) in
        let k = shortest_above (next - offset) low high (omega (arith, g.0)) l s in
        let rest : next - offset - 1 ≡ next - (offset + 1) = omega arith in
        more_stands most offset low high next h top l k.0 (g.1 b (subst (λ n. shortest n high ≡ true) rest k.1)),
  )
  above_grouped most offset low h top (fault k) g = tt

  groups_back : (most offset : ℕ) → Grouped most offset (groups_at most bytes offset)
  unfolding groups_at
  groups_back zero offset = tt
  groups_back (suc most) offset =
      if_cases (Grouped (suc most) offset) (leb (length bytes) offset) (λ h. tt) (λ h.
      if_cases (Grouped (suc most) offset) (ltb (at bytes offset) 128) (λ l. (omega arith, λ b s. last_stands most offset (leb-false _ _ h) (ltb-true _ _ l))) (λ l.
      let top : 128 + (at bytes offset - 128) ≡ at bytes offset = omega (arith, ltb-false (at bytes offset) 128 l) in
      above_grouped most offset (at bytes offset - 128) (leb-false _ _ h) top (groups_at most bytes (offset + 1)) (groups_back most (offset + 1))))

  -- what is so of a number that is read: it is below 2^32, passes a test, and stands there as it is written
  abbrev pub Numbered : ℕ → (ℕ → Bool) → Number → Type 0
  Numbered offset range (number x next) = (small x ≡ true) × (range x ≡ true) × (Bytes → Stands offset (number_bytes x) next)
  Numbered offset range (fault k) = Unit

  written_back : (offset : ℕ) (range : ℕ → Bool) (n : Number) → Grouped 5 offset n → Numbered offset range (ranged range (well_written offset n))
  unfolding well_written ranged number_bytes
  written_back offset range (number x next) g =
      if_cases (λ n. Numbered offset range (ranged range n)) (shortest (next - offset) x && small x) (λ w.
      let short = and_left (shortest (next - offset) x) (small x) w in
      if_cases (Numbered offset range) (range x) (λ r. (and_right (shortest (next - offset) x) (small x) w, r, λ b. g.1 b short)) (λ r. tt)) (λ w. tt)
  written_back offset range (fault k) g = tt

  pub number_back : (offset : ℕ) (range : ℕ → Bool) → Numbered offset range (ranged range (number_at bytes offset))
  unfolding number_at
  number_back offset range = written_back offset range (groups_at 5 bytes offset) (groups_back 5 offset)
