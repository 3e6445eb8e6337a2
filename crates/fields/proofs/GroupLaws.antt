-- A number, followed group by group: what is read so far, and what is still to be read.
use Prim.Native.Nat.{ℕ, zero, suc, ◌+◌, ◌*◌, ◌-◌, ◌^◌, ◌≤◌, ◌<◌}
use mathlib.Core.Path.{◌≡◌, refl, sym, ◌∙◌, ap}
use mathlib.Core.Bool.{true, false}
use mathlib.Core.List.{List}
use native.Mathlib.Nat.{add_assoc, mul-add, mul_assoc, mul_comm, mul-le-mul, mul-le-mul_right, le_of_lt, pow-zero, pow-suc}
use native.Mathlib.Omega.{arith}
use lib.ListN.{length}
use lib.Dec.{eqb, leb}
use borrow.Author.Tests.{le-leb, lt-leb, lt-ltb, le-ltb, ne_eqb}
use Rattle.laws.specs.Bools.{when◌then◌else◌}
use Rattle.rules.specs.State.{at}
use Rattle.journal.specs.Numbers.{Number, number, fault, above, groups_at, shortest, well_written, number_at}

-- the groups below, with those from `place` on
unfoldable pub onto : ℕ → ℕ → Number → Number
onto sum place (number x next) = number (sum + place * x) next
onto sum place (fault k) = fault k

onto_above : (sum place low : ℕ) (n : Number) → onto sum place (above low n) ≡ onto (sum + low * place) (place * 128) n
unfolding onto above
onto_above sum place low (number x next) = ap (λ y. number y next) (ap (λ y. sum + y) (mul-add place low (128 * x) ∙ step) ∙ sym (add_assoc sum _ _))
  where
    step : place * low + place * (128 * x) ≡ low * place + place * 128 * x
    step = rw (mul_comm place low, mul_assoc place 128 x) refl
onto_above sum place low (fault k) = refl

-- The cases of a group.

module _ (bytes : List ℕ) (offset : ℕ) where
  groups_cut : (left : ℕ) → 0 < left → length bytes ≤ offset → groups_at left bytes offset ≡ fault 12
  unfolding groups_at when◌then◌else◌
  groups_cut zero p h = absurd (omega (arith, p))
  groups_cut (suc left) p h = rw (le-leb _ _ h) refl

  module _ (h : offset < length bytes) {b : ℕ} (e : b ≡ at bytes offset) where
    groups_last : (left : ℕ) → 0 < left → b < 128 → groups_at left bytes offset ≡ number b (offset + 1)
    unfolding groups_at when◌then◌else◌
    groups_last zero p l = absurd (omega (arith, p))
    groups_last (suc left) p l = rw (lt-leb _ _ h, ← e, lt-ltb _ _ l) refl

    groups_more : (left : ℕ) → 128 ≤ b → groups_at (suc left) bytes offset ≡ above (b - 128) (groups_at left bytes (offset + 1))
    unfolding groups_at when◌then◌else◌
    groups_more left l = rw (lt-leb _ _ h, ← e, le-ltb _ _ l) refl

-- What is so before each group but the first: the groups from `offset` up to `now` make `sum`, and `left` more may come.

pub record Grouped (bytes : List ℕ) (offset sum place now left : ℕ) : Type 0 where
  pub whole : groups_at 5 bytes offset ≡ onto sum place (groups_at left bytes now)
  pub below : sum < place
  pub power : place ≡ 128 ^ (now - offset)
  pub reach : now + left ≡ offset + 5
  pub later : offset < now

-- a place of a number of five groups
power_small : (k : ℕ) → k ≤ 4 → 128 ^ k ≤ 268_435_456
power_small zero h = omega (arith, pow-zero 128)
power_small (suc zero) h = omega (arith, pow-zero 128, pow-suc 128 0)
power_small (suc (suc zero)) h = omega (arith, pow-zero 128, pow-suc 128 0, pow-suc 128 1)
power_small (suc (suc (suc zero))) h = omega (arith, pow-zero 128, pow-suc 128 0, pow-suc 128 1, pow-suc 128 2)
power_small (suc (suc (suc (suc zero)))) h = omega (arith, pow-zero 128, pow-suc 128 0, pow-suc 128 1, pow-suc 128 2, pow-suc 128 3)
power_small (suc (suc (suc (suc (suc k))))) h = absurd (omega (arith, h))

module _ (bytes : List ℕ) (offset : ℕ) where
  written : {n : Number} → groups_at 5 bytes offset ≡ n → number_at bytes offset ≡ well_written offset n
  unfolding number_at
  written e = ap (well_written offset) e

  -- The first group.

  pub first_cut : length bytes ≤ offset → number_at bytes offset ≡ fault 12
  unfolding well_written
  first_cut h = written (groups_cut bytes offset 5 (omega arith) h)

  module _ (h : offset < length bytes) {b : ℕ} (e : b ≡ at bytes offset) where
    pub first_last : b < 128 → number_at bytes offset ≡ number b (offset + 1)
    unfolding well_written shortest when◌then◌else◌
    first_last l =
        let one : offset + 1 - offset ≡ 1 = omega arith in
        written (groups_last bytes offset h e 5 (omega arith) l) ∙ rw (one, lt-ltb b 4_294_967_296 (omega (arith, l))) refl

    pub first_more : 128 ≤ b → b < 256 → Grouped bytes offset (b - 128) 128 (offset + 1) 4
    unfolding onto above
    first_more l m =
        record {
          whole = groups_more bytes offset h e 4 l ∙ as_onto (groups_at 4 bytes (offset + 1));
          below = omega (arith, l, m);
          power = let one : offset + 1 - offset ≡ 1 = omega arith in rw one (omega (arith, pow-zero 128, pow-suc 128 0));
          reach = omega arith;
          later = omega arith;
        }
      where
        as_onto : (n : Number) → above (b - 128) n ≡ onto (b - 128) 128 n
        as_onto (number x next) = refl
        as_onto (fault k) = refl

  -- The others.

  module _ {sum place now left : ℕ} (g : Grouped bytes offset sum place now left) where
    pub place_small : 0 < left → place ≤ 268_435_456
    place_small p = rw g.power (power_small (now - offset) (omega (arith, g.reach, g.later, p)))

    then_is : {n : Number} → groups_at left bytes now ≡ n → number_at bytes offset ≡ well_written offset (onto sum place n)
    then_is e = written (g.whole ∙ ap (onto sum place) e)

    pub none_left : left ≡ 0 → number_at bytes offset ≡ fault 13
    unfolding onto well_written groups_at
    none_left e = then_is (ap (λ k. groups_at k bytes now) e)

    pub then_cut : 0 < left → length bytes ≤ now → number_at bytes offset ≡ fault 12
    unfolding onto well_written
    then_cut p h = then_is (groups_cut bytes now left p h)

    -- seven bits at that place
    pub part_small : 0 < left → (b : ℕ) → b < 256 → b * place ≤ 256 * 268_435_456
    part_small p b m = mul-le-mul (le_of_lt m) (place_small p)

    pub sum_small : 0 < left → sum < 268_435_456
    sum_small p = omega (arith, g.below, place_small p)

    module _ (p : 0 < left) (h : now < length bytes) {b : ℕ} (e : b ≡ at bytes now) where
      -- one group more
      pub then_more : 128 ≤ b → b < 256 → Grouped bytes offset (sum + (b - 128) * place) (place * 128) (now + 1) (left - 1)
      then_more l m =
          let one : left ≡ suc (left - 1) = omega (arith, p) in
          let up : now + 1 - offset ≡ suc (now - offset) = omega (arith, g.later) in
          let most : (b - 128) * place ≤ 127 * place = mul-le-mul_right place (omega (arith, l, m)) in
          record {
            whole =
                g.whole ∙ ap (onto sum place) (ap (λ k. groups_at k bytes now) one ∙ groups_more bytes now h e (left - 1) l)
                ∙ onto_above sum place (b - 128) (groups_at (left - 1) bytes (now + 1));
            below = omega (arith, most, g.below);
            power = rw (up, pow-suc 128 (now - offset), ← g.power) refl;
            reach = omega (arith, g.reach, p);
            later = omega (arith, g.later);
          }

      module _ (l : b < 128) where
        last_one : number_at bytes offset ≡ well_written offset (number (sum + place * b) (now + 1))
        unfolding onto
        last_one = then_is (groups_last bytes now h e left p l)

        -- more than one group
        many : eqb (now + 1 - offset) 1 ≡ false
        many = ne_eqb (now + 1 - offset) 1 (λ k. omega (arith, g.later, k))

        lowest : 128 ^ (now + 1 - offset - 1) ≡ place
        lowest = let k : now + 1 - offset - 1 ≡ now - offset = omega (arith, g.later) in rw k (sym g.power)

        -- "shortest form only"
        pub last_zero : b ≡ 0 → number_at bytes offset ≡ fault 13
        unfolding well_written shortest when◌then◌else◌
        last_zero z = last_one ∙ rw (many, lowest, lt-leb place (sum + place * b) (rw z (omega (arith, g.below)))) refl

        module _ (z : b ≡ 0 → ⊥) where
          same : sum + place * b ≡ sum + b * place
          same = ap (λ k. sum + k) (mul_comm place b)

          long : leb place (sum + b * place) ≡ true
          long = le-leb place (sum + b * place) (let k : 1 * place ≤ b * place = mul-le-mul_right place (omega (arith, z)) in omega (arith, k))

          -- "below 2^32"
          pub last_large : 4_294_967_295 < sum + b * place → number_at bytes offset ≡ fault 13
          unfolding well_written shortest when◌then◌else◌
          last_large m = last_one ∙ rw (many, lowest, same, long, le-ltb (sum + b * place) 4_294_967_296 (omega (arith, m))) refl

          pub last_is : sum + b * place ≤ 4_294_967_295 → number_at bytes offset ≡ number (sum + b * place) (now + 1)
          unfolding well_written shortest when◌then◌else◌
          last_is m = last_one ∙ rw (many, lowest, same, long, lt-ltb (sum + b * place) 4_294_967_296 (omega (arith, m))) refl
