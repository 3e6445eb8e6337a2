-- Numbers looked through and measured one after the other.
use Prim.Native.Nat.{ℕ, zero, suc, ◌+◌, ◌*◌, ◌/◌, ◌%◌, ◌≤◌, ◌<◌}
use mathlib.Core.Path.{◌≡◌, refl, sym, ◌∙◌, ap}
use mathlib.Core.Bool.{true, false}
use mathlib.Core.List.{List, [], ◌∷◌, ◌++◌, append-nil}
use native.Mathlib.Omega.{arith}
use native.Mathlib.Numerals.{add-one}
use lib.ListN.{length, get_or, take, drop, length-append, take-append-drop}
use lib.Seq.{take-suc}
use lib.Dec.{ltb}
use borrow.Author.Tests.{ltb-true, ltb-false}
use Rattle.std.specs.List.{sum_by}
use Rattle.std.proofs.lemmas.List.Sums.{sum_by-cons}
use Rattle.laws.specs.Bools.{when◌then◌else◌}
use Rattle.laws.specs.Sequence.{every_in}
use Rattle.laws.proofs.Bools.{case_bool}
use Rattle.laws.proofs.Sequence.{every_get_or}
use Rattle.journal.specs.Numbers.{small}
use Rattle.journal.specs.Writes.{groups_of, number_bytes, numbers_bytes}
use Rattle.journal.proofs.Groups.{groups_one, groups_more, numbers_append}

-- how many groups a number has

module _ (most x : ℕ) where
  pub size_one : x < 128 → 1 ≡ length (groups_of (suc most) x)
  size_one h = rw (groups_one most x h) refl

  pub size_more : {n : ℕ} → 128 ≤ x → n ≡ length (groups_of most (x / 128)) → suc n ≡ length (groups_of (suc most) x)
  size_more h e = rw (groups_more most x h) (ap suc e)

  pub size_some : 1 ≤ length (groups_of (suc most) x)
  size_some = case_bool (ltb x 128) (λ t. omega (arith, size_one (ltb-true x 128 t))) (λ f. omega (arith, size_more (ltb-false x 128 f) refl))

-- the last group that may be
pub size_last : (x : ℕ) → 1 ≡ length (groups_of 1 x)
unfolding groups_of
size_last x = case_bool (ltb x 128) (λ t. size_one 0 x (ltb-true x 128 t)) (λ f. size_more 0 x (ltb-false x 128 f) refl)

-- one number behind the other

module _ (list : List ℕ) (i : ℕ) (h : i < length list) where
  take_next : take (i + 1) list ≡ take i list ++ (get_or list i 0 ∷ [])
  take_next = rw add-one (take-suc list i 0 h)

  pub numbers_next : numbers_bytes (take (i + 1) list) ≡ numbers_bytes (take i list) ++ number_bytes (get_or list i 0)
  unfolding numbers_bytes
  numbers_next =
      ap numbers_bytes take_next ∙ numbers_append (take i list) (get_or list i 0 ∷ [])
      ∙ ap (λ l. numbers_bytes (take i list) ++ l) (append-nil (number_bytes (get_or list i 0)))

  length_next : length (numbers_bytes (take (i + 1) list)) ≡ length (numbers_bytes (take i list)) + length (number_bytes (get_or list i 0))
  length_next = ap length numbers_next ∙ simp length-append

  -- where all have room, so has the next
  pub next_fits : length (numbers_bytes (take i list)) + length (number_bytes (get_or list i 0)) ≤ length (numbers_bytes list)
  next_fits =
      let all = ap (λ l. length (numbers_bytes l)) (take-append-drop (i + 1) list) in
      let parts = simp length-append at (ap length (numbers_append (take (i + 1) list) (drop (i + 1) list))) in
      omega (arith, length_next, all, parts)

  -- below 2^32

  pub small_at : every_in small list ≡ true → get_or list i 0 < 4_294_967_296
  small_at t = ltb-true _ _ (every_get_or small list t i 0 h)

-- the bytes that a list of numbers takes

-- how many bytes a number takes
abbrev pub bytes_in : ℕ → ℕ
bytes_in x = length (number_bytes x)

pub sizes_sum : (list : List ℕ) → sum_by bytes_in list ≡ length (numbers_bytes list)
unfolding numbers_bytes
sizes_sum [] = refl
sizes_sum (x ∷ list) = sum_by-cons bytes_in x list ∙ ap (λ n. bytes_in x + n) (sizes_sum list) ∙ sym (length-append (number_bytes x) (numbers_bytes list))

size_most : (most x : ℕ) → length (groups_of most x) ≤ most
unfolding groups_of when◌then◌else◌
size_most zero x = omega arith
size_most (suc most) x = elim (ltb x 128) as (λ b. length (when b then x ∷ [] else (128 + x % 128) ∷ groups_of most (x / 128)) ≤ suc most) [
  | true ↦ omega arith
  | false ↦ omega (arith, size_most most (x / 128))
]

pub sizes_few : (list : List ℕ) → length (numbers_bytes list) ≤ 5 * length list
unfolding number_bytes numbers_bytes
sizes_few [] = omega arith
sizes_few (x ∷ list) = omega (arith, sizes_few list, size_most 5 x, length-append (groups_of 5 x) (numbers_bytes list))
