-- The loops of `each_once` and `seconds_rise`.
use Prim.Native.Nat.{ℕ, suc, ◌+◌, ◌≤◌, ◌<◌}
use mathlib.Core.Bool.{Bool, true, false, not, ◌&&◌}
use mathlib.Core.Path.{◌≡◌, refl, sym, ◌∙◌, ap}
use mathlib.Core.Logic.{⊎_elim}
use mathlib.Core.List.{List, [], ◌∷◌, ◌++◌}
use native.Mathlib.Decide.{ℕ_discrete}
use native.Mathlib.Numerals.{add-one}
use native.Mathlib.Nat.{le_refl}
use native.Mathlib.Omega.{arith}
use lib.Dec.{eqb, leb}
use lib.ListN.{length, get_or, set, take, length-set}
use lib.Seq.{get_or-set_same, get_or-set_other, take-suc, get_or-take, length-take-le}
use borrow.Author.Tests.{eqb-true, eq-eqb, ne_eqb, lt-ltb, le-leb, leb-true, not-true}
use Rattle.laws.specs.Bools.{one}
use Rattle.laws.specs.Range.{any_to, count_to}
use Rattle.laws.specs.Sequence.{holds, every_in, holds_each_once, never_falling}
use Rattle.laws.proofs.Bools.{true_not_false, bool_same, false_of, and_both, and_left, and_right, and_left_false, and_right_false, not_is_true, one_true, one_false, one_positive, one_zero}
use Rattle.laws.proofs.All.{any_of, any_none, any_false_at, any_witness}
use Rattle.laws.proofs.Count.{count_step, count_more}
use Rattle.laws.proofs.Index.{holds_take, times_take}
use Rattle.laws.proofs.Once.{EachOnce, once_facts, once_of, once_times, each_once_same}
use Rattle.laws.proofs.Sequence.{every_at, every_append_both, holds_append_cases, holds_cases, holds_get_or}
use Rattle.laws.proofs.Falling.{falling_last, falling_get_or}
use Rattle.laws.proofs.Places.{get_d_default}
use Rattle.rules.specs.declared.JobList.{JobList}
use Rattle.rules.specs.State.{at, zero_list, list_of}
use Rattle.listing.specs.Listing.{queue_test}

-- after n places of l, the table has those that pass the test and were not met
pub record Left (p : ℕ → Bool) (l : List ℕ) (n : ℕ) (left : List Bool) : Type 0 where
  pub size : length left ≡ 32
  pub rest : (x : ℕ) → x < 32 → one (get_or left x false) + count_to (λ i. eqb x (at l i)) n ≡ one (p x)
  pub met : (i : ℕ) → i < n → (at l i < 32) × (p (at l i) ≡ true)

pub left_none : (l : List ℕ) (left : List Bool) → length left ≡ 32 → Left (λ x. get_or left x false) l 0 left
unfolding count_to
left_none l left e = record { size = e; rest = λ x b. omega arith; met = λ i b. absurd (omega arith) }

module _ (p : ℕ → Bool) (l : List ℕ) (n : ℕ) (left : List Bool) (s : Left p l n left) where
  module _ (x : ℕ) (e : x ≡ at l n) where
    hit : count_to (λ i. eqb x (at l i)) (n + 1) ≡ count_to (λ i. eqb x (at l i)) n + 1
    hit = omega (arith, count_step (λ i. eqb x (at l i)) n, one_true (eq-eqb x (at l n) e))

    pub left_more : x < 32 → get_or left x false ≡ true → Left p l (n + 1) (set left x false)
    left_more b t =
        record {
          size = length-set left x false ∙ s.size;
          rest = λ y c. elim (ℕ_discrete y x) [
            | yes q ↦ rw (q, get_or-set_same left x false false (omega (arith, s.size))) (omega (arith, one_false {b = false} refl, s.rest x b, one_true t, hit))
            | no ne ↦ rw (get_or-set_other left x y false false ne) (omega (arith, s.rest y c, count_step (λ i. eqb y (at l i)) n, one_false (ne_eqb y (at l n) (λ q. ne (q ∙ sym e)))))
          ];
          met = λ i c. elim (ℕ_discrete i n) [
            | yes q ↦ rw (q, ← e) (b, one_positive (p x) (omega (arith, s.rest x b, one_true t)))
            | no ne ↦ s.met i (omega arith)
          ];
        }

    module _ (count : ℕ) (inside : n < count) (fits : count ≤ length l) where
      held : holds x (take count l) ≡ true
      held = holds_take x l 0 count fits ∙ any_of (λ i. eqb x (at l i)) count n inside (eq-eqb x (at l n) e)

      pub left_out : 32 ≤ x → holds_each_once p 32 (take count l) ≡ false
      left_out b = false_of λ h. (let k = (once_facts p 32 (take count l) h).below x held in omega arith)

      pub left_gone : x < 32 → get_or left x false ≡ false → holds_each_once p 32 (take count l) ≡ false
      left_gone b f =
          false_of λ h.
          omega (
            arith,
            once_times (once_facts p 32 (take count l) h) x,
            ap (λ b. one (b && p x)) (lt-ltb x 32 b),
            times_take x l 0 count fits,
            count_more (λ i. eqb x (at l i)) {m = n + 1} {n = count} (omega arith),
            hit,
            s.rest x b,
            one_false f,
          )

pub left_done : (p : ℕ → Bool) (l : List ℕ) (n : ℕ) (left : List Bool) → Left p l n left → n ≤ length l → not (any_to (λ x. get_or left x false) 32) ≡ holds_each_once p 32 (take n l)
left_done p l n left s fits =
    bool_same (λ h. once_of p 32 (take n l) (whole (any_false_at (λ x. get_or left x false) 32 (not-true (any_to (λ x. get_or left x false) 32) h))))
    λ h. not_is_true (any_none (λ x. get_or left x false) 32 (none (once_facts p 32 (take n l) h)))
  where
    none : EachOnce p 32 (take n l) → (x : ℕ) → x < 32 → get_or left x false ≡ false
    none r x b =
        one_zero (get_or left x false)
        (omega (arith, once_times r x, ap (λ b. one (b && p x)) (lt-ltb x 32 b), times_take x l 0 n fits, s.rest x b))

    place : (x : ℕ) → holds x (take n l) ≡ true → (x < 32) × (p x ≡ true)
    place x h =
        let w = any_witness (λ i. eqb x (at l i)) n (sym (holds_take x l 0 n fits) ∙ h) in
        rw (eqb-true x (at l w.0) w.2) (s.met w.0 w.1)

    whole : ((x : ℕ) → x < 32 → get_or left x false ≡ false) → EachOnce p 32 (take n l)
    whole none =
        record {
          below = λ x h. (place x h).0;
          passes = λ x h. (place x h).1;
          once = λ x b t. times_take x l 0 n fits ∙ omega (arith, s.rest x b, one_false (none x b), one_true t);
        }

-- after n of the first count places of l, whose last value of f is `last`
pub record Rising (f : ℕ → ℕ) (clock : ℕ) (l : List ℕ) (count last n : ℕ) : Type 0 where
  pub rises : never_falling f (take n l) ≡ true
  pub past : every_in (λ j. leb (f j) clock) (take n l) ≡ true
  pub under : (x : ℕ) → holds x (take n l) ≡ true → f x ≤ last
  pub over : never_falling f (take count l) ≡ true → (j : ℕ) → n ≤ j → j < count → last ≤ f (at l j)

module _ (f : ℕ → ℕ) (clock : ℕ) (l : List ℕ) (count : ℕ) where
  pub rising_none : Rising f clock l count 0 0
  unfolding never_falling every_in holds
  rising_none = record { rises = refl; past = refl; under = λ x h. true_not_false h refl; over = λ h j a b. omega arith }

  module _ (fits : count ≤ length l) (last n : ℕ) (s : Rising f clock l count last n) (inside : n < count) (second : ℕ) (e : second ≡ f (at l n)) where
    pub rising_more : last ≤ second → second ≤ clock → Rising f clock l count second (n + 1)
    unfolding every_in holds
    rising_more a b =
        rw add-one
        (record {
          rises = rw one_more (falling_last f (take n l) (at l n) s.rises (λ x h. omega (arith, s.under x h)));
          past = rw one_more (every_append_both (λ j. leb (f j) clock) (take n l) (at l n ∷ []) s.past (and_both (le-leb (f (at l n)) clock (omega arith)) refl));
          under = λ x h.
              ⊎_elim (λ k. omega (arith, s.under x k)) (λ k. ⊎_elim (λ q. rw q (omega arith)) (λ z. true_not_false z refl) (holds_cases x (at l n) [] k))
              (holds_append_cases x (take n l) (at l n ∷ []) (rw one_more at h));
          over = λ h j c d.
              rw e
              (rw (get_or-take count l n 0 inside, get_or-take count l j 0 d) at
              (falling_get_or f (take count l) h n j 0 c (rw (length-take-le count l fits) d)));
        })
      where
        one_more : take (suc n) l ≡ take n l ++ (at l n ∷ [])
        one_more = take-suc l n 0 (omega arith)

    never : second < last → never_falling f (take count l) ≡ true → ⊥
    never a h = omega (arith, s.over h n (le_refl n) inside)

    pub rising_falls : second < last → never_falling f (take count l) && every_in (λ j. leb (f j) clock) (take count l) ≡ false
    rising_falls a = and_left_false (every_in (λ j. leb (f j) clock) (take count l)) (false_of (never a))

    pub rising_late : clock < second → never_falling f (take count l) && every_in (λ j. leb (f j) clock) (take count l) ≡ false
    rising_late a =
        and_right_false (never_falling f (take count l))
        (false_of λ h.
        omega (
          arith,
          leb-true (f (at l n)) clock
              (every_at (λ j. leb (f j) clock) (take count l) h (at l n)
              (rw (get_or-take count l n 0 inside) at (holds_get_or (take count l) n 0 (rw (length-take-le count l fits) inside)))),
        ))

pub place_below : (l : List ℕ) (count : ℕ) → count ≤ length l → ((x : ℕ) → holds x (take count l) ≡ true → x < 32) → (i : ℕ) → i < count → at l i < 32
place_below l count fits h i b =
    h (at l i) (rw (get_or-take count l i 0 b) at (holds_get_or (take count l) i 0 (rw (length-take-le count l fits) b)))

-- the list that the code reads past the last transport
abbrev pub no_list : JobList
no_list = record { jobs = []; count = 0 }

pub queue_tested :
    (queues : List JobList) (present : List Bool) (transport : List ℕ) (t : ℕ) (these : List Bool) (r : Bool)
    → t < length queues
    → ((j : ℕ) → j < 32 → get_or these j false ≡ get_or present j false && eqb (at transport j) t)
    → r ≡ leb (get_or queues t no_list).count 32 && holds_each_once (λ x. get_or these x false) 32 (list_of (get_or queues t no_list))
    → r ≡ queue_test queues present transport t
unfolding queue_test
queue_tested queues present transport t these r b h e =
    e
    ∙ ap (λ (q : JobList). leb q.count 32 && holds_each_once (λ x. get_or these x false) 32 (list_of q)) (get_d_default queues t no_list zero_list b)
    ∙ ap (λ b. leb (get_or queues t zero_list).count 32 && b)
    (each_once_same (λ x. get_or these x false) (λ j. get_or present j false && eqb (at transport j) t) 32 (list_of (get_or queues t zero_list)) h)

pub listed_below : (p : ℕ → Bool) (count : ℕ) (l : List ℕ) → leb count 32 && holds_each_once p 32 l ≡ true → (count ≤ 32) × ((x : ℕ) → holds x l ≡ true → x < 32)
listed_below p count l h =
    (leb-true count 32 (and_left (leb count 32) (holds_each_once p 32 l) h), (once_facts p 32 l (and_right (leb count 32) (holds_each_once p 32 l) h)).below)
