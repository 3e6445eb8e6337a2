-- Each row of the table of refusals after the clock's, from what a pass over the columns found.
use Prim.Native.Nat.{ℕ, ◌≤◌, ◌<◌}
use mathlib.Core.Bool.{Bool, true, false, not, ◌&&◌}
use mathlib.Core.Path.{◌≡◌, refl, ap, ◌∙◌}
use mathlib.Core.List.{List}
use native.Mathlib.Omega.{arith}
use lib.ListN.{length, get_or}
use lib.Dec.{eqb, ltb, leb}
use borrow.Author.Tests.{ltb-true, ltb-false, lt-ltb, le-ltb, le-leb, lt-leb, eqb-true, eqb-false, not-false}
use Rattle.std.specs.Option.{is_some}
use Rattle.laws.specs.Bools.{when◌then◌else◌}
use Rattle.laws.specs.Range.{all_to, count_to, first_to, first_below, table_to}
use Rattle.laws.specs.Sequence.{every_in}
use Rattle.laws.proofs.Bools.{case_bool, and_both, and_left, and_left_false, and_right_false, true_not_false, false_of, not_is_false}
use Rattle.laws.proofs.All.{all_at, all_from}
use Rattle.laws.proofs.First.{first_before, first_holds, chosen_same}
use Rattle.laws.proofs.Keep.{keep_same}
use Rattle.laws.proofs.Table.{get_or_table}
use Rattle.laws.proofs.Sequence.{every_get_or, holds_place}
use Rattle.rules.specs.declared.State.{State}
use Rattle.rules.specs.State.{at}
use Rattle.rules.specs.Setup.{within}
use Rattle.rules.specs.Sound.{sound}
use Rattle.rules.specs.Windows.{woken}
use Rattle.rules.specs.Taking.{is_dead, kept_of, n_of, put_off_positions}
use Rattle.rules.specs.Refusals.{bad_clock, is_destination_on, lacks_number, lacks_places, job_refusal}
use Rattle.rules.proofs.Soundness.{few_destinations}
use Rattle.admission.specs.Admission.{dead_on, on_transport, free_in, kept_by, put_off_by, further_refusal}

-- What the columns say of the state after waking.

-- every destination is below 32
abbrev pub Small : List ℕ → Type 0
Small dests = (k : ℕ) → k < length dests → at dests k < 32

module _ (w : State) (dead : List Bool) (table : dead ≡ table_to (dead_on w.destinations) 32) (dests : List ℕ) (small : Small dests) where
  dead_at : (d : ℕ) → d < 32 → get_or dead d false ≡ is_dead w d
  unfolding is_dead dead_on
  dead_at d h = ap (λ a. get_or a d false) table ∙ get_or_table (dead_on w.destinations) 32 d false h

  pub kept_by_is : kept_by dead dests ≡ kept_of w dests
  unfolding kept_by kept_of
  kept_by_is =
      keep_same (λ d. not (get_or dead d false)) (λ d. not (is_dead w d)) dests λ d h.
      let v = holds_place d dests 0 h in
      ap not (dead_at d (rw (← v.2) (small v.0 v.1)))

  pub put_off_by_is : put_off_by dead dests ≡ put_off_positions w dests
  unfolding put_off_by put_off_positions
  put_off_by_is =
      chosen_same (λ i. get_or dead (at dests i) false) (λ i. is_dead w (at dests i)) (length dests) λ i h. dead_at (at dests i) (small i h)

-- no number is free where all are present
pub none_free : (p : ℕ → Bool) → is_some (first_below (λ j. not (p j)) 32) ≡ not (all_to p 32)
none_free p =
    let absent : ℕ → Bool = λ j. not (p j) in
    case_bool (ltb (first_to absent 32) 32)
    (λ t.
    let l = ltb-true (first_to absent 32) 32 t in
    let f : all_to p 32 ≡ false = false_of λ a. true_not_false (first_holds absent 32 l) (not_is_false (all_at p 32 a (first_to absent 32) l)) in
    rw (t, f) refl)
    (λ f.
    let h : (i : ℕ) → i < 32 → p i ≡ true = λ i l. not-false (p i) (first_before absent 32 i (omega (arith, ltb-false (first_to absent 32) 32 f))) in
    rw (f, all_from p 32 h) refl)

-- Each test, in the table's order.

pub too_few : (n : ℕ) → eqb n 0 ≡ true → within 1 256 n ≡ false
unfolding within
too_few n h = and_left_false _ (lt-leb 1 n (omega (arith, eqb-true n 0 h)))

pub too_many : (n : ℕ) → 256 < n → within 1 256 n ≡ false
unfolding within
too_many n h = and_right_false (leb 1 n) (lt-leb n 256 h)

pub right_length : (n : ℕ) → eqb n 0 ≡ false → n ≤ 256 → within 1 256 n ≡ true
unfolding within
right_length n h k = and_both (le-leb 1 n (omega (arith, eqb-false n 0 h))) (le-leb n 256 k)

module _ (home : List ℕ) (present : List Bool) (kind : List ℕ) (transports count t : ℕ) (dests : List ℕ) (n places : ℕ) where
  abbrev Refused : ℕ → Type 0
  Refused k = k ≡ further_refusal home present kind transports count t dests n places

  pub refuses_transport : transports ≤ t → Refused 4
  unfolding further_refusal when◌then◌else◌
  refuses_transport h = rw (le-ltb t transports h) refl

  module _ (there : t < transports) where
    pub refuses_length : within 1 256 (length dests) ≡ false → Refused 5
    unfolding further_refusal when◌then◌else◌
    refuses_length h = rw (lt-ltb t transports there, h) refl

    module _ (right : within 1 256 (length dests) ≡ true) where
      pub refuses_other : every_in (on_transport home count t) dests ≡ false → Refused 6
      unfolding further_refusal when◌then◌else◌
      refuses_other h = rw (lt-ltb t transports there, right, h) refl

      module _ (theirs : every_in (on_transport home count t) dests ≡ true) where
        pub refuses_number : ltb 0 n && all_to (λ j. get_or present j false) 32 ≡ true → Refused 7
        unfolding further_refusal when◌then◌else◌
        refuses_number h = rw (lt-ltb t transports there, right, theirs, h) refl

        module _ (number : ltb 0 n && all_to (λ j. get_or present j false) 32 ≡ false) where
          pub refuses_places : count_to (free_in kind) 512 < n → Refused 8
          unfolding further_refusal when◌then◌else◌
          refuses_places h = rw (lt-ltb t transports there, right, theirs, number, lt-ltb (count_to (free_in kind) 512) n h) refl

          module _ (enough : n ≤ count_to (free_in kind) 512) where
            pub refuses_list : places < length dests → Refused 10
            unfolding further_refusal when◌then◌else◌
            refuses_list h =
                rw (lt-ltb t transports there, right, theirs, number, le-ltb (count_to (free_in kind) 512) n enough, lt-ltb places (length dests) h) refl

            pub refuses_nothing : length dests ≤ places → Refused 0
            unfolding further_refusal when◌then◌else◌
            refuses_nothing h =
                rw (lt-ltb t transports there, right, theirs, number, le-ltb (count_to (free_in kind) 512) n enough, le-ltb places (length dests) h) refl

-- destinations of one transport are below 32
pub small_of : (home : List ℕ) (count t : ℕ) (dests : List ℕ) → count ≤ 32 → every_in (on_transport home count t) dests ≡ true → Small dests
unfolding on_transport
small_of home count t dests h e k l =
    let d = at dests k in
    omega (arith, ltb-true d count (and_left (ltb d count) (eqb (at home d) t) (every_get_or (λ d. ltb d count && eqb (at home d) t) dests e k 0 l)))

-- Of a sound state with a good clock, these tests are the rules'.

module _ (s : State) (now t : ℕ) (dests list : List ℕ) (whole : sound s ≡ true) (good : bad_clock s now ≡ false) where
  -- by the number of entries that would wait
  abbrev further : ℕ → ℕ
  further n =
      further_refusal s.setup.home s.jobs.present s.entries.kind s.setup.transports s.setup.destinations t dests n (length list)

  further_counted : further (n_of (woken s now) dests) ≡ job_refusal s now t dests list
  unfolding further_refusal job_refusal lacks_number lacks_places on_transport is_destination_on free_in woken when◌then◌else◌
  further_counted = rw (whole, good) refl

  -- where a destination is another transport's, that number is not asked
  further_other : every_in (on_transport s.setup.home s.setup.destinations t) dests ≡ false → (n m : ℕ) → further n ≡ further m
  unfolding further_refusal when◌then◌else◌
  further_other h n m = rw h refl

  pub further_is : (dead : List Bool) → dead ≡ table_to (dead_on (woken s now).destinations) 32 → further (length (kept_by dead dests)) ≡ job_refusal s now t dests list
  unfolding n_of
  further_is dead table =
      case_bool (every_in (on_transport s.setup.home s.setup.destinations t) dests)
      (λ theirs.
      let small = small_of s.setup.home s.setup.destinations t dests (few_destinations s whole) theirs in
      ap (λ l. further (length l)) (kept_by_is (woken s now) dead table dests small) ∙ further_counted)
      (λ other. further_other other _ _ ∙ further_counted)
